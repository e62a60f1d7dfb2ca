-- Lists of elements with nothing noted and with no contexts but those of names.
pub mod Tidy
