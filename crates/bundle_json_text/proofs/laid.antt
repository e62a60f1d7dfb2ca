-- Each syntax tree is laid out as the JSON form wants it.
pub mod Shown
pub mod Modules
