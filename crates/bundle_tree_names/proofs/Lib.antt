pub mod Names
pub mod Numbering
