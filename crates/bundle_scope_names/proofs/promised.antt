-- What becomes of a tree by the names that are given, as it is promised.
pub mod Idents
pub mod Keywords
pub mod Names
