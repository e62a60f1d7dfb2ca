-- What is told of a statement of a module.
pub mod Cleared
pub mod Tops
pub mod Calls
pub mod Kinds
pub mod Imported
pub mod Meaning
pub mod Defaults
pub mod Meant
pub mod Notes
pub mod Theorem
