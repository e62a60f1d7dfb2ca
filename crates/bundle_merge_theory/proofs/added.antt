-- What is so of the items that a linker adds.
pub mod Rows
pub mod Imports
pub mod Helper
pub mod LoadForms
pub mod Namespaces
pub mod Helps
pub mod Theorem
