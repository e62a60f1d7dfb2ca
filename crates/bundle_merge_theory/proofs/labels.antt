-- What each label that is meant is declared by.
pub mod Walked
pub mod Silent
pub mod Stated
pub mod Modules
pub mod Tops
pub mod Bound
pub mod Entries
pub mod Locals
pub mod Theorem
