-- The items of a bundle are tidy.
pub mod Forms
pub mod Cleans
pub mod Theorem
