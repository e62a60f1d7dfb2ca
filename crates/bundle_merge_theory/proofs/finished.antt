-- A merged bundle that is rid of keywords and named in one go is a bundle whose names are right.
pub mod Statements
pub mod Twice
pub mod Tidied
pub mod Rules
pub mod Numbers
pub mod Listing
pub mod Modules
pub mod Items
pub mod Bundles
mod Examples
pub mod AtOnce
pub mod Theorem
