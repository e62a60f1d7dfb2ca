pub mod Among
pub mod Fronts
pub mod Unique
pub mod Becomings
pub mod Theorem
pub mod Counting
pub mod Remade
pub mod Naming
pub mod Lone
pub mod Keywords
mod Examples
