-- No name of a bundle is declared where another of its name excludes it.
pub mod Clash
pub mod Joined
pub mod Statements
pub mod Together
pub mod Added
pub mod Function
pub mod Theorem
