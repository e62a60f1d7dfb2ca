pub mod Suited
pub mod Calls
pub mod Pieces
