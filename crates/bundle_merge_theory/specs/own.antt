pub mod Beside
pub mod Functions
