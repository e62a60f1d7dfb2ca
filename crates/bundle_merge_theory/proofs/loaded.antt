pub mod Beside
pub mod Parts
pub mod Pieces
pub mod Declaring
pub mod Noted
pub mod Theorem
pub mod Examples
pub mod Parameters
