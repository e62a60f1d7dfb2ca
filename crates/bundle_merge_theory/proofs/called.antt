-- One function's call of a bundle is a bundle.
pub mod Homes
pub mod Paths
pub mod Lists
pub mod MarksMoved
pub mod Means
pub mod Sides
pub mod Plain
pub mod Spots
pub mod Exported
pub mod Theorem
pub mod LaidOut
pub mod Undoubled
pub mod Seated
pub mod Examples
pub mod HandedOut
