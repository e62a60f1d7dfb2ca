pub mod Becomes
pub mod Fits
pub mod Walked
pub mod Work
