pub mod Added
pub mod Adds
pub mod Merged
pub mod Stated
pub mod Blocks
