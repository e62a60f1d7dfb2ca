pub mod Naming
pub mod Parts
pub mod Renamed
pub mod Renames
