pub mod Shape
pub mod Told
pub mod Planned
pub mod Standing
