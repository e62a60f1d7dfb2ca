pub mod Paths
pub mod Bindings
pub mod Declarations
pub mod Denotes
pub mod Notes
mod Examples
pub mod Groups
pub mod Blocks
pub mod Theorem
