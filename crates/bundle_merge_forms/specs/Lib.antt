pub mod Named
pub mod Wrapped
