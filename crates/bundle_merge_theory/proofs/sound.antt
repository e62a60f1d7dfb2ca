-- That the program of a bundle is sound, and what linking finds of it is decided.
pub mod Sound
pub mod Found
pub mod Blocks
pub mod Decided
