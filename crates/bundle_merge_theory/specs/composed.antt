pub mod Noted
pub mod Names
pub mod Becoming
pub mod Turned
pub mod Functions
pub mod Single
