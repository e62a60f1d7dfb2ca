pub mod Normal
pub mod Places
pub mod Specifiers
