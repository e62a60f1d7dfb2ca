pub mod Levels
pub mod Literal
pub mod Openings
pub mod Printed
pub mod Tokens
