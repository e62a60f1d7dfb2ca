pub mod OfKind
mod Unique
pub mod Growth
mod Pieces
mod Places
mod Run
mod Size
