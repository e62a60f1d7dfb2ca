pub mod Comment
pub mod Vlq
pub mod Places
pub mod Mapping
pub mod Text
pub mod Names
