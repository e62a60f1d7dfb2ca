pub mod Owned
pub mod Composed
pub mod Idents
pub mod Renamings
