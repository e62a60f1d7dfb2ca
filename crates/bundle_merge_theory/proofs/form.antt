-- Own statements keep their forms in a bundle.
pub mod Bared
pub mod Cleared
pub mod Named
pub mod Keeps
pub mod Carried
pub mod Made
