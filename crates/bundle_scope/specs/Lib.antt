pub mod Contexts
pub mod Faces
pub mod Named
pub mod Refusals
pub mod Resolved
