pub mod RenameLemmas
pub mod LawLemmas
pub mod RenamingLemmas
pub mod Shapes
pub mod TreeParts
pub mod Twice
