pub mod NormalParts
pub mod Ways
pub mod LastLemmas
