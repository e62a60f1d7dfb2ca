pub mod CircleLemmas
pub mod MetLemmas
pub mod SoFar
pub mod StarLemmas
