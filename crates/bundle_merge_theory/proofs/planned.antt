pub mod OrderLemmas
pub mod RequestLemmas
pub mod CauseLemmas
pub mod CountLemmas
pub mod BundleLemmas
pub mod TreeCountLemmas
pub mod Examples
pub mod Theorem
