pub mod EndLemmas
pub mod StatementLemmas
pub mod ToldLemmas
pub mod WalkLemmas
