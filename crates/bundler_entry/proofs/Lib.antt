pub mod StatementLemmas
pub mod AskedLemmas
pub mod LinkedLemmas
pub mod Known
pub mod PartsLemmas
mod MergedLemmas
pub mod SourceLemmas
pub mod InnerLemmas
mod CausedLemmas
