pub mod SearchLemmas
pub mod ReachLemmas
pub mod LinkedLemmas
pub mod OutsideLemmas
pub mod ProgramLemmas
pub mod NumberedLemmas
pub mod EqualLemmas
pub mod AskedLemmas
