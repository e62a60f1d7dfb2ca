pub mod ExcerptLemmas
pub mod GainLemmas
pub mod LineLemmas
pub mod MessageLemmas
pub mod QuietLemmas
pub mod ResultLemmas
pub mod SheetLemmas
