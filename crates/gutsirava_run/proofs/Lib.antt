pub mod EndingLemmas
pub mod EntryLemmas
pub mod KnownLemmas
pub mod MapLemmas
pub mod ViewLemmas
