pub mod BestLemmas
pub mod BrowserLemmas
pub mod EntryLemmas
pub mod KeyLemmas
pub mod LengthLemmas
pub mod PatternLemmas
pub mod StarLemmas
