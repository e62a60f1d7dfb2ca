pub mod BoxLemmas
pub mod LayerLemmas
pub mod MetafileLemmas
pub mod TextLemmas
pub mod WritingLemmas
