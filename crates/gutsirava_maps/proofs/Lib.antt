pub mod MappingLemmas
pub mod PlaceLemmas
pub mod TextLemmas
pub mod VlqLemmas
pub mod NameLemmas
