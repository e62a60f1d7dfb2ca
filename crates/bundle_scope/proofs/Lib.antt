pub mod FacesLemmas
pub mod NamedLemmas
pub mod PromisedLemmas
pub mod RefusalLemmas
pub mod RenameLemmas
pub mod WordsLemmas
