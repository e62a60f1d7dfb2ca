pub mod NameLemmas
pub mod Keeping
pub mod Rewriting
pub mod Renaming
pub mod Clearing
pub mod Renewing
pub mod Examples
pub mod Loading
