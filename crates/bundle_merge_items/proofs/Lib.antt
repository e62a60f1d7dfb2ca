mod Adding
pub mod Copies
mod Made
pub mod LackLemmas
mod Lifting
mod Parting
pub mod NeedsLemmas
mod Behind
pub mod Once
