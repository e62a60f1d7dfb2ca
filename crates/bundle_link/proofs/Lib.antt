pub mod GraphLemmas
pub mod LeadLemmas
pub mod AlikeLemmas
pub mod NumberLemmas
pub mod PlacedLemmas
pub mod RequestLemmas
pub mod FaultLemmas
pub mod NumberedModuleLemmas
pub mod NumbersLemmas
pub mod MeantLemmas
pub mod PlaceLemmas
pub mod OrderLemmas
pub mod ReachedLemmas
pub mod ToldLemmas
pub mod NodePaths
pub mod StatedElements
pub mod DefaultLemmas
pub mod ClearedNodes
pub mod ClearedTables
mod ProgramLemmas
mod DoubledDefaultExamples
