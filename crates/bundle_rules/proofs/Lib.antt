pub mod PlacesLemmas
mod PlacesExamples
mod SmallTrees
mod ScopesExamples
mod DenotesExamples
mod DoubledExamples
mod RenamingExamples
mod ContextsExamples
mod CountsExamples
mod DeferredExamples
pub mod AliasExamples
pub mod BundleExamples
pub mod CallExamples
pub mod Computed
pub mod CountExamples
pub mod EntryExamples
pub mod FaultExamples
pub mod FormExamples
pub mod HeadlineExamples
pub mod HeadlineLemmas
pub mod InjectedExamples
pub mod KeptLemmas
pub mod LinkingExamples
pub mod LoadExamples
pub mod LoadLemmas
pub mod MeaningExamples
pub mod MeaningLemmas
pub mod MeantExamples
pub mod MergedExamples
pub mod OrderExamples
pub mod PartsExamples
pub mod ProgramExamples
pub mod Programs
pub mod RebuildExamples
pub mod RebuildLemmas
pub mod RenamedExamples
pub mod PostOrder
pub mod StandardExamples
pub mod StatementExamples
pub mod Trees
pub mod WholeExamples
pub mod HeadLemmas
pub mod PathLemmas
pub mod DenotesLemmas
pub mod NodeLemmas
pub mod EntryLemmas
pub mod CallLemmas
pub mod FaultLemmas
pub mod ReadLemmas
pub mod CountLemmas
