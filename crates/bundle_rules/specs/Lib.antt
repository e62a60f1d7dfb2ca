pub mod Places
pub mod Scopes
pub mod Declarations
pub mod Homes
pub mod Denotes
pub mod Doubled
pub mod Keywords
pub mod Renaming
pub mod Counts
pub mod Contexts
pub mod Deferred
-- One tree: its parts, and the same tree with other identifiers.
pub mod Nodes
pub mod Statements
pub mod Cleared
pub mod Shorthands
pub mod Idents
pub mod Marks
pub mod Shape
pub mod Rebuilds
pub mod Renamed
-- What one tree says: reads, imports and exports, what is bound, where it waits; and an order of
-- items.
pub mod Reads
pub mod Entries
pub mod Bound
pub mod Awaits
pub mod Mentions
pub mod Order
-- Lists of items by module.
pub mod Parts
pub mod Sorting
pub mod Aliases
-- Linking: a program, what its names stand for and mean, its bundles.
pub mod Program
pub mod Linking
pub mod Meaning
pub mod Injected
pub mod Bundle
pub mod OwnForms
pub mod Symbols
-- What is kept, what is refused and in which order.
pub mod Kept
pub mod Faults
pub mod Judging
-- What calls owe; the headline last. Nothing imports from it.
pub mod Tables
pub mod Forms
pub mod Callable
pub mod Merged
pub mod Headline
