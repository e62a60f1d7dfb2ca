-- What is so of the item that stands for the `import.meta` of a module.
pub mod Held
pub mod Inward
pub mod Rewritten
pub mod Marks
pub mod Properties
pub mod Denoting
pub mod Naming
pub mod Resolved
pub mod Answered
pub mod Resolving
pub mod Written
pub mod Standing
pub mod Numbers
pub mod Meta
pub mod Hooks
