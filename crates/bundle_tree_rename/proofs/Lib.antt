pub mod Changing
pub mod Leaves
pub mod Lists
pub mod ModuleRules
pub mod Naming
pub mod Rules
pub mod Spelling
