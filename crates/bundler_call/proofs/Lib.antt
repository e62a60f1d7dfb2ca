pub mod Holding
pub mod Growing
pub mod Calls
pub mod Unasked
pub mod Leading
pub mod Sources
pub mod Programs
pub mod Explained
