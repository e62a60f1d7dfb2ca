pub mod Traces
pub mod Ends
pub mod Statements
pub mod Told
pub mod Walks
