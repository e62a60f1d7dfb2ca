-- What is so of each list in whose fields only that stands which they take.
pub mod Rows
pub mod Keys
