-- The lists of trees: which nodes and names stand in which fields.
pub mod Sorts
pub mod Fits
pub mod Seen
pub mod Words
