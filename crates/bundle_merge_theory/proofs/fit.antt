-- What is so of each list of the form of trees, in the words of what is asked of lists.
pub mod Facts
pub mod Clearing
mod Examples
