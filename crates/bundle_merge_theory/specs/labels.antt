-- Labels that the top of a bundle does not declare.
pub mod Functions
