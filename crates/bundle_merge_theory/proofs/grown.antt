-- What is so of the lists of syntax trees, since they have that form.
pub mod Trees
pub mod Theorem
