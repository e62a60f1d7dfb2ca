-- The lists of syntax trees are such.
pub mod Grown
pub mod Trees
