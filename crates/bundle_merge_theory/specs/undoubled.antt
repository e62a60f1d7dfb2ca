-- Which declarations exclude one another.
pub mod Clashing
