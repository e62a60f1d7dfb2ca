pub mod Balance
pub mod Fields
pub mod Keeping
pub mod Fitting
pub mod States
