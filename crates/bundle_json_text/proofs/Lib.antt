mod Refusals
pub mod laid
