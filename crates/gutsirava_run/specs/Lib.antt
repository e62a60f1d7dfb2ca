pub mod Delivery
pub mod Ending
pub mod Making
