pub mod Stated
pub mod Copies
pub mod Copying
pub mod Written
