-- What the items of a bundle are made of, and what is so of each by itself.
pub mod Given
pub mod Steps
pub mod Made
pub mod Alone
pub mod Told
