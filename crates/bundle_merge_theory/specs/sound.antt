-- What a bundler knows of its modules, and what it decides of them.
pub mod Known
pub mod Decided
