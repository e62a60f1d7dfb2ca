mod Making
mod Stating
pub mod grammar
