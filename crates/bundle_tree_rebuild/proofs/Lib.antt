mod Lookahead
pub mod Plain
mod Steps
pub mod Walks
