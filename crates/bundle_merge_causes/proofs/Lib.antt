mod Adding
mod Alone
mod Counted
pub mod Due
mod Plans
pub mod Standing
