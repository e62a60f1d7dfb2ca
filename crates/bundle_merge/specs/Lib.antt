pub mod Prepared
pub mod Read
pub mod Handed
pub mod Placed
pub mod Standing
pub mod Ready
pub mod Refusals
