pub mod Outputs
pub mod Stages
