pub mod Answer
pub mod Form
pub mod Refusal
pub mod Request
pub mod Sources
