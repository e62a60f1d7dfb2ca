-- What names denote is kept by the naming rule, and nothing is declared twice after it.
pub mod Tables
pub mod Heart
pub mod Clash
pub mod Transfer
pub mod Rebuilt
pub mod Theorem
pub mod Called
