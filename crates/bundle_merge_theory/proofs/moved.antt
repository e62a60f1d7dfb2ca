-- What a merge owes for a program, it owes for the same program with other numbers of modules.
pub mod Owed
pub mod Due
pub mod Forms
pub mod Requested
pub mod Stand
pub mod Layout
pub mod Moved
pub mod Made
pub mod Places
