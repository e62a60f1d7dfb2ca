-- Tables whose keys hold texts that strangers choose.
pub mod Seen
pub mod Placed
