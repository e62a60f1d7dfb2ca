-- What a merge owes for the program with cleared trees, it owes for the program.
pub mod Trees
pub mod Marks
pub mod Linking
pub mod Meaning
pub mod Bundle
pub mod Needs
pub mod Cleared
