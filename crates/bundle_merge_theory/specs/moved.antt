-- Programs that are one but for the numbers of their modules.
pub mod Renumbered
