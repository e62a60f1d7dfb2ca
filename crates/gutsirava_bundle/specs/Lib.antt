pub mod BundleText
pub mod Command
pub mod Linking
pub mod Parties
