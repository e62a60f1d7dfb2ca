pub mod Externals
pub mod Found
pub mod Settings
pub mod SettingsOf
pub mod Told
pub mod Formats
