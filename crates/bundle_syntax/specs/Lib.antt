pub mod Text
pub mod Item
