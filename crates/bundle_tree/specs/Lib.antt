pub mod IdName
pub mod IdNameLaws
pub mod Error
