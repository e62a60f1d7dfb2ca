pub mod Error
pub mod FileName
pub mod FileNameLaws
pub mod ModuleIdGenerator
