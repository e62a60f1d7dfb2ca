pub mod Boxes
pub mod Json
pub mod Layers
pub mod Lines
pub mod Metafile
pub mod Shares
pub mod Writing
pub mod Xml
