pub mod Choice
pub mod Draft
pub mod Key
pub mod Output
pub mod Nearest
pub mod Refusal
pub mod Variable
pub mod Word
