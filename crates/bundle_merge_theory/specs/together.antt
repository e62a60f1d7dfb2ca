pub mod Together
pub mod Others
pub mod Table
