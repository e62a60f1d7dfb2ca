-- The code's names: the numbers of the naming rule, and keywords that are told apart.
pub mod Callings
pub mod NumberingBy
pub mod Numbering
pub mod Faith
pub mod Whole
