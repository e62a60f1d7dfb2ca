-- That the items of a bundle stand as they are due.
pub mod Ready
pub mod Due
pub mod Laid
