pub mod Circle
pub mod Graph
pub mod Met
pub mod Numbers
pub mod Stars
