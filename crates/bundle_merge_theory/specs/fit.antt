-- Programs whose modules are lists of the form of trees.
pub mod Programs
