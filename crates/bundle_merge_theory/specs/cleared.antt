-- Programs that are one but for the contexts and notes in their trees.
pub mod Programs
pub mod Elements
