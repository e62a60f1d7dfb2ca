-- The form of own statements in a bundle: what stands in the place of nodes that are replaced.
pub mod Bares
