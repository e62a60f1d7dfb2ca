-- What a walk makes of a part of a tree, passed on.
pub use Rattle.bundle_tree_rebuild.specs.Becomes.{reference, kept_notes}
