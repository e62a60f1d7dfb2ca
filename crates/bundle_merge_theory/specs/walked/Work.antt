-- What is asked of a walk that makes a part of a tree anew, passed on.
pub use Rattle.bundle_tree_rebuild.specs.Work.{Step, Work, change_at, is_spelled_out_by}
