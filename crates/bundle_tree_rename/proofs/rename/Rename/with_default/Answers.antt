-- The default value stands behind the pattern.
use Rattle.bundle_tree_rename.proofs.Spelling.{default_so}
use Rattle.bundle_tree_rename.proofs.rename.Rename.with_default.Goals as goal

pub returns-in_ok-right-in-Some : goal.returns-in_ok-right-in-Some
returns-in_ok-right-in-Some c = default_so c.in_ok-left-in-Some.left c.in_ok-right-in-Some.right c.in_ok-left-in-Some.ensures.ok c.in_ok-right-in-Some.ensures.ok c.in-Some.is
