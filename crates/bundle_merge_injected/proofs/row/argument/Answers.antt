-- A node around the value.
use Rattle.std.proofs.Common.{refl}
use Rattle.bundle_tree_listed.specs.Tree.{stmt_items}
use Rattle.bundle_merge_injected.proofs.row.argument.Goals as goal

pub returns : goal.returns
unfolding stmt_items
returns c = refl
