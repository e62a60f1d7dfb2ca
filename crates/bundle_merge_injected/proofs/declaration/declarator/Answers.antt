-- A name and its value.
use Rattle.std.proofs.Common.{refl}
use Rattle.bundle_tree_listed.specs.Tree.{stmt_items}
use Rattle.bundle_merge_injected.proofs.declaration.declarator.Goals as goal

pub returns : goal.returns
unfolding stmt_items
returns c = refl
