-- The copies so far are those of the items passed.
use Rattle.std.proofs.Common.{◌≡◌, flat_map, take}
use Rattle.bundle_tree_listed.specs.Tree.{stmt_items}
use Rattle.bundle_merge_forms.specs.Wrapped.{statement_items}
use Rattle.bundle_merge_forms.proofs.statements.statements.Given as goal

abbrev pub invariant-loop-item : goal.invariant-loop-item
invariant-loop-item l = flat_map (stmt_items 0) l.stmts.items ≡ flat_map statement_items (take l.item-index l.items)
