-- The statements that are added and those that are left are all.
use Rattle.std.proofs.Common.{◌≡◌, ◌++◌, map}
use Rattle.bundle_tree_listed.specs.Tree.{stmt_items}
use Rattle.bundle_merge_items.specs.Added.{module_item_lists}
use Rattle.bundle_merge_items.proofs.module.add_stmts.Given as goal

abbrev pub invariant-loop-stmt : goal.invariant-loop-stmt
invariant-loop-stmt l =
    module_item_lists l.items ++ map (stmt_items 0) l.stmt-iterator.rest.items
    ≡ module_item_lists l.fn.items ++ map (stmt_items 0) l.fn.stmts.items
