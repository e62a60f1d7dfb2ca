-- What the items that are left state stands behind what is there.
use Rattle.std.proofs.Common.{map, option_map}
use Rattle.bundle_tree_listed.specs.Tree.{stmt_items}
use Rattle.bundle_tree_places.specs.Marks.{ident_of}
use Rattle.bundle_tree_places.specs.Parted.{part_items}
use Rattle.bundle_merge_items.proofs.Adding.{StatesBehind}
use Rattle.bundle_merge_items.proofs.module.stated_items.Given as goal

abbrev pub invariant-loop-item : goal.invariant-loop-item
invariant-loop-item l =
    StatesBehind (option_map ident_of l.body.meta) (ident_of l.default) l.items
    (map part_items l.nodes) l.body.rewrites.items (map (stmt_items 0) l.stmts.items)
    l.item-iterator.a.rest.now (map part_items l.item-iterator.b.rest.now) l.rewrites
