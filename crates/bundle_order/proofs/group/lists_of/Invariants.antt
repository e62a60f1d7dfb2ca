-- Each item passed has its list.
use Rattle.std.proofs.Common.{◌≡◌, length, map, take}
use Rattle.bundle_syntax.specs.Item.{item_of}
use Rattle.bundle_tree_listed.specs.Tree.{module_item_items}
use Rattle.bundle_order.proofs.group.lists_of.Given as goal

abbrev pub invariant-loop-place : goal.invariant-loop-place
invariant-loop-place l = record {
  len : length l.lists.items ≡ l.place;
  lists : map (λ v. map item_of v.items) l.lists.items ≡ map (module_item_items 0) (take l.place l.items);
}
