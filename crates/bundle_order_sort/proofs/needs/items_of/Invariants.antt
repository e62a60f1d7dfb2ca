use Rattle.std.proofs.Common.{◌≡◌, take}
use Rattle.std.specs.List.{filter}
use Rattle.bundle_order_sort.specs.Items.{is_within}
use Rattle.bundle_order_sort.proofs.needs.items_of.Given as goal

abbrev pub invariant-loop-item : goal.invariant-loop-item
invariant-loop-item l = l.ends.items ≡ filter (is_within l.count) (take l.item-index l.list)
