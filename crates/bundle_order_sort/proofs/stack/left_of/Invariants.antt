use Rattle.std.proofs.Common.{◌≡◌, take}
use Rattle.std.specs.List.{filter}
use Rattle.bundle_order_sort.specs.Left.{is_left}
use Rattle.bundle_order_sort.proofs.stack.left_of.Given as goal

abbrev pub invariant-loop-item : goal.invariant-loop-item
invariant-loop-item l = l.left.items ≡ filter (is_left l.progress) (take l.item-index l.list)
