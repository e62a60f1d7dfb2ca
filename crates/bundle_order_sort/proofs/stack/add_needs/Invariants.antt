use Rattle.std.proofs.Common.{take}
use Rattle.bundle_order_sort.specs.Items.{AddsNeeds, IsNeeded}
use Rattle.bundle_order_sort.proofs.stack.add_needs.Given as goal

abbrev pub invariant-loop-end : goal.invariant-loop-end
invariant-loop-end l = AddsNeeds (λ t. IsNeeded l.items l.ranks l.item t l.is_weak) (take l.end-index l.list) l.fn.needed.items l.needed.items
