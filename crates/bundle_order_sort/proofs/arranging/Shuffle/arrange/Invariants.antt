-- The values only moved, and those at the places that were passed stand in order.
use Rattle.std.proofs.Common.{length}
use Rattle.std.specs.List.Sorted.{IsPermutation}
use Rattle.bundle_order_sort.specs.Arranged.{IsArrangement, IsStill}
use Rattle.bundle_order_sort.proofs.ArrangeLemmas.{IsArrangedTo}
use Rattle.bundle_order_sort.proofs.arranging.Shuffle.arrange.Given as goal

abbrev pub invariant-loop-place : goal.invariant-loop-place
invariant-loop-place g l = record {
  moved : IsPermutation l.initial.values.items l.values.items;
  arranged : IsStill l.fn.self (length l.initial.values.items) → IsArrangement l.order (length l.initial.values.items) → IsArrangedTo l.shuffle l.initial.values.items l.values.items l.order l.place;
}
