use Rattle.std.proofs.Common.{◌≡◌, ℕ, ◌↔◌, map, length, take, Contains}
use Rattle.bundle_order_sort.specs.Left.{KeepsLeft}
use Rattle.bundle_order_sort.proofs.LeftLemmas.{IsLeftOf}
use Rattle.bundle_order_sort.proofs.stack.needs_left.Given as goal

abbrev pub invariant-loop-reference : goal.invariant-loop-reference
invariant-loop-reference l = record {
  len : length l.lists ≡ length l.fn.lists;
  keeps : KeepsLeft l.progress (map (λ v. v.items) l.fn.lists) (map (λ v. v.items) l.lists);
  each : (t : ℕ) → Contains l.needed.items t ↔ IsLeftOf l.items (map (λ v. v.items) l.fn.lists) l.ranks l.progress l.item (take l.reference-index l.references) t;
}
