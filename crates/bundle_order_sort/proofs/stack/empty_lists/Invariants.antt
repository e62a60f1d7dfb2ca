use Rattle.std.proofs.Common.{◌≡◌, ℕ, map, length}
use Rattle.bundle_order_sort.specs.Numbers.{NeedsNumber}
use Rattle.bundle_order_sort.proofs.stack.empty_lists.Given as goal

abbrev pub invariant-loop : goal.invariant-loop
invariant-loop l = record {
  len : length l.lists.items ≡ l.counter;
  none : (s t : ℕ) → NeedsNumber (map (λ v. v.items) l.lists.items) s t → ⊥;
}
