-- The set has what it had and the modules that were passed.
use Rattle.std.proofs.Common.{◌≡◌, ℕ, ◌||◌, nat_eq, take}
use Rattle.std.specs.List.{list_any}
use Rattle.bundle_order_sort.proofs.table.add_all.Given as goal

abbrev pub invariant-loop-id : goal.invariant-loop-id
invariant-loop-id l = (m : ℕ) → list_any (nat_eq m) l.set.keys ≡ (list_any (nat_eq m) l.initial.set.keys || list_any (nat_eq m) (take l.id-index l.modules))
