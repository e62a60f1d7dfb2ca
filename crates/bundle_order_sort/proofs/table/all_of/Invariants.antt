-- The set has the modules of the lists that were passed.
use Rattle.std.proofs.Common.{◌≡◌, ℕ, nat_eq, map, take}
use Rattle.std.specs.List.{list_any}
use Rattle.bundle_order_sort.specs.Places.{is_in_some}
use Rattle.bundle_order_sort.proofs.table.all_of.Given as goal

abbrev pub invariant-loop-list : goal.invariant-loop-list
invariant-loop-list l = (m : ℕ) → list_any (nat_eq m) l.set.keys ≡ is_in_some m (map (λ v. v.items) (take l.list-index l.lists))
