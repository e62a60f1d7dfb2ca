-- The number was added for each item that was passed.
use Rattle.std.proofs.Common.{◌≡◌, ◌++◌, map, take}
use Rattle.bundle_order.proofs.sorting.add_owner.Given as goal

abbrev pub invariant-loop : goal.invariant-loop
invariant-loop l = l.owners.items ≡ l.initial.owners.items ++ map (λ item. l.number) (take l.counter l.items)
