-- The number was added for each place that was passed.
use Rattle.std.proofs.Common.{◌≡◌, ◌++◌, map, take}
use Rattle.bundle_order_sort.proofs.plan.add_number.Given as goal

abbrev pub invariant-loop : goal.invariant-loop
invariant-loop l = l.numbers.items ≡ l.initial.numbers.items ++ map (λ place. l.number) (take l.counter l.row)
