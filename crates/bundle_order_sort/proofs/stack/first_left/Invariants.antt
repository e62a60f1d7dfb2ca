use Rattle.std.proofs.Common.{◌-◌, ℕ, ◌≤◌, ◌<◌}
use Rattle.bundle_order_sort.specs.Numbers.{IsOut}
use Rattle.bundle_order_sort.proofs.stack.first_left.Given as goal

abbrev pub invariant-loop-at : goal.invariant-loop-at
invariant-loop-at l = record { from : l.from ≤ l.at; out : (t : ℕ) → l.from ≤ t → t < l.at → IsOut l.progress t }

abbrev pub decreases-loop-at : goal.decreases-loop-at
decreases-loop-at l = l.to - l.at
