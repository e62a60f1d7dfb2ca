use Rattle.std.proofs.Common.{◌≡◌, ◌-◌, ℕ, ◌<◌, ◌≤◌, false, length, get_or}
use Rattle.bundle_order_sort.specs.Numbers.{is_awaited}
use Rattle.bundle_order_sort.proofs.stack.first_awaited.Given as goal

abbrev pub invariant-loop-at : goal.invariant-loop-at
invariant-loop-at l = (k : ℕ) → l.from ≤ k → k < l.at → k < length l.needs → is_awaited l.ranks l.progress l.item (get_or l.needs k 0) ≡ false

abbrev pub decreases-loop-at : goal.decreases-loop-at
decreases-loop-at l = length l.needs - l.at
