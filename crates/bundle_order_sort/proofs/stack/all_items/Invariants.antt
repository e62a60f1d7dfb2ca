use Rattle.std.proofs.Common.{◌≡◌, ℕ, ◌-◌, ◌<◌, length, get_or}
use Rattle.bundle_order_sort.proofs.stack.all_items.Given as goal

abbrev pub invariant-loop-done : goal.invariant-loop-done
invariant-loop-done l = record { len : length l.items.items ≡ l.done; each : (k : ℕ) → k < l.done → get_or l.items.items k 0 ≡ l.count - 1 - k }
