use Rattle.std.proofs.Common.{◌≡◌, ℕ, ◌⊎◌, get_or, Contains}
use Rattle.bundle_order_sort.proofs.stack.note_end.Given as goal

abbrev pub invariant-loop-item : goal.invariant-loop-item
invariant-loop-item l = (s : ℕ) → (get_or l.ends s 0 ≡ get_or l.initial.ends s 0) ⊎ (Contains l.chain s × (get_or l.ends s 0 ≡ l.end))
