use Rattle.std.proofs.Common.{◌≡◌, ℕ, ◌<◌, true, get_or}
use Rattle.bundle_merge_modules.specs.Chains.{is_last_at}
use Rattle.bundle_merge_modules.proofs.chains.are_last.Given as goal

abbrev pub invariant-loop-end : goal.invariant-loop-end
invariant-loop-end l = (k : ℕ) → k < l.end-index → is_last_at l.next (get_or l.ends k 0) ≡ true
