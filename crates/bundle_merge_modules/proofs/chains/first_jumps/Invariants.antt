use Rattle.std.proofs.Common.{◌≡◌, ℕ, ◌<◌, length, get_or}
use Rattle.bundle_merge_modules.specs.Chains.{chain_step}
use Rattle.bundle_merge_modules.proofs.chains.first_jumps.Given as goal

abbrev pub invariant-loop-i : goal.invariant-loop-i
invariant-loop-i l = record {
  len : length l.jumps.items ≡ l.i;
  each : (k : ℕ) → k < l.i → get_or l.jumps.items k 0 ≡ chain_step l.next k;
}
