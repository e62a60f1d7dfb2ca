use Rattle.std.proofs.Common.{◌-◌, ◌≤◌, length}
use Rattle.bundle_merge_modules.specs.Chains.{AreJumps}
use Rattle.bundle_merge_modules.proofs.chains.far_jumps.Given as goal

abbrev pub invariant-loop-reach : goal.invariant-loop-reach
invariant-loop-reach l = record {
  some : 1 ≤ l.reach;
  jumps : AreJumps l.next l.reach l.jumps.items;
}

abbrev pub decreases-loop-reach : goal.decreases-loop-reach
decreases-loop-reach l = length l.next - l.reach
