use Rattle.std.proofs.Common.{◌≡◌, ℕ, length, take, Contains}
use Rattle.bundle_link_targets.specs.Found.{targets_in}
use Rattle.bundle_link_targets.specs.Lists.{list_in}
use Rattle.bundle_link_targets.specs.Taken.{AreLoadsOf}
use Rattle.bundle_link_targets.proofs.taken.loads_of.Given as goal

abbrev pub invariant-loop-taker : goal.invariant-loop-taker
invariant-loop-taker l = record {
  long : length l.loads.items ≡ length l.kinds.modules.now;
  there : (m : ℕ) → Contains (take l.taker-index l.kinds.list.now) m → AreLoadsOf l.kinds (targets_in l.meant) m (list_in l.loads.items m);
}
