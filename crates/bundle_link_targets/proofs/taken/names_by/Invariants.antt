use Rattle.std.proofs.Common.{map, take}
use Rattle.bundle_link_index.specs.Says.{target_of}
use Rattle.bundle_link_targets.specs.Taken.{AreAllNames}
use Rattle.bundle_link_targets.proofs.taken.names_by.Given as goal

abbrev pub invariant-loop-target : goal.invariant-loop-target
invariant-loop-target l = AreAllNames (map target_of (take l.target-index l.all)) l.names
