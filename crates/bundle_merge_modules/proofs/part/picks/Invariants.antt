use Rattle.std.proofs.Common.{take}
use Rattle.bundle_merge_modules.specs.Groups.{PickedOf}
use Rattle.bundle_merge_modules.specs.Calls.{PicksOf}
use Rattle.bundle_merge_modules.proofs.part.picks.Given as goal

abbrev pub invariant-loop-item : goal.invariant-loop-item
invariant-loop-item g l = PickedOf (PicksOf (goal.F-post g l.f) l.id) (take l.item-index l.items) l.picks.items
