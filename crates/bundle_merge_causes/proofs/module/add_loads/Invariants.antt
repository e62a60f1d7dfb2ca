-- The causes of the loads that were passed are added.
use Rattle.std.proofs.Common.{◌≡◌, ◌++◌, map, take}
use Rattle.bundle_rules.specs.Bundle.{Loads}
use Rattle.bundle_merge_causes.specs.Told.{causes_told}
use Rattle.bundle_merge_causes.proofs.module.add_loads.Given as goal

abbrev pub invariant-loop-load : goal.invariant-loop-load
invariant-loop-load l =
    causes_told l.causes.items
    ≡ causes_told l.initial.causes.items
    ++ map (λ load. Loads l.which load.which) (take l.load-index l.loads)
