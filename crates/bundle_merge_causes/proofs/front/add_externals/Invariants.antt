-- The causes of the externals that were passed are added.
use Rattle.std.proofs.Common.{◌≡◌, ◌++◌, take}
use Rattle.std.specs.Prelude.{flat_map}
use Rattle.bundle_merge_causes.specs.Told.{causes_told, imports_of}
use Rattle.bundle_merge_causes.proofs.front.add_externals.Given as goal

abbrev pub invariant-loop-external : goal.invariant-loop-external
invariant-loop-external l =
    causes_told l.causes.items
    ≡ causes_told l.initial.causes.items ++ flat_map imports_of (take l.external-index l.externals)
