-- The items so far that state something are counted.
use Rattle.std.proofs.Common.{◌≡◌, take}
use Rattle.std.specs.Prelude.{count_by}
use Rattle.bundle_merge_causes.specs.Shape.{states}
use Rattle.bundle_merge_causes.proofs.shape.stated_count.Given as goal

abbrev pub invariant-loop-item : goal.invariant-loop-item
invariant-loop-item l = l.count ≡ count_by states (take l.item-index l.items)
