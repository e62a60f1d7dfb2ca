-- The causes of the stars that were passed are added.
use Rattle.std.proofs.Common.{◌≡◌, ◌++◌, map, take}
use Rattle.bundle_rules.specs.Bundle.{Stars}
use Rattle.bundle_merge_causes.specs.Told.{causes_told}
use Rattle.bundle_merge_causes.proofs.causes.add_stars.Given as goal

abbrev pub invariant-loop-star : goal.invariant-loop-star
invariant-loop-star l =
    causes_told l.causes.items
    ≡ causes_told l.initial.causes.items ++ map (λ star. Stars star.now) (take l.star-index l.stars)
