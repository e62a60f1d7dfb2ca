use Rattle.std.proofs.Common.{◌≡◌, map, take}
use Rattle.bundle_link_index.specs.Given.{AddsMissing}
use Rattle.bundle_link_targets.specs.Found.{target_in, targets_in}
use Rattle.bundle_link_targets.proofs.TakenLemmas.{AnyOf}
use Rattle.bundle_link_targets.proofs.meant.add_targets.Given as goal

abbrev pub invariant-loop-pair : goal.invariant-loop-pair
invariant-loop-pair l = AddsMissing (targets_in l.fn.targets) (AnyOf (map target_in (take l.pair-index l.linked)) (λ x t. t ≡ x)) (targets_in l.targets)
