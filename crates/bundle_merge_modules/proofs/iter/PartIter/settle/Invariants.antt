use Rattle.std.proofs.Common.{◌≡◌, length}
use Rattle.bundle_merge_modules.specs.Rest.{rest_of_part}
use Rattle.bundle_merge_modules.proofs.iter.PartIter.settle.Given as goal

abbrev pub invariant-loop-self : goal.invariant-loop-self
invariant-loop-self g l = rest_of_part l.self ≡ rest_of_part l.fn.self

abbrev pub decreases-loop-self : goal.decreases-loop-self
decreases-loop-self g l = length l.self.groups
