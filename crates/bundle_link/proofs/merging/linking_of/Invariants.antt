-- The places that were passed.
use Rattle.std.proofs.Common.{◌≡◌}
use Rattle.bundle_link.specs.Judged.{numbers_below}
use Rattle.bundle_link.proofs.merging.linking_of.Given as goal

abbrev pub invariant-loop-place : goal.invariant-loop-place
invariant-loop-place l = l.list.items ≡ numbers_below l.place
