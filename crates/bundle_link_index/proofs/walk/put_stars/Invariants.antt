use Rattle.std.proofs.Common.{◌≡◌, take, Contains}
use Rattle.bundle_link_index.specs.Given.{AddsMissing}
use Rattle.bundle_link_index.proofs.walk.put_stars.Given as goal

abbrev pub invariant-loop-star : goal.invariant-loop-star
invariant-loop-star l = AddsMissing l.fn.met.keys (λ at. Contains (take l.star-index l.stars) at.0 × (at.1 ≡ l.name)) l.met.keys
