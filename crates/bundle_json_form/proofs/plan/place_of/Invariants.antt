-- The keys so far are below the key.
use Rattle.bundle_json_form.specs.Plan.{planned}
use Rattle.bundle_json_form.proofs.Places.{AreBelow}
use Rattle.bundle_json_form.proofs.plan.place_of.Given as goal

abbrev pub invariant-loop-place : goal.invariant-loop-place
invariant-loop-place l = AreBelow l.key (planned l.members) l.place
