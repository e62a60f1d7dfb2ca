-- Both stages of the calls.
use Rattle.std.proofs.Common.{refl}
use Rattle.bundle_link_targets.proofs.faults.call_fault_of.Goals as goal

pub returns : goal.returns
returns c = λ p w. c.first_of_two.ensures p w refl
