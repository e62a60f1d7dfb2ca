-- No star before is of a CommonJS module.
use Rattle.std.proofs.Common.{◌≡◌, false}
use Rattle.std.specs.Borrow.{Bor}
use Rattle.bundle_rules.specs.Nodes.{Text}
use Rattle.bundle_link_index.specs.Leads.{lead_of}
use Rattle.bundle_link_targets.proofs.StageLemmas.{HoldsBelow, is_common}
use Rattle.bundle_link_targets.proofs.faults.star_fault.Given as goal

abbrev pub invariant-loop-star : goal.invariant-loop-star
invariant-loop-star l = HoldsBelow (λ (s : Bor Text). is_common (lead_of l.kinds l.which s.now) ≡ false) l.star-items l.star-index
