-- No call before is of the entry.
use Rattle.std.proofs.Common.{◌≡◌, Some}
use Rattle.bundle_link_tables.specs.declared.table.RequireCall.{RequireCall}
use Rattle.bundle_link_index.specs.Leads.{required_of}
use Rattle.bundle_link_targets.proofs.StageLemmas.{HoldsBelow}
use Rattle.bundle_link_targets.proofs.faults.entry_fault.Given as goal

abbrev pub invariant-loop-call : goal.invariant-loop-call
invariant-loop-call l = HoldsBelow (λ (c : RequireCall). required_of l.kinds.modules.now l.which c.specifier.now ≡ Some l.kinds.entry → ⊥) l.call-items l.call-index
