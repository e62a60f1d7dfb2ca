-- No source before is external.
use Rattle.std.proofs.Common.{◌≡◌, false}
use Rattle.bundle_link_tables.specs.declared.table.Source.{Source}
use Rattle.bundle_link_targets.proofs.StageLemmas.{HoldsBelow}
use Rattle.bundle_link_targets.proofs.faults.external_fault.Given as goal

abbrev pub invariant-loop-source : goal.invariant-loop-source
invariant-loop-source l = HoldsBelow (λ (s : Source). s.is_external ≡ false) l.source-items l.source-index
