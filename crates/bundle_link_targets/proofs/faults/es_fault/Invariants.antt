-- No call before is of a module that is no script.
use Rattle.bundle_rules.specs.Program.{Program}
use Rattle.bundle_link_tables.specs.declared.table.RequireCall.{RequireCall}
use Rattle.bundle_link_index.specs.Programs.{AreModulesKnown}
use Rattle.bundle_link_targets.specs.Stages.{LeadsToEs}
use Rattle.bundle_link_targets.proofs.StageLemmas.{HoldsBelow}
use Rattle.bundle_link_targets.proofs.faults.es_fault.Given as goal

abbrev pub invariant-loop-call : goal.invariant-loop-call
invariant-loop-call l = (p : Program) → AreModulesKnown p l.kinds → HoldsBelow (λ (c : RequireCall). LeadsToEs p l.which c.specifier.now → ⊥) l.call-items l.call-index
