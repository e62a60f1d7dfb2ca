-- No module before asks for a name in vain.
use Rattle.std.proofs.Common.{◌≡◌}
use Rattle.bundle_rules.specs.Program.{Program}
use Rattle.bundle_link_index.specs.Outside.{IsIndexOf}
use Rattle.bundle_link_targets.specs.Judged.{HasNoStageFault}
use Rattle.bundle_link_targets.specs.Stages.{AreKindsOf}
use Rattle.bundle_link_targets.proofs.StageLemmas.{HoldsBelow}
use Rattle.bundle_link_targets.proofs.faults.names_fault.Given as goal

abbrev pub invariant-loop-which : goal.invariant-loop-which
invariant-loop-which l = record {
  same : l.index ≡ l.fn.index;
  none : (p : Program) → AreKindsOf p l.kinds → IsIndexOf p l.fn.index → HoldsBelow (HasNoStageFault p 5) l.kinds.list.now l.which-index;
}
