-- No name before is asked for in vain.
use Rattle.std.proofs.Common.{◌≡◌}
use Rattle.bundle_rules.specs.Program.{Program}
use Rattle.bundle_link_index.specs.Outside.{IsIndexOf}
use Rattle.bundle_link_targets.specs.Stages.{AreKindsOf, IsNameRight}
use Rattle.bundle_link_targets.proofs.StageLemmas.{HoldsBelow}
use Rattle.bundle_link_targets.proofs.faults.name_fault.Given as goal

abbrev pub invariant-loop-asked : goal.invariant-loop-asked
invariant-loop-asked l = record {
  same : l.index ≡ l.fn.index;
  none : (p : Program) → AreKindsOf p l.kinds → IsIndexOf p l.fn.index → HoldsBelow (IsNameRight p l.which) l.asked-items l.asked-index;
}
