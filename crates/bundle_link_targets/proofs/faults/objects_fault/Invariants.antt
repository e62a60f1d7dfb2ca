-- No module before has an object whose names are not all known.
use Rattle.std.proofs.Common.{◌≡◌}
use Rattle.bundle_rules.specs.Program.{Program}
use Rattle.bundle_link_index.specs.Outside.{IsIndexOf}
use Rattle.bundle_link_targets.specs.Judged.{HasNoStageFault}
use Rattle.bundle_link_targets.specs.Found.{HoldsMeant, targets_in}
use Rattle.bundle_link_targets.proofs.StageLemmas.{HoldsBelow}
use Rattle.bundle_link_targets.proofs.faults.objects_fault.Given as goal

abbrev pub invariant-loop-which : goal.invariant-loop-which
invariant-loop-which l = record {
  same : l.index ≡ l.fn.index;
  none : (p : Program) → IsIndexOf p l.fn.index → HoldsMeant p (targets_in l.meant) → HoldsBelow (HasNoStageFault p 6) l.kinds.list.now l.which-index;
}
