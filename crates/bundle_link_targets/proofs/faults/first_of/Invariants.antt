-- No module before has a fault of the stage.
use Rattle.bundle_rules.specs.Program.{Program}
use Rattle.bundle_link_targets.specs.Judged.{HasNoStageFault}
use Rattle.bundle_link_targets.specs.Stages.{AreKindsOf, stage_of}
use Rattle.bundle_link_targets.proofs.StageLemmas.{HoldsBelow}
use Rattle.bundle_link_targets.proofs.faults.first_of.Given as goal

abbrev pub invariant-loop-which : goal.invariant-loop-which
invariant-loop-which l = (p : Program) → AreKindsOf p l.kinds → HoldsBelow (HasNoStageFault p (stage_of l.stage)) l.kinds.list.now l.which-index
