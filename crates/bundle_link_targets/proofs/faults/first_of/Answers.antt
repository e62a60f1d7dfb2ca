-- Module by module.
use Rattle.std.proofs.Common.{arith}
use Rattle.bundle_link_targets.specs.Stages.{stage_of}
use Rattle.bundle_link_targets.proofs.StageLemmas.{is_none}
use Rattle.bundle_link_targets.proofs.JudgedLemmas.{stage_more, stage_none, stage_some}
use Rattle.bundle_link_targets.proofs.faults.first_of.Goals as goal

pub loop-which-preserved : goal.loop-which-preserved
loop-which-preserved c = λ p w.
    stage_more p c.args.kinds.now.list.now (stage_of c.args.stage) c.loop-which.which-index _ c.fault_in.result (c.loop-which.invariant p w)
    (is_none c.fault_in.result c.in_default.not-Some) (c.fault_in.ensures p w)

pub returns-in-Some : goal.returns-in-Some
returns-in-Some c = λ p w.
    stage_some p c.args.kinds.now.list.now (stage_of c.args.stage) c.loop-which.which-index _ c.fault_in.result c.in-Some.fault (c.loop-which.invariant p w) c.loop-which-test.true
    c.in-Some.is (c.fault_in.ensures p w)

pub returns : goal.returns
returns c = λ p w.
    stage_none p c.args.kinds.now.list.now (stage_of c.args.stage) c.loop-which.which-index (c.loop-which.invariant p w) (λ less. let end = c.loop-which-test.false in omega arith)
