-- One stage, and then the next.
use Rattle.std.proofs.Common.{arith, subst, suc}
use Rattle.bundle_link_targets.specs.Judged.{IsStageJudged}
use Rattle.bundle_link_targets.specs.Stages.{stage_of}
use Rattle.bundle_link_targets.proofs.JudgedLemmas.{judged_none, judged_some}
use Rattle.bundle_link_targets.proofs.faults.first_of_two.Goals as goal

pub returns-in-Some : goal.returns-in-Some
returns-in-Some c = λ p w next.
    judged_some p c.args.kinds.now.list.now (stage_of c.args.stage) (suc (stage_of c.args.stage)) (suc (stage_of c.args.next)) c.first_of.result c.in-Some.fault c.in-Some.is (omega arith) (c.first_of.ensures p w)

pub returns-in-None : goal.returns-in-None
returns-in-None c = λ p w next.
    judged_none p c.args.kinds.now.list.now (stage_of c.args.stage) (suc (stage_of c.args.stage)) (suc (stage_of c.args.next)) c.first_of.result c.first_of-in-None.result c.in-None.is (omega arith) (c.first_of.ensures p w)
    (subst (λ n. IsStageJudged p c.args.kinds.now.list.now n (suc (stage_of c.args.next)) c.first_of-in-None.result) next (c.first_of-in-None.ensures p w))
