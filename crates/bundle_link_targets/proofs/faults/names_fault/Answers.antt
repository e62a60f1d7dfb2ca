-- Module by module.
use Rattle.std.proofs.Common.{◌∙◌, arith, subst, sym}
use Rattle.bundle_link_index.specs.Outside.{IsIndexOf}
use Rattle.bundle_link_targets.proofs.StageLemmas.{is_none}
use Rattle.bundle_link_targets.proofs.JudgedLemmas.{stage_more, stage_none, stage_some}
use Rattle.bundle_link_targets.proofs.faults.names_fault.Goals as goal

pub loop-which-preserved : goal.loop-which-preserved
loop-which-preserved c = record {
  same = c.in_ok-found.ensures.same ∙ c.loop-which.invariant.same;
  none = λ p w v. stage_more p c.args.kinds.now.list.now 5 c.loop-which.which-index _ c.in_ok-found.found (c.loop-which.invariant.none p w v) (is_none c.in_ok-found.found c.in_default.not-Some) (c.in_ok-found.ensures.right p w (subst (IsIndexOf p) (sym c.loop-which.invariant.same) v));
}

pub returns-in-Some-clause-right : goal.returns-in-Some-clause-right
returns-in-Some-clause-right c = λ p w v.
    stage_some p c.args.kinds.now.list.now 5 c.loop-which.which-index _ c.in_ok-found.found c.in-Some.fault (c.loop-which.invariant.none p w v) c.loop-which-test.true c.in-Some.is
    (c.in_ok-found.ensures.right p w (subst (IsIndexOf p) (sym c.loop-which.invariant.same) v))

pub returns-clause-right : goal.returns-clause-right
returns-clause-right c = λ p w v.
    stage_none p c.args.kinds.now.list.now 5 c.loop-which.which-index (c.loop-which.invariant.none p w v) (λ less. let end = c.loop-which-test.false in omega arith)
