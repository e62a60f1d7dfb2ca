-- Stage after stage.
use Rattle.std.proofs.Common.{Some, arith, refl, subst, sym}
use Rattle.bundle_link_index.specs.Outside.{IsIndexOf}
use Rattle.bundle_link_targets.proofs.StageLemmas.{is_none}
use Rattle.bundle_link_targets.proofs.JudgedLemmas.{judged_none, judged_some}
use Rattle.bundle_link_targets.proofs.faults.link_fault_of.Goals as goal

pub returns-in-Some-clause-right : goal.returns-in-Some-clause-right
returns-in-Some-clause-right c = λ p w v held.
    judged_some p c.args.kinds.now.list.now 3 5 9 c.first_of_two.result c.in-Some.fault c.in-Some.is (omega arith) (c.first_of_two.ensures p w refl)

pub returns-in-Some-name-clause-right : goal.returns-in-Some-name-clause-right
returns-in-Some-name-clause-right c = λ p w v held.
    judged_none p c.args.kinds.now.list.now 3 5 9 c.first_of_two.result (Some c.in-Some-name.fault) (is_none c.first_of_two.result c.in_default.not-Some) (omega arith) (c.first_of_two.ensures p w refl)
    (judged_some p c.args.kinds.now.list.now 5 6 9 c.in_ok-name.name c.in-Some-name.fault c.in-Some-name.is (omega arith) (c.in_ok-name.ensures.right p w v))

pub returns-in-Some-object-clause-right : goal.returns-in-Some-object-clause-right
returns-in-Some-object-clause-right c = λ p w v held.
    judged_none p c.args.kinds.now.list.now 3 5 9 c.first_of_two.result (Some c.in-Some-object.fault) (is_none c.first_of_two.result c.in_default.not-Some) (omega arith) (c.first_of_two.ensures p w refl)
    (judged_none p c.args.kinds.now.list.now 5 6 9 c.in_ok-name.name (Some c.in-Some-object.fault) (is_none c.in_ok-name.name c.in_default-name.not-Some) (omega arith) (c.in_ok-name.ensures.right p w v)
    (judged_some p c.args.kinds.now.list.now 6 7 9 c.in_ok-object.object c.in-Some-object.fault c.in-Some-object.is (omega arith) (c.in_ok-object.ensures.right p (subst (IsIndexOf p) (sym c.in_ok-name.ensures.same) v) held)))

pub returns-clause-right : goal.returns-clause-right
returns-clause-right c = λ p w v held.
    judged_none p c.args.kinds.now.list.now 3 5 9 c.first_of_two.result c.first_of_two-2.result (is_none c.first_of_two.result c.in_default.not-Some) (omega arith) (c.first_of_two.ensures p w refl)
    (judged_none p c.args.kinds.now.list.now 5 6 9 c.in_ok-name.name c.first_of_two-2.result (is_none c.in_ok-name.name c.in_default-name.not-Some) (omega arith) (c.in_ok-name.ensures.right p w v)
    (judged_none p c.args.kinds.now.list.now 6 7 9 c.in_ok-object.object c.first_of_two-2.result (is_none c.in_ok-object.object c.in_default-object.not-Some) (omega arith) (c.in_ok-object.ensures.right p (subst (IsIndexOf p) (sym c.in_ok-name.ensures.same) v) held)
    (c.first_of_two-2.ensures p w refl)))
