-- What is found is right, and else it is told why.
use Rattle.std.proofs.Common.{refl, subst, sym}
use Rattle.bundle_rules.specs.Faults.{NameFault}
use Rattle.bundle_link_index.specs.Outside.{IsIndexOf}
use Rattle.bundle_link_index.specs.Says.{TellsAnswer, answer_says}
use Rattle.bundle_link_targets.specs.Judged.{fault_by}
use Rattle.bundle_link_targets.proofs.StageLemmas.{linked_right, two_wrong}
use Rattle.bundle_link_targets.proofs.faults.asked_fault.Goals.{in-Two, in-None+in_ok-kind-in-None}
use Rattle.bundle_link_targets.proofs.faults.asked_fault.Goals as goal

pub returns-in-One-clause-right : goal.returns-in-One-clause-right
returns-in-One-clause-right c = λ p w file f wrong.
    linked_right p c.args.asked.which c.args.asked.name.now _ file f (subst (λ answer. TellsAnswer p c.args.asked.which c.args.asked.name.now (answer_says answer)) c.in-One.is (c.in_ok-answer.ensures.right p w)) wrong

pub returns-clause-right : goal.returns-clause-right
returns-clause-right c = λ p w. record {
  here = refl;
  wrong = λ file. elim c.match-answer.branch [
    | in-Two v ↦ subst (λ kind. NameFault p c.args.asked.which c.args.asked.name.now file (fault_by kind file c.args.asked.name.now)) (sym v.kind-is)
        (two_wrong p c.args.asked.which c.args.asked.name.now _ _ file (subst (λ answer. TellsAnswer p c.args.asked.which c.args.asked.name.now (answer_says answer)) v.in-Two.is (c.in_ok-answer.ensures.right p w)))
    | in-None+in_ok-kind-in-None v ↦ subst (λ kind. NameFault p c.args.asked.which c.args.asked.name.now file (fault_by kind file c.args.asked.name.now)) (sym v.kind-is)
        (v.in_ok-kind-in-None.ensures.right p (subst (IsIndexOf p) (sym c.in_ok-answer.ensures.same) w) (subst (λ answer. TellsAnswer p c.args.asked.which c.args.asked.name.now (answer_says answer)) v.in-None.is (c.in_ok-answer.ensures.right p w)) file)
  ];
}
