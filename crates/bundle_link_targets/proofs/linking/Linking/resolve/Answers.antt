-- What is found is right, and where nothing is, it is told why.
use Rattle.std.proofs.Common.{subst}
use Rattle.std.proofs.lemmas.Result.{IfOk-weaker}
use Rattle.bundle_link_index.specs.Says.{TellsAnswer, answer_says}
use Rattle.bundle_link_targets.proofs.linking.Linking.resolve.Goals as goal

pub returns-in-One : goal.returns-in-One
returns-in-One c = λ p w. subst (λ answer. TellsAnswer p c.args.number c.args.name.now (answer_says answer)) c.in-One.is (c.in_ok-answer.ensures p w.index)

pub returns-in-Two : goal.returns-in-Two
returns-in-Two c = λ p w. subst (λ answer. TellsAnswer p c.args.number c.args.name.now (answer_says answer)) c.in-Two.is (c.in_ok-answer.ensures p w.index)

pub returns-in-None : goal.returns-in-None
returns-in-None c =
    IfOk-weaker c.missing.result _ _ (λ found known. λ p w. known p w (subst (λ answer. TellsAnswer p c.args.number c.args.name.now (answer_says answer)) c.in-None.is (c.in_ok-answer.ensures p w.index))) c.missing.ensures
