-- Each answer that is gone over goes last.
use Rattle.std.proofs.Common.{◌++◌, ◌∷◌, [], ap, sym, ◌∙◌, subst, take}
use Rattle.std.specs.List.{AllZip}
use Rattle.std.proofs.lemmas.List.{take_more}
use Rattle.bundle_link_targets.proofs.CallPlaceLemmas.{zip-push}
use Rattle.bundler_entry.specs.Parts.{IsAnswerRead}
use Rattle.bundler_entry.proofs.made.answers_of.Goals as goal

pub loop-meta-preserved : goal.loop-meta-preserved
loop-meta-preserved c =
    let metas = c.args.metas.now in
    let i = c.loop-meta.meta-index in
    rw c.in_ok-push.ensures.items
    (subst (λ l. AllZip IsAnswerRead l (c.loop-meta.answers.items ++ c.answer_of.result ∷ []))
    (ap (λ z. take i metas ++ z ∷ []) c.meta-item.is
    ∙ sym (take_more metas i c.meta-item.result c.loop-meta-test.true))
    (zip-push IsAnswerRead _ _ _ _ c.loop-meta.invariant c.answer_of.ensures))
