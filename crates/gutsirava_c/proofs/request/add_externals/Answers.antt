use Rattle.std.proofs.Common.{arith}
use Rattle.std.proofs.lemmas.List.{take_all}
use Rattle.gutsirava_c.proofs.Refused.{no_texts, passed_on, texts_all, texts_more}
use Rattle.gutsirava_c.proofs.request.add_externals.Goals as goal

pub loop-external-preserved : goal.loop-external-preserved
loop-external-preserved c =
    let l = c.loop-external in
    texts_more c.args.externals.now l.external-index c.external-item.result _ (omega arith) c.external-item.is l.invariant c.in_ok-text_of.ensures.is

pub returns-clause-are : goal.returns-clause-are
returns-clause-are c =
    let l = c.loop-external in
    texts_all c.args.externals.now l.external-index (take_all l.external-index c.args.externals.now (omega arith)) l.invariant

pub returns-in_err-text_of-clause-refused : goal.returns-in_err-text_of-clause-refused
returns-in_err-text_of-clause-refused c =
    passed_on _ _ c.from_residual.ensures.1
    (no_texts c.args.externals.now c.loop-external.external-index c.external-item.result (omega arith) c.external-item.is)
    (λ form. c.in_err-text_of.ensures.refused)
