-- Each answer that is read is put at the place of its module.
use Rattle.std.proofs.Common.{sym, subst, ◌+◌, arith}
use Rattle.bundler_entry.specs.Hook.{IsMetaRead}
use Rattle.bundler_entry.proofs.MergedLemmas.{AreReadSoFar, at-index, read-all, read-more}
use Rattle.bundler_entry.proofs.entry.read_answers.Goals as goal

pub loop-answer-preserved : goal.loop-answer-preserved
loop-answer-preserved c =
    let i = c.loop-answer.answer-index in
    subst (AreReadSoFar c.args.answers.now c.args.count (i + 1)) (sym c.put_meta.ensures)
    (read-more c.args.answers.now c.args.count i c.loop-answer.metas.items c.answer-item.result
    c.in_ok-read.read
    (at-index c.args.answers.now i c.answer-item.result c.loop-answer-test.true c.answer-item.is)
    (subst (λ given. IsMetaRead given c.in_ok-read.read) c.as_slice.ensures.value c.in_ok-read.ensures)
    c.loop-answer.invariant)

pub returns-clause-all : goal.returns-clause-all
returns-clause-all c = λ answer there below.
    read-all c.args.answers.now c.args.count c.loop-answer.answer-index c.loop-answer.metas.items
    (omega (arith, c.loop-answer-test.false)) c.loop-answer.invariant answer there below
