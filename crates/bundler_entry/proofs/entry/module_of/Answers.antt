-- What was answered is read, and what is made of the modules is made with it.
use Rattle.std.proofs.Common.{None, ◌∙◌}
use Rattle.std.proofs.lemmas.Option.{none-some}
use Rattle.std.proofs.lemmas.Result.{IfErr-weaker, IfOk-weaker, err_from_is_err_and}
use Rattle.bundler_entry.specs.Made.{answers_in, for_memory}
use Rattle.bundler_entry.proofs.StatementLemmas.{are-read}
use Rattle.bundler_entry.proofs.entry.module_of.Goals as goal

pub returns-in_err-metas-clause-refused : goal.returns-in_err-metas-clause-refused
returns-in_err-metas-clause-refused c =
    let q = err_from_is_err_and c.from_residual.result c.from_residual.ensures.1 in
    rw (q.1, q.2)
    (λ p entry w its asked.
    (λ k. None, λ k properties is. absurd (none-some properties is), for_memory))

pub returns-clause-made : goal.returns-clause-made
returns-clause-made c =
    let read = c.in_ok-metas.ensures in
    IfOk-weaker c.made.result _ _
    (λ made is. λ p entry w its asked.
    let right = are-read p entry c.args.call.now w c.args.linked.now its c.args.answers.now asked
    c.len.result (c.len.ensures ∙ c.args.linked.now.reached.places.ok.0)
    c.in_ok-metas.metas.items c.as_slice.result.now c.as_slice.ensures.value
    read.read read.of read.all in
    (answers_in c.as_slice.result.now, right.1, is p entry w its right.0 right.2))
    c.made.ensures.made

pub returns-clause-refused : goal.returns-clause-refused
returns-clause-refused c =
    let read = c.in_ok-metas.ensures in
    IfErr-weaker c.made.result _ _
    (λ unlinked is. λ p entry w its asked.
    let right = are-read p entry c.args.call.now w c.args.linked.now its c.args.answers.now asked
    c.len.result (c.len.ensures ∙ c.args.linked.now.reached.places.ok.0)
    c.in_ok-metas.metas.items c.as_slice.result.now c.as_slice.ensures.value
    read.read read.of read.all in
    (answers_in c.as_slice.result.now, right.1, is p entry w its right.0 right.2))
    c.made.ensures.refused
