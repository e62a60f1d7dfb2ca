-- What is merged is what the modules of the entry are as one, and a refusal is of it.
use Rattle.std.proofs.Common.{length, refl, sym, subst}
use Rattle.std.specs.List.{AllZip}
use Rattle.std.proofs.lemmas.Result.{err_from_is_err_and}
use Rattle.bundler_entry.specs.Made.{for_memory}
use Rattle.bundler_entry.specs.Parts.{AreEntryParts, IsAnswerRead}
use Rattle.bundler_entry.proofs.MergedLemmas.{all-merged, all-refused}
use Rattle.bundler_entry.proofs.PartsLemmas.{has-files, has-places}
use Rattle.bundler_entry.proofs.made.merged_of.Goals as goal

pub returns-in_err-parts-clause-refused : goal.returns-in_err-parts-clause-refused
returns-in_err-parts-clause-refused c =
    let q = err_from_is_err_and c.from_residual.result c.from_residual.ensures.1 in
    rw (q.1, q.2) (λ p entry w l are read answered. for_memory)

pub returns-in_err-answers-clause-refused : goal.returns-in_err-answers-clause-refused
returns-in_err-answers-clause-refused c =
    let q =
    err_from_is_err_and c.from_residual-in_err-answers.result
    c.from_residual-in_err-answers.ensures.1 in
    rw (q.1, q.2) (λ p entry w l are read answered. for_memory)

pub returns-in-Err-OutOfMemory-clause-refused : goal.returns-in-Err-OutOfMemory-clause-refused
returns-in-Err-OutOfMemory-clause-refused c = λ p entry w l are read answered. for_memory

pub returns-in_err-contexts_refusal-in-Err-ContextsUsedUp-clause-refused :
    goal.returns-in_err-contexts_refusal-in-Err-ContextsUsedUp-clause-refused
returns-in_err-contexts_refusal-in-Err-ContextsUsedUp-clause-refused c =
    let q = err_from_is_err_and c.from_residual-in_err-contexts_refusal-in-Err-ContextsUsedUp.result
    c.from_residual-in_err-contexts_refusal-in-Err-ContextsUsedUp.ensures.1 in
    rw (q.1, q.2) (λ p entry w l are read answered. for_memory)

pub returns-in-Ok-clause-merged : goal.returns-in-Ok-clause-merged
returns-in-Ok-clause-merged c = λ p entry w l are read answered.
    let call = c.args.call.now in
    let linked = c.args.linked.now in
    let bodies = c.args.bodies.now in
    let metas = c.args.metas.now in
    all-merged p entry call w linked l bodies are metas read answered _ c.in-Ok.merged
    c.in-Ok.ensures.merged
    (subst (λ list. AreEntryParts call linked.reached bodies (length linked.reached.leads.items) list)
    (sym c.as_slice.ensures.value)
    (c.in_ok-parts.ensures (has-places p entry call w linked l) (has-files p entry call w linked l)))
    (subst (λ list. AllZip IsAnswerRead metas list) (sym c.as_slice-2.ensures.value)
    c.in_ok-answers.ensures)
    refl c.as_slice-3.ensures.value c.above.ensures.next

pub returns-clause-refused : goal.returns-clause-refused
returns-clause-refused c = λ p entry w l are read answered.
    let call = c.args.call.now in
    let linked = c.args.linked.now in
    let bodies = c.args.bodies.now in
    let metas = c.args.metas.now in
    let error = c.in-Err-ContextsUsedUp in
    all-refused p entry call w linked l bodies are metas read _ error.field-0 error.which
    c.in_ok-contexts_refusal-in-Err-ContextsUsedUp.field-0 error.field-0-is error.ensures.refused
    (subst (λ list. AreEntryParts call linked.reached bodies (length linked.reached.leads.items) list)
    (sym c.as_slice.ensures.value)
    (c.in_ok-parts.ensures (has-places p entry call w linked l) (has-files p entry call w linked l)))
    (subst (λ list. AllZip IsAnswerRead metas list) (sym c.as_slice-2.ensures.value)
    c.in_ok-answers.ensures)
    refl c.as_slice-3.ensures.value c.above.ensures.next c.above.ensures.none
    c.in_ok-contexts_refusal-in-Err-ContextsUsedUp.ensures
