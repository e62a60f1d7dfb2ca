use Rattle.std.proofs.Common.{inr, Err, refl, subst, sym}
use Rattle.std.specs.Prelude.{map}
use Rattle.std.specs.Map.Iter.{deref_pair}
use Rattle.std.proofs.lemmas.Map.Iter.{rest_more}
use Rattle.bundle_merge_modules.specs.Groups.{IsMapped}
use Rattle.bundle_merge_modules.specs.Calls.{AnswersOf, RefusesListOf, group_items, groups_of}
use Rattle.bundle_merge_modules.specs.Refused.StopsAt.{here, further}
use Rattle.bundle_merge_modules.proofs.AnswerLemmas.{of-error}
use Rattle.bundle_merge_modules.proofs.part.ModuleItems.mapped.Goals as goal

pub loop-id-preserved : goal.loop-id-preserved
loop-id-preserved g c =
    let e = rest_more deref_pair c.loop-id.id-iterator c.next.new.self _ (c.in-Some.id, c.in-Some.items) c.in-Some.is c.next.ensures.steps in
    let put = c.in_ok-extend.ensures.put in
    let calls = goal.F-post g c.args.f.now in (
      λ to rest.
          c.loop-id.invariant.0 to
          (subst (λ l. IsMapped (AnswersOf calls) (groups_of c.loop-id.mapped) (map group_items l) to) (sym e)
          (c.in_ok-answer.answer.items, (c.as_slice.result, c.in_ok-answer.answer, c.as_slice.ensures.value, c.in_ok-answer.ensures, refl), subst (λ done. IsMapped (AnswersOf calls) done (map group_items c.next.new.self) to) put rest)),
      λ refusal stops.
          c.loop-id.invariant.1 refusal
          (subst (λ l. RefusesListOf calls refusal (map group_items l)) (sym e)
          (further (c.in_ok-answer.answer.items, (c.as_slice.result, c.in_ok-answer.answer, c.as_slice.ensures.value, c.in_ok-answer.ensures, refl)) stops)),
    )

pub returns-in_err-answer-clause-why : goal.returns-in_err-answer-clause-why
returns-in_err-answer-clause-why g c =
    let e = rest_more deref_pair c.loop-id.id-iterator c.next.new.self _ (c.in-Some.id, c.in-Some.items) c.in-Some.is c.next.ensures.steps in
    let calls = goal.F-post g c.args.f.now in
    of-error c.from_residual.result c.from_residual.ensures.1
    (λ refusal same.
    inr (c.loop-id.invariant.1 refusal
    (subst (λ l. RefusesListOf calls refusal (map group_items l)) (sym e)
    (here (c.as_slice.result, c.as_slice.ensures.value, subst (λ r. calls c.in-Some.id.now c.as_slice.result (Err r)) (sym same) c.in_err-answer.ensures)))))
