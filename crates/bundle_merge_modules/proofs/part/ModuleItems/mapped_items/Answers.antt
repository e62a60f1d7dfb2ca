use Rattle.std.proofs.Common.{inl, inr, refl, subst, sym}
use Rattle.std.specs.Prelude.{List, alloc_error, map}
use Rattle.std.specs.List.{AllZip}
use Rattle.std.specs.Map.Iter.{deref_pair}
use Rattle.std.proofs.lemmas.Map.Iter.{rest_more, rest_all}
use Rattle.bundle_merge_modules.specs.Groups.{IsMapped, ItemsAnswered, owned}
use Rattle.bundle_merge_modules.specs.Calls.{RefusesItemOf, RepliesOf, group_items, groups_of}
use Rattle.bundle_merge_modules.specs.Parts.{owned_by_module}
use Rattle.bundle_merge_modules.proofs.AnswerLemmas.{each-item, of-error, stop-behind, stop-front}
use Rattle.bundle_merge_modules.proofs.part.ModuleItems.mapped_items.Goals as goal

pub loop-id-preserved : goal.loop-id-preserved
loop-id-preserved g c =
    let e = rest_more deref_pair c.loop-id.id-iterator c.next.new.self _ (c.in-Some.id, c.in-Some.items) c.in-Some.is c.next.ensures.steps in
    let calls = goal.F-post g c.args.f.now in
    let all = RepliesOf calls in
    let zip = subst (λ (l : List _). AllZip (all c.in-Some.id.now) l c.in_ok-answer.answer.items) c.as_slice.ensures.value c.in_ok-answer.ensures.replies in
    let rest = map group_items c.next.new.self in (
      λ to more.
          c.loop-id.invariant.0 to
          (subst (λ l. IsMapped (ItemsAnswered all) (groups_of c.loop-id.mapped) (map group_items l) to) (sym e)
          (c.in_ok-answer.answer.items, zip, subst (λ done. IsMapped (ItemsAnswered all) done rest to) c.in_ok-extend.ensures.put more)),
      λ refusal stops.
          c.loop-id.invariant.1 refusal
          (subst (λ l. RefusesItemOf calls refusal (owned (map group_items l))) (sym e)
          (stop-behind _ _ (owned_by_module c.in-Some.id.now c.in-Some.items.now.items) (owned rest) (each-item all c.in-Some.id.now c.in-Some.items.now.items c.in_ok-answer.answer.items zip) stops)),
    )

pub returns-in_err-answer-clause-why : goal.returns-in_err-answer-clause-why
returns-in_err-answer-clause-why g c =
    let e = rest_more deref_pair c.loop-id.id-iterator c.next.new.self _ (c.in-Some.id, c.in-Some.items) c.in-Some.is c.next.ensures.steps in
    let calls = goal.F-post g c.args.f.now in
    let id = c.in-Some.id.now in
    let rest = map group_items c.next.new.self in
    of-error c.from_residual.result c.from_residual.ensures.1
    (λ refusal same. elim c.in_err-answer.ensures.why [
      | inl memory ↦ inl (subst (λ r. g.E.From.from_gives alloc_error r) (sym same) memory)
      | inr stops ↦
          let told = subst (λ r. RefusesItemOf calls r (owned_by_module id c.as_slice.result.now)) (sym same) stops in
          inr (c.loop-id.invariant.1 refusal
          (subst (λ l. RefusesItemOf calls refusal (owned (map group_items l))) (sym e)
          (stop-front _ _ (owned rest) (subst (λ (l : List _). RefusesItemOf calls refusal (owned_by_module id l)) c.as_slice.ensures.value told))))
    ])

pub returns-clause-mapped : goal.returns-clause-mapped
returns-clause-mapped g c =
    let all = RepliesOf (goal.F-post g c.args.f.now) in
    let done = groups_of c.loop-id.mapped in
    let none = rest_all deref_pair c.loop-id.id-iterator _ _ c.in-None.is c.next.ensures.steps in
    c.loop-id.invariant.0 done (subst (λ (l : List _). IsMapped (ItemsAnswered all) done (map group_items l) done) (sym none) refl)
