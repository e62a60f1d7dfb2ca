use Rattle.std.proofs.Common.{inl, inr, [], ◌++◌, List, ap, sym, subst}
use Rattle.std.specs.Prelude.{alloc_error}
use Rattle.bundle_merge_modules.specs.Groups.{ItemsAnswered, owned}
use Rattle.bundle_merge_modules.specs.Calls.{RefusesItemOf, RepliesOf, groups_of}
use Rattle.bundle_merge_modules.specs.Parts.{HeldOf, MapsItemsOf, all_in_order}
use Rattle.bundle_merge_modules.proofs.AnswerLemmas.{IsTidy-mapped, items_answered, each-items, of-error, stop-behind, stop-front}
use Rattle.bundle_merge_modules.proofs.parts.Parts.map_items_mut.Goals as goal

pub invariant_of-self : goal.invariant_of-self
invariant_of-self g c =
    let all = ItemsAnswered (RepliesOf (goal.F-post g c.args.f.now)) in
    let old = c.self.inside in (
      IsTidy-mapped all (groups_of old.prepended) [] (groups_of c.in_ok-prepended.prepended) tt c.in_ok-prepended.ensures.mapped,
      IsTidy-mapped all (groups_of old.bodies) [] (groups_of c.in_ok-bodies.bodies) tt c.in_ok-bodies.ensures.mapped,
      IsTidy-mapped all (groups_of old.appended) [] (groups_of c.in_ok-appended.appended) tt c.in_ok-appended.ensures.mapped,
    )

pub returns-clause-answered : goal.returns-clause-answered
returns-clause-answered g c =
    let all = RepliesOf (goal.F-post g c.args.f.now) in
    let old = c.self.inside in
    let tidy = c.self.invariant in
    let after : HeldOf _ = record { prepended = owned (groups_of c.in_ok-prepended.prepended); bodies = owned (groups_of c.in_ok-bodies.bodies); appended = owned (groups_of c.in_ok-appended.appended) } in
    subst (λ (h : HeldOf _). MapsItemsOf all h after) c.self.view_is
    (record {
      prepended = items_answered all (groups_of old.prepended) (groups_of c.in_ok-prepended.prepended) tidy.0 c.in_ok-prepended.ensures.mapped;
      bodies = items_answered all (groups_of old.bodies) (groups_of c.in_ok-bodies.bodies) tidy.1 c.in_ok-bodies.ensures.mapped;
      appended = items_answered all (groups_of old.appended) (groups_of c.in_ok-appended.appended) tidy.2 c.in_ok-appended.ensures.mapped;
    })

pub returns-in_err-prepended-clause-why : goal.returns-in_err-prepended-clause-why
returns-in_err-prepended-clause-why g c =
    let calls = goal.F-post g c.args.f.now in
    let all = RepliesOf calls in
    let old = c.self.inside in
    let is = ap (λ (h : HeldOf _). all_in_order h) c.self.view_is in
    of-error c.from_residual.result c.from_residual.ensures.1
    (λ refusal same. elim c.in_err-prepended.ensures.why [
      | inl memory ↦ inl (subst (λ r. g.E.From.from_gives alloc_error r) (sym same) memory)
      | inr stopped ↦
          let stops = subst (λ r. RefusesItemOf calls r (owned (groups_of old.prepended))) (sym same) stopped in
          inr (subst (λ (l : List _). RefusesItemOf calls refusal l) is (stop-front _ _ (owned (groups_of old.bodies) ++ owned (groups_of old.appended)) stops))
    ])

pub returns-in_err-bodies-clause-why : goal.returns-in_err-bodies-clause-why
returns-in_err-bodies-clause-why g c =
    let calls = goal.F-post g c.args.f.now in
    let all = RepliesOf calls in
    let old = c.self.inside in
    let is = ap (λ (h : HeldOf _). all_in_order h) c.self.view_is in
    of-error c.from_residual-in_err-bodies.result c.from_residual-in_err-bodies.ensures.1
    (λ refusal same. elim c.in_err-bodies.ensures.why [
      | inl memory ↦ inl (subst (λ r. g.E.From.from_gives alloc_error r) (sym same) memory)
      | inr stopped ↦
          let stops = subst (λ r. RefusesItemOf calls r (owned (groups_of old.bodies))) (sym same) stopped in
          inr (subst (λ (l : List _). RefusesItemOf calls refusal l) is (stop-behind _ _ (owned (groups_of old.prepended)) (owned (groups_of old.bodies) ++ owned (groups_of old.appended)) (each-items all [] (groups_of old.prepended) (groups_of c.in_ok-prepended.prepended) c.in_ok-prepended.ensures.mapped) (stop-front _ _ (owned (groups_of old.appended)) stops)))
    ])

pub returns-in_err-appended-clause-why : goal.returns-in_err-appended-clause-why
returns-in_err-appended-clause-why g c =
    let calls = goal.F-post g c.args.f.now in
    let all = RepliesOf calls in
    let old = c.self.inside in
    let is = ap (λ (h : HeldOf _). all_in_order h) c.self.view_is in
    of-error c.from_residual-in_err-appended.result c.from_residual-in_err-appended.ensures.1
    (λ refusal same. elim c.in_err-appended.ensures.why [
      | inl memory ↦ inl (subst (λ r. g.E.From.from_gives alloc_error r) (sym same) memory)
      | inr stopped ↦
          let stops = subst (λ r. RefusesItemOf calls r (owned (groups_of old.appended))) (sym same) stopped in
          inr (subst (λ (l : List _). RefusesItemOf calls refusal l) is (stop-behind _ _ (owned (groups_of old.prepended)) (owned (groups_of old.bodies) ++ owned (groups_of old.appended)) (each-items all [] (groups_of old.prepended) (groups_of c.in_ok-prepended.prepended) c.in_ok-prepended.ensures.mapped) (stop-behind _ _ (owned (groups_of old.bodies)) (owned (groups_of old.appended)) (each-items all [] (groups_of old.bodies) (groups_of c.in_ok-bodies.bodies) c.in_ok-bodies.ensures.mapped) stops)))
    ])
