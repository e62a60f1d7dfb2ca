use Rattle.std.proofs.Common.{inl, inr, [], ◌++◌, List, ap, ap₂, sym, ◌∙◌, subst}
use Rattle.std.specs.Prelude.{alloc_error}
use Rattle.bundle_merge_modules.specs.Groups.{owned}
use Rattle.bundle_merge_modules.specs.Calls.{AnswersOf, RefusesListOf, groups_of}
use Rattle.bundle_merge_modules.specs.Parts.{HeldOf, MapsListsOf, lists_in_order_of}
use Rattle.bundle_merge_modules.proofs.AnswerLemmas.{IsTidy-mapped, lists_answered, each-list, lists-owned, of-error, stop-behind, stop-front}
use Rattle.bundle_merge_modules.proofs.parts.Parts.map_any_items.Goals as goal

pub invariant_of-self : goal.invariant_of-self
invariant_of-self g c =
    let all = AnswersOf (goal.F-post g c.args.f.now) in
    let old = c.self.inside in (
      IsTidy-mapped all (groups_of old.prepended) [] (groups_of c.in_ok-prepended.prepended) tt c.in_ok-prepended.ensures.mapped,
      IsTidy-mapped all (groups_of old.bodies) [] (groups_of c.in_ok-bodies.bodies) tt c.in_ok-bodies.ensures.mapped,
      IsTidy-mapped all (groups_of old.appended) [] (groups_of c.in_ok-appended.appended) tt c.in_ok-appended.ensures.mapped,
    )

pub returns-clause-answered : goal.returns-clause-answered
returns-clause-answered g c =
    let all = AnswersOf (goal.F-post g c.args.f.now) in
    let old = c.self.inside in
    let tidy = c.self.invariant in
    let after : HeldOf _ = record { prepended = owned (groups_of c.in_ok-prepended.prepended); bodies = owned (groups_of c.in_ok-bodies.bodies); appended = owned (groups_of c.in_ok-appended.appended) } in
    subst (λ (h : HeldOf _). MapsListsOf all h after) c.self.view_is
    (record {
      prepended = lists_answered all (groups_of old.prepended) (groups_of c.in_ok-prepended.prepended) tidy.0 c.in_ok-prepended.ensures.mapped;
      bodies = lists_answered all (groups_of old.bodies) (groups_of c.in_ok-bodies.bodies) tidy.1 c.in_ok-bodies.ensures.mapped;
      appended = lists_answered all (groups_of old.appended) (groups_of c.in_ok-appended.appended) tidy.2 c.in_ok-appended.ensures.mapped;
    })

pub returns-in_err-prepended-clause-why : goal.returns-in_err-prepended-clause-why
returns-in_err-prepended-clause-why g c =
    let calls = goal.F-post g c.args.f.now in
    let all = AnswersOf calls in
    let old = c.self.inside in
    let tidy = c.self.invariant in
    let before = ap₂ (λ l m. l ++ m) (lists-owned (groups_of old.prepended) tidy.0) (ap₂ (λ l m. l ++ m) (lists-owned (groups_of old.bodies) tidy.1) (lists-owned (groups_of old.appended) tidy.2)) in
    let is = sym before ∙ ap (λ (h : HeldOf _). lists_in_order_of h) c.self.view_is in
    of-error c.from_residual.result c.from_residual.ensures.1
    (λ refusal same. elim c.in_err-prepended.ensures.why [
      | inl memory ↦ inl (subst (λ r. g.E.From.from_gives alloc_error r) (sym same) memory)
      | inr stopped ↦
          let stops = subst (λ r. RefusesListOf calls r (groups_of old.prepended)) (sym same) stopped in
          inr (subst (λ (l : List _). RefusesListOf calls refusal l) is (stop-front _ _ (groups_of old.bodies ++ groups_of old.appended) stops))
    ])

pub returns-in_err-bodies-clause-why : goal.returns-in_err-bodies-clause-why
returns-in_err-bodies-clause-why g c =
    let calls = goal.F-post g c.args.f.now in
    let all = AnswersOf calls in
    let old = c.self.inside in
    let tidy = c.self.invariant in
    let before = ap₂ (λ l m. l ++ m) (lists-owned (groups_of old.prepended) tidy.0) (ap₂ (λ l m. l ++ m) (lists-owned (groups_of old.bodies) tidy.1) (lists-owned (groups_of old.appended) tidy.2)) in
    let is = sym before ∙ ap (λ (h : HeldOf _). lists_in_order_of h) c.self.view_is in
    of-error c.from_residual-in_err-bodies.result c.from_residual-in_err-bodies.ensures.1
    (λ refusal same. elim c.in_err-bodies.ensures.why [
      | inl memory ↦ inl (subst (λ r. g.E.From.from_gives alloc_error r) (sym same) memory)
      | inr stopped ↦
          let stops = subst (λ r. RefusesListOf calls r (groups_of old.bodies)) (sym same) stopped in
          inr (subst (λ (l : List _). RefusesListOf calls refusal l) is (stop-behind _ _ (groups_of old.prepended) (groups_of old.bodies ++ groups_of old.appended) (each-list all [] (groups_of old.prepended) (groups_of c.in_ok-prepended.prepended) c.in_ok-prepended.ensures.mapped) (stop-front _ _ (groups_of old.appended) stops)))
    ])

pub returns-in_err-appended-clause-why : goal.returns-in_err-appended-clause-why
returns-in_err-appended-clause-why g c =
    let calls = goal.F-post g c.args.f.now in
    let all = AnswersOf calls in
    let old = c.self.inside in
    let tidy = c.self.invariant in
    let before = ap₂ (λ l m. l ++ m) (lists-owned (groups_of old.prepended) tidy.0) (ap₂ (λ l m. l ++ m) (lists-owned (groups_of old.bodies) tidy.1) (lists-owned (groups_of old.appended) tidy.2)) in
    let is = sym before ∙ ap (λ (h : HeldOf _). lists_in_order_of h) c.self.view_is in
    of-error c.from_residual-in_err-appended.result c.from_residual-in_err-appended.ensures.1
    (λ refusal same. elim c.in_err-appended.ensures.why [
      | inl memory ↦ inl (subst (λ r. g.E.From.from_gives alloc_error r) (sym same) memory)
      | inr stopped ↦
          let stops = subst (λ r. RefusesListOf calls r (groups_of old.appended)) (sym same) stopped in
          inr (subst (λ (l : List _). RefusesListOf calls refusal l) is (stop-behind _ _ (groups_of old.prepended) (groups_of old.bodies ++ groups_of old.appended) (each-list all [] (groups_of old.prepended) (groups_of c.in_ok-prepended.prepended) c.in_ok-prepended.ensures.mapped) (stop-behind _ _ (groups_of old.bodies) (groups_of old.appended) (each-list all [] (groups_of old.bodies) (groups_of c.in_ok-bodies.bodies) c.in_ok-bodies.ensures.mapped) stops)))
    ])
