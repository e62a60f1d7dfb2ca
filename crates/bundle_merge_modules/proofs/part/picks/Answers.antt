use Rattle.std.proofs.Common.{◌≡◌, List, [], ◌∷◌, ◌++◌, Option, Some, None, take, refl, ap, subst, sym, ◌∙◌, arith, rules, ◌+◌, inr, drop}
use Rattle.std.proofs.lemmas.List.{drop_more, take-append-drop, take_more}
use Rattle.bundle_merge_modules.specs.Groups.{PickedOf}
use Rattle.bundle_merge_modules.specs.Groups.PickedOf.{over}
use Rattle.bundle_merge_modules.specs.Calls.{PicksOf, RefusesOf, RefusesPickOf}
use Rattle.bundle_merge_modules.proofs.AnswerLemmas.{pick-goes, pick-stays, each-pick, of-error, stop-at}
use Rattle.bundle_merge_modules.specs.Parts.{owned_by_module}
use Rattle.bundle_merge_modules.proofs.part.picks.Goals as goal

pub loop-item-init : goal.loop-item-init
loop-item-init g c =
    let all = PicksOf (goal.F-post g c.args.f.now) c.args.id in
    subst (λ (l : List _). PickedOf all [] l) (sym c.new-picks.ensures.items) over

pub loop-item-preserved-in_default : goal.loop-item-preserved-in_default
loop-item-preserved-in_default g c =
    let all = PicksOf (goal.F-post g c.args.f.now) c.args.id in
    let xs = c.args.items.now in
    let i = c.loop-item.item-index in
    let item = c.item-item.result in
    let more = take_more xs i item (omega arith) ∙ ap (λ x. take i xs ++ x ∷ []) (sym c.item-item.is) in
    let none : c.in_ok-reply.field-0 ≡ None = search rules in
    let said : all item None = subst (λ (o : Option _). all item o) none (_, refl, c.in_ok-reply.ensures) in
    subst (λ (l : List _). PickedOf all l c.loop-item.picks.items) (sym more) (pick-goes all c.loop-item.invariant said)

pub loop-item-preserved : goal.loop-item-preserved
loop-item-preserved g c =
    let all = PicksOf (goal.F-post g c.args.f.now) c.args.id in
    let xs = c.args.items.now in
    let i = c.loop-item.item-index in
    let item = c.item-item.result in
    let more = take_more xs i item (omega arith) ∙ ap (λ x. take i xs ++ x ∷ []) (sym c.item-item.is) in
    let said : all item (Some c.in-Some.reply) = subst (λ (o : Option _). all item o) c.in-Some.is (_, refl, c.in_ok-reply.ensures) in
    let picked = pick-stays all c.loop-item.invariant said in
    subst (λ (l : List _). PickedOf all l c.push.new.self.items) (sym more) (subst (λ (l : List _). PickedOf all (take i xs ++ item ∷ []) l) (sym c.in_default-push.ensures.items) picked)

pub returns-in_err-reply-clause-why : goal.returns-in_err-reply-clause-why
returns-in_err-reply-clause-why g c =
    let calls = goal.F-post g c.args.f.now in
    let all = PicksOf calls in
    let xs = c.args.items.now in
    let i = c.loop-item.item-index in
    let item = c.item-item.result in
    let split =
    sym (take-append-drop i xs)
    ∙ ap (λ l. take i xs ++ l) (drop_more xs i item (omega arith))
    ∙ ap (λ x. take i xs ++ x ∷ drop (i + 1) xs) (sym c.item-item.is) in
    of-error c.from_residual.result c.from_residual.ensures.1
    (λ refusal same.
    inr (subst (λ (l : List _). RefusesPickOf calls refusal (owned_by_module c.args.id l)) (sym split)
    (stop-at _ _ c.args.id (take i xs) item (drop (i + 1) xs) (each-pick all c.args.id c.loop-item.invariant)
    (subst (λ r. RefusesOf calls r (c.args.id, item)) (sym same) (_, refl, c.in_err-reply.ensures)))))
