use Rattle.std.proofs.Common.{List, [], ◌∷◌, ◌++◌, take, refl, ap, subst, sym, ◌∙◌, arith, ◌+◌, inr, drop}
use Rattle.std.specs.List.{AllZip}
use Rattle.std.proofs.lemmas.List.{drop_more, take-append-drop, take_more}
use Rattle.std.proofs.lemmas.List.Elements.{AllZip-push}
use Rattle.bundle_merge_modules.specs.Calls.{RefusesOf, RefusesItemOf, RepliesOf}
use Rattle.bundle_merge_modules.specs.Parts.{owned_by_module}
use Rattle.bundle_merge_modules.proofs.AnswerLemmas.{each-item, of-error, stop-at}
use Rattle.bundle_merge_modules.proofs.part.replies.Goals as goal

pub loop-item-preserved : goal.loop-item-preserved
loop-item-preserved g c =
    let all = RepliesOf (goal.F-post g c.args.f.now) c.args.id in
    let xs = c.args.items.now in
    let i = c.loop-item.item-index in
    let item = c.item-item.result in
    let more = take_more xs i item (omega arith) ∙ ap (λ x. take i xs ++ x ∷ []) (sym c.item-item.is) in
    let zip = AllZip-push all (take i xs) c.loop-item.replies.items item c.in_ok-reply.reply c.loop-item.invariant (_, refl, c.in_ok-reply.ensures) in
    subst (λ (l : List _). AllZip all l c.push.new.self.items) (sym more) (subst (λ (l : List _). AllZip all (take i xs ++ item ∷ []) l) (sym c.in_default.ensures.items) zip)

pub returns-in_err-reply-clause-why : goal.returns-in_err-reply-clause-why
returns-in_err-reply-clause-why g c =
    let calls = goal.F-post g c.args.f.now in
    let all = RepliesOf calls in
    let xs = c.args.items.now in
    let i = c.loop-item.item-index in
    let item = c.item-item.result in
    let split =
    sym (take-append-drop i xs)
    ∙ ap (λ l. take i xs ++ l) (drop_more xs i item (omega arith))
    ∙ ap (λ x. take i xs ++ x ∷ drop (i + 1) xs) (sym c.item-item.is) in
    of-error c.from_residual.result c.from_residual.ensures.1
    (λ refusal same.
    inr (subst (λ (l : List _). RefusesItemOf calls refusal (owned_by_module c.args.id l)) (sym split)
    (stop-at _ _ c.args.id (take i xs) item (drop (i + 1) xs) (each-item all c.args.id (take i xs) c.loop-item.replies.items c.loop-item.invariant)
    (subst (λ r. RefusesOf calls r (c.args.id, item)) (sym same) (_, refl, c.in_err-reply.ensures)))))
