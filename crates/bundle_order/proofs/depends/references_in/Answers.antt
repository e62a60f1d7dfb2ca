use Rattle.std.proofs.Common.{◌≡◌, ◌↔◌, ℕ, false, not, [], ◌∷◌, ◌++◌, List, All, Contains, map, get_or, sym, ap, ◌∙◌, subst}
use Rattle.std.proofs.lemmas.Bool.{not-false, not_from_true}
use Rattle.std.proofs.lemmas.List.{map_push, take_more}
use Rattle.std.proofs.lemmas.List.Elements.{All-push}
use Rattle.bundle_order_sort.specs.declared.Reference.{Reference}
use Rattle.bundle_order.proofs.depends.references_in.Goals as goal

pub loop-list-preserved : goal.loop-list-preserved
loop-list-preserved c =
    let all = c.args.all.now in
    let strong = c.args.strong.now in
    let i = c.loop-list.list-index in
    let found = c.loop-list.found.items in
    let is_strong = c.is_among-is_strong.result in
    let among = c.is_among-is_strong.ensures in
    let one : Reference = record { list = get_or all i 0; is_weak = not is_strong } in
    let pushed = c.in_ok-push.ensures.items in
    record {
      lists = ap (λ (l : List Reference). map (λ x. x.list) l) pushed ∙ (map_push (λ (x : Reference). x.list) found one ∙ (ap (λ (l : List ℕ). l ++ get_or all i 0 ∷ []) c.loop-list.invariant.lists ∙ sym (take_more all i 0 c.loop-list-test.true)));
      strong = subst (λ (l : List Reference). All (λ x. (x.is_weak ≡ false) ↔ Contains strong x.list) l) (sym pushed) (All-push (λ (x : Reference). (x.is_weak ≡ false) ↔ Contains strong x.list) found one c.loop-list.invariant.strong ((λ e. among.0 (not-false is_strong e)), λ h. not_from_true is_strong (among.1 h)));
    }
