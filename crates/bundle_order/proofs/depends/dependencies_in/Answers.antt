use Rattle.std.proofs.Common.{◌≡◌, ◌↔◌, ℕ, false, not, [], ◌∷◌, ◌++◌, List, All, Contains, map, get_or, sym, ap, ◌∙◌, subst}
use Rattle.std.proofs.lemmas.Bool.{not-false, not_from_true}
use Rattle.std.proofs.lemmas.List.{map_push, take_more}
use Rattle.std.proofs.lemmas.List.Elements.{All-push}
use Rattle.bundle_order_sort.specs.declared.Dependency.{Dependency}
use Rattle.bundle_order.proofs.depends.dependencies_in.Goals as goal

pub loop-item-preserved : goal.loop-item-preserved
loop-item-preserved c =
    let all = c.args.all.now in
    let strong = c.args.strong.now in
    let i = c.loop-item.item-index in
    let found = c.loop-item.found.items in
    let is_strong = c.is_among-is_strong.result in
    let among = c.is_among-is_strong.ensures in
    let one : Dependency = record { item = get_or all i 0; is_weak = not is_strong } in
    let pushed = c.in_ok-push.ensures.items in
    record {
      items = ap (λ (l : List Dependency). map (λ x. x.item) l) pushed ∙ (map_push (λ (x : Dependency). x.item) found one ∙ (ap (λ (l : List ℕ). l ++ get_or all i 0 ∷ []) c.loop-item.invariant.items ∙ sym (take_more all i 0 c.loop-item-test.true)));
      strong = subst (λ (l : List Dependency). All (λ x. (x.is_weak ≡ false) ↔ Contains strong x.item) l) (sym pushed) (All-push (λ (x : Dependency). (x.is_weak ≡ false) ↔ Contains strong x.item) found one c.loop-item.invariant.strong ((λ e. among.0 (not-false is_strong e)), λ h. not_from_true is_strong (among.1 h)));
    }
