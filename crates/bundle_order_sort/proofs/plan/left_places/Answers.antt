use Rattle.std.proofs.Common.{◌≡◌, ◌||◌, ◌++◌, ◌∷◌, [], ℕ, nat_eq, List, get_or, sym, ap, ◌∙◌}
use Rattle.std.specs.List.{list_any}
use Rattle.std.proofs.lemmas.List.{get_or_read}
use Rattle.bundle_order_sort.proofs.PlanLemmas.{left-kept, left-passed}
use Rattle.bundle_order_sort.proofs.plan.left_places.Goals as goal
use Rattle.bundle_order_sort.proofs.plan.left_places.Goals.{then-not-contains+in_ok-push, else-not-contains}

pub loop-place-preserved : goal.loop-place-preserved
loop-place-preserved c =
    let owners = c.args.owners.now in
    let list = c.args.list.now in
    let i = c.loop-place.place in
    let x = c.index-owners-place.result in
    let within = c.loop-place-test.true in
    let read : x ≡ get_or owners i 0 = get_or_read owners i x within c.index-owners-place.is 0 in
    let has : list_any (nat_eq x) list ≡ c.contains.result =
    sym (c.in_ok-add_all.ensures x ∙ ap (λ (l : List ℕ). list_any (nat_eq x) l || list_any (nat_eq x) list) c.new-reached.ensures.empty) ∙ sym c.contains.ensures in
    elim c.if-not-contains.branch [
      | then-not-contains+in_ok-push w ↦
          ap (λ v. v.items) w.left-is
          ∙ (w.in_ok-push.ensures.items
          ∙ (ap (λ (l : List ℕ). l ++ i ∷ []) c.loop-place.invariant
          ∙ sym (left-kept owners list i x within read (has ∙ w.if-not-contains.true))))
      | else-not-contains w ↦
          ap (λ v. v.items) w.left-is
          ∙ (c.loop-place.invariant
          ∙ sym (left-passed owners list i x within read (has ∙ w.if-not-contains.false)))
    ]
