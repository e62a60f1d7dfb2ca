use Rattle.std.proofs.Common.{ℕ, ◌+◌, List, take, sym, ap, ◌∙◌, subst, inl, inr, arith}
use Rattle.std.proofs.lemmas.Bool.{false≢true}
use Rattle.std.proofs.lemmas.List.{take_all}
use Rattle.bundle_order_sort.specs.Items.{AddsNeeds, IsNeeded}
use Rattle.bundle_order_sort.proofs.ElementLemmas.{Adds-takes, Adds-leaves, Contains-none}
use Rattle.bundle_order_sort.proofs.stack.add_needs.Goals as goal
use Rattle.bundle_order_sort.proofs.stack.add_needs.Goals.{then-is_need+in_ok-push, else-is_need}

pub loop-end-init : goal.loop-end-init
loop-end-init c = λ t. (λ h. inl h, λ o. elim o [ inl h ↦ h | inr p ↦ absurd (Contains-none t p.0) ])

pub loop-end-preserved : goal.loop-end-preserved
loop-end-preserved c =
    let Needed : ℕ → Type 0 = λ t. IsNeeded c.args.items.now c.args.ranks.now c.args.item t c.args.is_weak in
    let list = c.args.list.now in
    let i = c.loop-end.end-index in
    let old = c.args.needed.now.items in
    let new = c.loop-end.needed.items in
    elim c.if-is_need.branch [
      | then-is_need+in_ok-push w ↦ Adds-takes Needed list i c.loop-end-test.true old new c.loop-end.invariant (c.is_need.ensures.0 w.if-is_need.true) c.if-is_need.needed.items (ap (λ v. v.items) w.needed-is ∙ w.in_ok-push.ensures.items)
      | else-is_need w ↦ subst (λ (l : List ℕ). AddsNeeds Needed (take (i + 1) list) old l) (sym (ap (λ v. v.items) w.needed-is)) (Adds-leaves Needed list i c.loop-end-test.true old new c.loop-end.invariant (λ h. false≢true (sym w.if-is_need.false ∙ c.is_need.ensures.1 h)))
    ]

pub returns : goal.returns
returns c = subst (λ (l : List ℕ). AddsNeeds (λ t. IsNeeded c.args.items.now c.args.ranks.now c.args.item t c.args.is_weak) l c.args.needed.now.items c.loop-end.needed.items) (take_all c.loop-end.end-index c.args.list.now (omega (arith, c.loop-end-test.false))) c.loop-end.invariant
