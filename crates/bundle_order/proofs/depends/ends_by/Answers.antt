use Rattle.std.proofs.Common.{◌≡◌, ℕ, ◌+◌, ◌↔◌, [], List, Contains, map, get_or, take, sym, ap, ◌∙◌, subst, arith}
use Rattle.std.proofs.lemmas.List.{get_or-map, length-map, take_all}
use Rattle.bundle_order.specs.Found.{AddsEnds, IsEnd}
use Rattle.bundle_order.proofs.ProvideLemmas.{IsEnd-more, IsEnd-past}
use Rattle.bundle_order_sort.proofs.ElementLemmas.{Contains-none}
use Rattle.bundle_order.proofs.depends.ends_by.Goals as goal
use Rattle.bundle_order.proofs.depends.ends_by.Goals.{then-binding-providers+in_ok-add_ends, else-binding-providers}

pub loop-binding-init : goal.loop-binding-init
loop-binding-init c = λ t. ((λ h. absurd (Contains-none t (subst (λ (l : List ℕ). Contains l t) c.new-ends.ensures.items h))), λ e. absurd (Contains-none e.1.0 e.1.1))

pub loop-binding-preserved : goal.loop-binding-preserved
loop-binding-preserved c =
    let providers = c.args.providers.now in
    let lists = map (λ v. v.items) providers in
    let bindings = c.args.bindings.now in
    let number = c.args.number in
    let i = c.loop-binding.binding-index in
    let ends = c.loop-binding.ends.items in
    let x = get_or bindings i 0 in
    elim c.if-binding-providers.branch [
      | then-binding-providers+in_ok-add_ends w ↦
          let new = w.add_ends.new.ends.items in
          let row : get_or lists x [] ≡ w.deref.result.now = get_or-map (λ v. v.items) providers x w.index-providers-binding.result [] w.if-binding-providers.true ∙ (ap (λ v. v.items) (sym w.index-providers-binding.is) ∙ sym w.deref.ensures.value) in
          let adds : AddsEnds (get_or lists x []) number ends new = subst (λ (l : List ℕ). AddsEnds l number ends new) (sym row) w.in_ok-add_ends.ensures in
          subst (λ (l : List ℕ). (t : ℕ) → Contains l t ↔ IsEnd lists (take (i + 1) bindings) number t) (sym (ap (λ v. v.items) w.ends-is)) (IsEnd-more lists bindings number i c.loop-binding-test.true ends c.loop-binding.invariant new adds)
      | else-binding-providers w ↦
          subst (λ (l : List ℕ). (t : ℕ) → Contains l t ↔ IsEnd lists (take (i + 1) bindings) number t) (sym (ap (λ v. v.items) w.ends-is)) (IsEnd-past lists bindings number i c.loop-binding-test.true ends c.loop-binding.invariant (omega (arith, length-map providers (λ v. v.items), w.if-binding-providers.false)))
    ]

pub returns : goal.returns
returns c = λ t. subst (λ (l : List ℕ). Contains c.loop-binding.ends.items t ↔ IsEnd (map (λ v. v.items) c.args.providers.now) l c.args.number t) (take_all c.loop-binding.binding-index c.args.bindings.now (omega (arith, c.loop-binding-test.false))) (c.loop-binding.invariant t)
