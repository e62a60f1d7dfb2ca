use Rattle.std.proofs.Common.{◌≡◌, ℕ, ◌↔◌, false, List, All, Contains, ◌∙◌, subst}
use Rattle.bundle_order_sort.specs.declared.Reference.{Reference}
use Rattle.bundle_order.proofs.DependLemmas.{IsReferred-made}
use Rattle.bundle_order.proofs.depends.references_of.Goals as goal

pub returns : goal.returns
returns c =
    IsReferred-made c.args.all.now c.args.strong.now c.once-wanted.result.items c.once-strong_ones.result.items c.in_ok-found.found.items
    (λ b. subst (λ (l : List ℕ). Contains c.once-wanted.result.items b ↔ Contains l b) c.in_ok-from_slice.ensures.items (c.once-wanted.ensures.same b))
    (λ b. subst (λ (l : List ℕ). Contains c.once-strong_ones.result.items b ↔ Contains l b) c.in_ok-from_slice-2.ensures.items (c.once-strong_ones.ensures.same b))
    (c.in_ok-found.ensures.lists ∙ c.deref.ensures.value)
    (subst (λ (l : List ℕ). All (λ (one : Reference). (one.is_weak ≡ false) ↔ Contains l one.list) c.in_ok-found.found.items) c.deref-2.ensures.value c.in_ok-found.ensures.strong)
