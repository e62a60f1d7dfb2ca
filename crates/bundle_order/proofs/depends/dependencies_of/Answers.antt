use Rattle.std.proofs.Common.{◌≡◌, ℕ, ◌↔◌, false, List, All, Contains, map, ◌∙◌, subst}
use Rattle.bundle_order_sort.specs.declared.Dependency.{Dependency}
use Rattle.bundle_order.proofs.DependLemmas.{IsFound-made}
use Rattle.bundle_order.proofs.depends.dependencies_of.Goals as goal

pub returns : goal.returns
returns c =
    let strong_ends = c.in_ok-strong_ends.strong_ends.items in
    IsFound-made (map (λ v. v.items) c.args.providers.now) c.args.all.now c.args.strong.now c.in_ok-ends.ends.items strong_ends c.args.number c.in_ok-found.found.items
    c.in_ok-ends.ensures.ascending
    c.in_ok-ends.ensures.each
    c.in_ok-strong_ends.ensures.each
    (c.in_ok-found.ensures.items ∙ c.deref.ensures.value)
    (subst (λ (l : List ℕ). All (λ (one : Dependency). (one.is_weak ≡ false) ↔ Contains l one.item) c.in_ok-found.found.items) c.deref-2.ensures.value c.in_ok-found.ensures.strong)
