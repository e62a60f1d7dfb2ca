use Rattle.std.proofs.Common.{◌≡◌, ℕ, ◌<◌, ◌↔◌, List, Option, Contains, length, map, ap, ◌∙◌, subst, arith}
use Rattle.std.specs.List.{filter}
use Rattle.std.proofs.lemmas.List.{length-map}
use Rattle.bundle_order_graph.specs.Classes.{Leads}
use Rattle.bundle_order.specs.declared.seen.Seen.{Seen}
use Rattle.bundle_order.specs.Found.{IsFoundAt}
use Rattle.bundle_order.specs.Providing.{item_and_binding, refers, refers_strongly}
use Rattle.bundle_order.proofs.DependLemmas.{found-exact}
use Rattle.bundle_order.proofs.RenumberLemmas.{AreFound-renumbered}
use Rattle.bundle_order.proofs.depends.dependencies_among.Goals as goal

pub returns-clause-exact : goal.returns-clause-exact
returns-clause-exact c = λ before g re seen_is owners_is same_len bound.
    let providers = map (λ v. v.items) c.in_ok-providers.providers.items in
    let all = map (λ v. v.items) c.in_ok-all.all.items in
    let strong = map (λ v. v.items) c.in_ok-strong.strong.items in
    let found = map (λ v. v.items) c.in_ok-found.found.items in
    let count : length c.args.owners.now ≡ length g.owners = ap length owners_is in
    let referred = c.deref.ensures.value ∙ (c.in_ok-references.ensures ∙ ap (λ (l : List Seen). map item_and_binding (filter refers l)) seen_is) in
    let strongly = c.deref-2.ensures.value ∙ (c.in_ok-strong_references.ensures
    ∙ (ap (λ (os : List (Option ℕ)). map item_and_binding (filter (refers_strongly os) c.args.seen.now)) owners_is
    ∙ ap (λ (l : List Seen). map item_and_binding (filter (refers_strongly g.owners) l)) seen_is)) in
    let len : length found ≡ length g.owners = length-map c.in_ok-found.found.items (λ v. v.items) ∙ (c.in_ok-found.ensures.len ∙ (ap length c.deref-4.ensures.value ∙ (c.in_ok-all.ensures.len ∙ count))) in
    AreFound-renumbered before g re found (found-exact g providers all strong same_len
    (c.in_ok-providers.ensures g seen_is owners_is bound)
    (λ s b. subst (λ (l : List (ℕ × ℕ)). Leads all s b ↔ ((s < length g.owners) × Contains l (s, b))) referred (subst (λ n. Leads all s b ↔ ((s < n) × Contains c.deref.result.now (s, b))) count (c.in_ok-all.ensures.each s b)))
    (λ s b. subst (λ (l : List (ℕ × ℕ)). Leads strong s b ↔ ((s < length g.owners) × Contains l (s, b))) strongly (subst (λ n. Leads strong s b ↔ ((s < n) × Contains c.deref-2.result.now (s, b))) count (c.in_ok-strong.ensures.each s b)))
    found len
    (λ s l.
    subst (λ p. IsFoundAt (map (λ v. v.items) p) all strong s found) c.deref-3.ensures.value
    (subst (λ a. IsFoundAt (map (λ v. v.items) c.deref-3.result.now) (map (λ v. v.items) a) strong s found) c.deref-4.ensures.value
    (subst (λ t. IsFoundAt (map (λ v. v.items) c.deref-3.result.now) (map (λ v. v.items) c.deref-4.result.now) (map (λ v. v.items) t) s found) c.deref-5.ensures.value
    (c.in_ok-found.ensures.each s (omega (arith, l, count, c.in_ok-all.ensures.len, ap length c.deref-4.ensures.value)))))))
