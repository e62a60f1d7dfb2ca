use Rattle.std.proofs.Common.{ℕ, ◌<◌, ◌↔◌, Option, List, Contains, length, get_or, map, ap, ◌∙◌, subst}
use Rattle.std.specs.List.{filter, find}
use Rattle.bundle_order_graph.specs.Classes.{Leads}
use Rattle.bundle_order.specs.declared.seen.Seen.{Seen}
use Rattle.bundle_order.specs.Providing.{binding_and_item, declares_binding, fills_after, is_of, known_of, provides}
use Rattle.bundle_order.proofs.ProvideLemmas.{providers-exact}
use Rattle.bundle_order.proofs.providers.providers_of.Goals as goal

pub returns : goal.returns
returns c = λ g seen_is owners_is bound.
    let seen = c.args.seen.now in
    let owners = c.args.owners.now in
    let firsts = c.in_ok-firsts.firsts.items in
    let fillers = c.in_ok-fillers.fillers.items in
    let declaring = c.deref.ensures.value ∙ (c.in_ok-declaring.ensures ∙ ap (λ (l : List Seen). filter declares_binding l) seen_is) in
    let filling = c.deref-3.ensures.value ∙ (c.in_ok-filling.ensures
    ∙ (ap (λ (fs : List (Option Seen)). filter (λ one. fills_after owners (known_of fs one) one) seen) c.deref-2.ensures.value
    ∙ (ap (λ (os : List (Option ℕ)). filter (λ one. fills_after os (known_of firsts one) one) seen) owners_is
    ∙ ap (λ (l : List Seen). filter (λ one. fills_after g.owners (known_of firsts one) one) l) seen_is))) in
    let providing = c.deref-6.ensures.value ∙ (c.in_ok-providing.ensures
    ∙ (ap (λ (fs : List (Option Seen)). map binding_and_item (filter (λ one. provides owners (known_of fs one) (known_of c.deref-5.result.now one) one) seen)) c.deref-4.ensures.value
    ∙ (ap (λ (fs : List (Option Seen)). map binding_and_item (filter (λ one. provides owners (known_of firsts one) (known_of fs one) one) seen)) c.deref-5.ensures.value
    ∙ (ap (λ (os : List (Option ℕ)). map binding_and_item (filter (λ one. provides os (known_of firsts one) (known_of fillers one) one) seen)) owners_is
    ∙ ap (λ (l : List Seen). map binding_and_item (filter (λ one. provides g.owners (known_of firsts one) (known_of fillers one) one) l)) seen_is)))) in
    providers-exact g c.args.count firsts fillers
    (subst (λ (l : List Seen). (k : ℕ) (d : Seen) → k < length l → (get_or l k d).binding < c.args.count) seen_is bound)
    (λ b l. c.in_ok-firsts.ensures.each b l ∙ ap (λ (list : List Seen). find (is_of b) list) declaring)
    (λ b l. c.in_ok-fillers.ensures.each b l ∙ ap (λ (list : List Seen). find (is_of b) list) filling)
    (map (λ v. v.items) c.in_ok-rows.rows.items)
    (λ s t. subst (λ (l : List (ℕ × ℕ)). Leads (map (λ v. v.items) c.in_ok-rows.rows.items) s t ↔ ((s < c.args.count) × Contains l (s, t))) providing (c.in_ok-rows.ensures.each s t))
