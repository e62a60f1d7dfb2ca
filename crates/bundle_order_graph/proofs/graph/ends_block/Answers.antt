use Rattle.std.proofs.Common.{◌≡◌, [], ℕ, List, Contains, map, get_or, sym, ap, ◌∙◌, subst, inl, arith}
use Rattle.std.proofs.lemmas.List.{get_or-map, length-map}
use Rattle.bundle_order_graph.specs.Ranked.{EndsBlock, EndsNone}
use Rattle.bundle_order_graph.proofs.ClassLemmas.{ends_here, match_weaker}
use Rattle.bundle_order_graph.proofs.graph.ends_block.Goals as goal

pub has_rank-requires : goal.has_rank-requires
has_rank-requires c = λ t h.
    let edges = c.args.edges.now in
    let at = c.args.at in
    let row : get_or (map (λ v. v.items) edges) at [] ≡ c.deref.result.now = get_or-map (λ v. v.items) edges at c.index-edges-at.result [] (omega (arith, c.requires.at_in, c.requires.edges_len)) ∙ (ap (λ v. v.items) (sym c.index-edges-at.is) ∙ sym c.deref.ensures.value) in
    omega (arith, c.requires.within at t (subst (λ (l : List ℕ). Contains l t) (sym row) h), length-map edges (λ v. v.items), c.requires.edges_len)

pub returns-then-lasts-ranks : goal.returns-then-lasts-ranks
returns-then-lasts-ranks c =
    let edges = c.args.edges.now in
    let E : List (List ℕ) = map (λ v. v.items) edges in
    let ranks = c.args.ranks.now in
    let at = c.args.at in
    let row : get_or (map (λ v. v.items) edges) at [] ≡ c.deref.result.now = get_or-map (λ v. v.items) edges at c.index-edges-at.result [] (omega (arith, c.requires.at_in, c.requires.edges_len)) ∙ (ap (λ v. v.items) (sym c.index-edges-at.is) ∙ sym c.deref.ensures.value) in
    match_weaker c.has_rank.result ((t : ℕ) × Contains c.deref.result.now t × (get_or ranks t 0 ≡ get_or ranks at 0)) (((t : ℕ) × Contains c.deref.result.now t × (get_or ranks t 0 ≡ get_or ranks at 0)) → ⊥) (EndsBlock E ranks at) (EndsNone E ranks at)
    (λ w. ends_here E ranks c.args.lasts.now c.requires.lasts at c.requires.at_in c.if-lasts-ranks.true (w.0, subst (λ (l : List ℕ). Contains l w.0) (sym row) w.1, w.2))
    (λ none. inl (λ w. none (w.0, subst (λ (l : List ℕ). Contains l w.0) row w.1, w.2)))
    c.has_rank.ensures
