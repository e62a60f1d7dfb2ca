use Rattle.std.proofs.Common.{◌≡◌, ◌↔◌, ℕ, List, All, Vec, Global, length, map, refl, sym, ◌∙◌, subst}
use Rattle.std.proofs.lemmas.List.{length-map}
use Rattle.bundle_order_graph.specs.Bits.{IsEdge, IsEdgeAt, IsWithin}
use Rattle.bundle_order_graph.specs.Blocks.{BlocksOf, AreBlocks}
use Rattle.bundle_order_graph.specs.Order.{IsOrder}
use Rattle.bundle_order_graph.specs.Classes.{Leads, AreRanks, AreWithin}
use Rattle.bundle_order_graph.specs.Ranked.{AreAlike}
use Rattle.bundle_order_graph.proofs.NodeLemmas.{if_ok}
use Rattle.bundle_order_graph.proofs.CycleLemmas.{edges_within}
use Rattle.bundle_order_graph.proofs.ClassLemmas.{blocks_by_ranks, edges_inside}
use Rattle.bundle_order_graph.proofs.graph.cycles_on.Goals as goal

abbrev ends_in : List (Vec ℕ Global) → List (List ℕ)
ends_in lists = map (λ v. v.items) lists

pub ends_of-requires : goal.ends_of-requires
ends_of-requires c =
    let g = c.args.graph.now in
    let list = c.args.list.now in
    let pairs = c.in_ok-pairs.pairs.items in
    subst (λ (l : List (ℕ × ℕ)). All (IsWithin (length list)) l) (sym c.deref.ensures.value) (edges_within g list pairs c.in_ok-pairs.ensures (length list) refl)

pub ranks_of-requires : goal.ranks_of-requires
ranks_of-requires c =
    let g = c.args.graph.now in
    let list = c.args.list.now in
    let pairs = c.in_ok-pairs.pairs.items in
    let edges = c.in_ok-edges.edges.items in
    let same : (i j : ℕ) → Leads (ends_in edges) i j ↔ IsEdge pairs i j = subst (λ (l : List (ℕ × ℕ)). (i j : ℕ) → Leads (ends_in edges) i j ↔ IsEdge l i j) c.deref.ensures.value c.in_ok-edges.ensures.exact in
    let len : length (ends_in edges) ≡ length list = length-map edges (λ v. v.items) ∙ c.in_ok-edges.ensures.len in
    record { within = subst (λ (l : List (Vec ℕ Global)). AreWithin (ends_in l)) (sym c.deref-2.ensures.value) (edges_inside g list pairs c.in_ok-pairs.ensures (ends_in edges) len same) }

pub blocks_of-requires-clause-within : goal.blocks_of-requires-clause-within
blocks_of-requires-clause-within c =
    let g = c.args.graph.now in
    let list = c.args.list.now in
    let pairs = c.in_ok-pairs.pairs.items in
    let edges = c.in_ok-edges.edges.items in
    let same : (i j : ℕ) → Leads (ends_in edges) i j ↔ IsEdge pairs i j = subst (λ (l : List (ℕ × ℕ)). (i j : ℕ) → Leads (ends_in edges) i j ↔ IsEdge l i j) c.deref.ensures.value c.in_ok-edges.ensures.exact in
    let len : length (ends_in edges) ≡ length list = length-map edges (λ v. v.items) ∙ c.in_ok-edges.ensures.len in
    subst (λ (l : List (Vec ℕ Global)). AreWithin (ends_in l)) (sym c.deref-3.ensures.value) (edges_inside g list pairs c.in_ok-pairs.ensures (ends_in edges) len same)

pub returns : goal.returns
returns c =
    let g = c.args.graph.now in
    let list = c.args.list.now in
    let pairs = c.in_ok-pairs.pairs.items in
    let edges = c.in_ok-edges.edges.items in
    let ranks = c.in_ok-ranks.ranks.items in
    let exact : (i j : ℕ) → IsEdge pairs i j ↔ IsEdgeAt g list i j = c.in_ok-pairs.ensures in
    let same : (i j : ℕ) → Leads (ends_in edges) i j ↔ IsEdge pairs i j = subst (λ (l : List (ℕ × ℕ)). (i j : ℕ) → Leads (ends_in edges) i j ↔ IsEdge l i j) c.deref.ensures.value c.in_ok-edges.ensures.exact in
    let len : length (ends_in edges) ≡ length list = length-map edges (λ v. v.items) ∙ c.in_ok-edges.ensures.len in
    let ranked : AreRanks (ends_in edges) ranks = subst (λ (l : List (Vec ℕ Global)). AreRanks (ends_in l) ranks) c.deref-2.ensures.value c.in_ok-ranks.ensures in
    let e = c.deref-3.result.now in
    let r = c.deref-4.result.now in
    if_ok c.blocks_of.result (λ b. BlocksOf (AreAlike (ends_in e) r list) list list (map (λ b. b.items) b.items)) (λ b. (entry : ℕ) → IsOrder g entry list → AreBlocks g entry (map (λ b. b.items) b.items))
    (λ b h entry order. blocks_by_ranks g entry list order pairs exact (ends_in edges) len same ranks ranked (map (λ b. b.items) b.items)
    (subst (λ (q : List ℕ). BlocksOf (AreAlike (ends_in edges) q list) list list (map (λ b. b.items) b.items)) c.deref-4.ensures.value
    (subst (λ (d : List (Vec ℕ Global)). BlocksOf (AreAlike (ends_in d) r list) list list (map (λ b. b.items) b.items)) c.deref-3.ensures.value h))) c.blocks_of.ensures
