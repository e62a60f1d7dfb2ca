use Rattle.std.proofs.Common.{◌≡◌, ◌↔◌, ℕ, map, length}
use Rattle.bundle_order_graph.specs.Classes.{Leads}
use Rattle.bundle_order_graph.proofs.ClassLemmas.{PairsTo}
use Rattle.bundle_order_graph.proofs.graph.ends_of.Given as goal

abbrev pub invariant-loop : goal.invariant-loop
invariant-loop l = record {
  len : length l.edges.items ≡ l.counter;
  none : (s t : ℕ) → Leads (map (λ v. v.items) l.edges.items) s t → ⊥;
}

abbrev pub invariant-loop-pair : goal.invariant-loop-pair
invariant-loop-pair l = record {
  len : length l.edges.items ≡ l.count;
  exact : (i j : ℕ) → Leads (map (λ v. v.items) l.edges.items) i j ↔ PairsTo l.pairs l.pair-index i j;
}
