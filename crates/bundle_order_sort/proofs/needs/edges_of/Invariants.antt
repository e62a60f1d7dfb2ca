use Rattle.std.proofs.Common.{◌≡◌, ℕ, ◌+◌, ◌<◌, ◌↔◌, map, length}
use Rattle.bundle_order_graph.specs.Classes.{Leads}
use Rattle.bundle_order_sort.specs.Items.{IsListEdge}
use Rattle.bundle_order_sort.proofs.needs.edges_of.Given as goal

abbrev pub invariant-loop-item : goal.invariant-loop-item
invariant-loop-item l = record {
  len : length l.edges.items ≡ l.item-index;
  each : (s t : ℕ) → s < l.item-index → Leads (map (λ v. v.items) l.edges.items) s t ↔ IsListEdge l.items (map (λ v. v.items) l.lists) s t;
}

abbrev pub invariant-loop-list : goal.invariant-loop-list
invariant-loop-list l = record {
  len : length l.edges.items ≡ length l.items + l.list-index;
  each : (s t : ℕ) → s < length l.items + l.list-index → Leads (map (λ v. v.items) l.edges.items) s t ↔ IsListEdge l.items (map (λ v. v.items) l.lists) s t;
}
