use Rattle.std.proofs.Common.{◌≡◌, ℕ, ◌<◌, ◌↔◌, Contains, map, length, take}
use Rattle.bundle_order_graph.specs.Classes.{Leads}
use Rattle.bundle_order.proofs.numbers.rows_of.Given as goal

abbrev pub invariant-loop : goal.invariant-loop
invariant-loop l = record {
  len : length l.rows.items ≡ l.counter;
  none : (s t : ℕ) → Leads (map (λ v. v.items) l.rows.items) s t → ⊥;
}

abbrev pub invariant-loop-first : goal.invariant-loop-first
invariant-loop-first l = record {
  len : length l.rows.items ≡ l.count;
  each : (s t : ℕ) → Leads (map (λ v. v.items) l.rows.items) s t ↔ ((s < l.count) × Contains (take l.first-index l.pairs) (s, t));
}
