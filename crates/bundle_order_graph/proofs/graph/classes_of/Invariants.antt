use Rattle.std.proofs.Common.{◌≡◌, ℕ, [], map, length, get_or}
use Rattle.bundle_order_graph.proofs.ClassLemmas.{ClassesTo}
use Rattle.bundle_order_graph.proofs.graph.classes_of.Given as goal

abbrev pub invariant-loop : goal.invariant-loop
invariant-loop l = record {
  len : length l.classes.items ≡ l.counter;
  none : (r : ℕ) → get_or (map (λ v. v.items) l.classes.items) r [] ≡ [];
}

abbrev pub invariant-loop-at : goal.invariant-loop-at
invariant-loop-at l = record {
  len : length l.classes.items ≡ length l.list;
  each : ClassesTo l.ranks l.list (map (λ v. v.items) l.classes.items) l.at;
}
