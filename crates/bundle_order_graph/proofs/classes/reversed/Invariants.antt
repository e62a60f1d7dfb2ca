use Rattle.std.proofs.Common.{◌≡◌, ℕ, map, length}
use Rattle.bundle_order_graph.specs.Classes.{Leads}
use Rattle.bundle_order_graph.proofs.LeadLemmas.{AreNoted}
use Rattle.bundle_order_graph.proofs.classes.reversed.Given as goal

abbrev pub invariant-loop : goal.invariant-loop
invariant-loop l = record {
  len : length l.users.items ≡ l.counter;
  none : (s t : ℕ) → Leads (map (λ v. v.items) l.users.items) s t → ⊥;
}

abbrev pub invariant-loop-user : goal.invariant-loop-user
invariant-loop-user l = record {
  len : length l.users.items ≡ length l.edges;
  noted : AreNoted (map (λ v. v.items) l.edges) (map (λ v. v.items) l.users.items) l.user;
}
