use Rattle.std.proofs.Common.{◌≡◌, ℕ, ◌<◌, [], map}
use Rattle.bundle_order_graph.specs.Classes.{IsBegun, Walking}
use Rattle.bundle_order_graph.proofs.classes.post_order.Given as goal

abbrev pub invariant-loop-start : goal.invariant-loop-start
invariant-loop-start l = record {
  walking : Walking (map (λ v. v.items) l.edges) l.begun.items [] l.listed.items;
  over : l.visits.items ≡ [];
  begun : (t : ℕ) → t < l.start → IsBegun l.begun.items t;
}
