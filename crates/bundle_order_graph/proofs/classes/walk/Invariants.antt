use Rattle.std.proofs.Common.{ℕ, map}
use Rattle.bundle_order_graph.specs.Classes.{IsBegun, Walking}
use Rattle.bundle_order_graph.proofs.WalkingLemmas.{walk_left}
use Rattle.bundle_order_graph.proofs.classes.walk.Given as goal

abbrev pub invariant-loop-visit : goal.invariant-loop-visit
invariant-loop-visit l = record {
  walking : Walking (map (λ v. v.items) l.edges) l.begun l.visits.items l.listed.items;
  kept : (t : ℕ) → IsBegun l.fn.begun t → IsBegun l.begun t;
}

abbrev pub decreases-loop-visit : goal.decreases-loop-visit
decreases-loop-visit l = walk_left (map (λ v. v.items) l.edges) l.begun l.visits.items
