use Rattle.std.proofs.Common.{◌-◌, [], map, length}
use Rattle.bundle_order_graph.specs.Classes.{Ranking}
use Rattle.bundle_order_graph.proofs.classes.ranks_of.Given as goal

abbrev pub invariant-loop-done : goal.invariant-loop-done
invariant-loop-done l = Ranking (map (λ v. v.items) l.edges) l.listed.items (length l.listed.items - l.done) l.ranks.items []
