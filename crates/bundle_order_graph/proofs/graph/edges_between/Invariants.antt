use Rattle.std.proofs.Common.{◌≡◌, take}
use Rattle.bundle_order_graph.proofs.CycleLemmas.{EdgesTo}
use Rattle.bundle_order_graph.proofs.graph.edges_between.Given as goal

abbrev pub invariant-loop-module : goal.invariant-loop-module
invariant-loop-module l = l.places.keys ≡ take l.module-index l.list

abbrev pub invariant-loop-from : goal.invariant-loop-from
invariant-loop-from l = EdgesTo l.graph l.list l.from 0 l.edges.items

abbrev pub invariant-loop-dependency : goal.invariant-loop-dependency
invariant-loop-dependency l = EdgesTo l.graph l.list l.from l.dependency-index l.edges.items
