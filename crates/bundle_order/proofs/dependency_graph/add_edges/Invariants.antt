-- What was passed was added.
use Rattle.std.proofs.Common.{take}
use Rattle.bundle_order.specs.Items.{GrowsGraph}
use Rattle.bundle_order.proofs.dependency_graph.add_edges.Given as goal

abbrev pub invariant-loop-dependency : goal.invariant-loop-dependency
invariant-loop-dependency l = GrowsGraph l.initial.graph l.graph l.number l.count (take l.dependency-index l.dependencies)
