-- The nodes are the numbers so far.
use Rattle.bundle_order.specs.Items.{AreIndependent}
use Rattle.bundle_order.proofs.dependency_graph.graph_with.Given as goal

abbrev pub invariant-loop-number : goal.invariant-loop-number
invariant-loop-number l = AreIndependent l.graph l.number
