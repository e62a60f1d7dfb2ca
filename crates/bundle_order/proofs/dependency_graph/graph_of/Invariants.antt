-- What the items that were passed depend on was added.
use Rattle.bundle_order.proofs.NumberingLemmas.{IsGraphTo}
use Rattle.bundle_order.proofs.dependency_graph.graph_of.Given as goal

abbrev pub invariant-loop-number : goal.invariant-loop-number
invariant-loop-number l = IsGraphTo l.graph l.items l.number
