use Rattle.std.proofs.Common.{reverse}
use Rattle.bundle_order_graph.specs.Modules.{deps}
use Rattle.bundle_order_graph.proofs.OrderLemmas.{Walking}
use Rattle.bundle_order_graph.proofs.WorkLemmas.{work}
use Rattle.bundle_order_graph.proofs.graph.list_reached.Given as goal

abbrev pub invariant-loop-visit : goal.invariant-loop-visit
invariant-loop-visit l = Walking (deps l.graph) l.fn.entry (reverse l.begun.items) l.listed.items l.seen.keys

abbrev pub decreases-loop-visit : goal.decreases-loop-visit
decreases-loop-visit l = work l.graph l.seen.keys l.begun.items
