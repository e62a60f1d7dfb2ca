-- The entries so far were found, where no error is told.
use Rattle.std.proofs.Common.{◌≡◌}
use Rattle.gutsirava_graph.specs.Graph.{IsRootOf}
use Rattle.gutsirava_graph.proofs.SoFar.{AreSoFar}
use Rattle.gutsirava_graph.proofs.entries.roots_of.Given as goal

abbrev pub invariant-loop-entry : goal.invariant-loop-entry
invariant-loop-entry g l =
    l.graph.teller.messages.errors ≡ 0 → AreSoFar IsRootOf l.fn.entries.items l.entry-iterator.rest.items l.roots.items
