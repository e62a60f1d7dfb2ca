use Rattle.std.proofs.Common.{◌≤◌}
use Rattle.gutsirava_graph.proofs.graph.Graph.bonds.Given as goal

abbrev pub invariant-loop-number : goal.invariant-loop-number
invariant-loop-number g l = l.initial.self.teller.messages.errors ≤ l.self.teller.messages.errors
