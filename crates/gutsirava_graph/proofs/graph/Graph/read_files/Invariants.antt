use Rattle.std.proofs.Common.{◌≤◌}
use Rattle.gutsirava_graph.proofs.graph.Graph.read_files.Given as goal

abbrev pub invariant-loop-at : goal.invariant-loop-at
invariant-loop-at g l = l.initial.self.teller.messages.errors ≤ l.self.teller.messages.errors
