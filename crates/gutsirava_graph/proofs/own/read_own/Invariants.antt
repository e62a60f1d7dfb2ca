use Rattle.std.proofs.Common.{◌≤◌}
use Rattle.gutsirava_graph.proofs.own.read_own.Given as goal

abbrev pub invariant-loop-at : goal.invariant-loop-at
invariant-loop-at g l = l.initial.teller.messages.errors ≤ l.teller.messages.errors
