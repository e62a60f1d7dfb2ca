use Rattle.std.proofs.Common.{◌≤◌}
use Rattle.gutsirava_graph.proofs.teller.Teller.tell_all_lost.Given as goal

abbrev pub invariant-loop-missing : goal.invariant-loop-missing
invariant-loop-missing l = l.initial.self.messages.errors ≤ l.self.messages.errors
