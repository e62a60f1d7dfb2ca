use Rattle.std.proofs.Common.{◌≡◌}
use Rattle.gutsirava_graph.proofs.teller.Teller.tell_circles.Given as goal

abbrev pub invariant-loop-circle : goal.invariant-loop-circle
invariant-loop-circle l = l.self.messages.errors ≡ l.initial.self.messages.errors
