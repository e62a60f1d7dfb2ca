use Rattle.std.proofs.Common.{◌≡◌}
use Rattle.gutsirava_graph.proofs.reading.tell_outline.Given as goal

abbrev pub invariant-loop-piece : goal.invariant-loop-piece
invariant-loop-piece l = l.teller.messages.errors ≡ l.initial.teller.messages.errors
