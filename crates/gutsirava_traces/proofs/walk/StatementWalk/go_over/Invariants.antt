-- The walk goes on.
use Rattle.gutsirava_traces.specs.Walks.{GoesOn}
use Rattle.gutsirava_traces.proofs.walk.StatementWalk.go_over.Given as goal

abbrev pub invariant-loop : goal.invariant-loop
invariant-loop l =
    GoesOn l.initial.self.from l.initial.self l.self l.initial.source l.source l.initial.maker l.maker
