-- What is skipped is told of from its first piece on.
use Rattle.gutsirava_traces.specs.Told.{Tells}
use Rattle.gutsirava_traces.proofs.walk.StatementWalk.skip.Given as goal

abbrev pub invariant-loop-at : goal.invariant-loop-at
invariant-loop-at l = Tells l.self.list (record { first = l.self.to; last = l.at; own = l.self.from; own_last = l.own })
    l.initial.source l.source l.initial.maker l.maker
