-- What is told of the statements so far.
use Rattle.std.proofs.Common.{◌≤◌}
use Rattle.gutsirava_traces.specs.Told.{TellsParts}
use Rattle.gutsirava_traces.proofs.maker.MapMaker.add_statements.Given as goal

abbrev pub invariant-loop-statement : goal.invariant-loop-statement
invariant-loop-statement l = record {
  behind : l.begin ≤ l.next;
  told : TellsParts l.list l.begin l.initial.source l.initial.self l.next l.source l.self;
}
