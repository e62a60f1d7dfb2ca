-- What is told of one more statement.
use Rattle.std.proofs.Common.{arith}
use Rattle.gutsirava_traces.specs.Told.TellsParts.{NoPart, Part}
use Rattle.gutsirava_traces.proofs.maker.MapMaker.add_statements.Goals as goal

pub loop-statement-init : goal.loop-statement-init
loop-statement-init c = record { behind = omega arith; told = NoPart }

pub loop-statement-preserved : goal.loop-statement-preserved
loop-statement-preserved c = record {
  behind = omega (arith, c.loop-statement.invariant.behind, c.in_ok-next.ensures.behind);
  told = Part c.loop-statement.next _ _ c.loop-statement.source _ c.loop-statement.self _ c.loop-statement.invariant.told
      c.in_ok-next.ensures.told;
}
