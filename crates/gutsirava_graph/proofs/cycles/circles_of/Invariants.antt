use Rattle.std.specs.List.{All}
use Rattle.gutsirava_graph.specs.Circle.{IsCircleOf}
use Rattle.gutsirava_graph.proofs.cycles.circles_of.Given as goal

abbrev pub invariant-loop-entry : goal.invariant-loop-entry
invariant-loop-entry l = All (IsCircleOf l.units) l.search.circles.items
