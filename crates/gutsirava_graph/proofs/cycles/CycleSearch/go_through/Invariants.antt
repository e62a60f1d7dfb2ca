use Rattle.std.specs.List.{All}
use Rattle.gutsirava_graph.specs.Circle.{IsCircleOf, IsWalk}
use Rattle.gutsirava_graph.proofs.cycles.CycleSearch.go_through.Given as goal

abbrev pub invariant-loop : goal.invariant-loop
invariant-loop l = IsWalk l.units l.self.path.items × All (IsCircleOf l.units) l.self.circles.items
