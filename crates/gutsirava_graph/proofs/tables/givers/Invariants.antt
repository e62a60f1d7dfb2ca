use Rattle.std.proofs.Common.{◌≡◌, take}
use Rattle.std.specs.List.{filter}
use Rattle.gutsirava_graph.specs.Stars.{gives}
use Rattle.gutsirava_graph.proofs.tables.givers.Given as goal

abbrev pub invariant-loop-giver : goal.invariant-loop-giver
invariant-loop-giver l = l.found.items ≡ filter (gives l.units l.name) (take l.giver-index l.giver-items)
