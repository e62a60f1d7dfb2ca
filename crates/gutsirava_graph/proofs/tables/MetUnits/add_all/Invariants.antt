use Rattle.std.proofs.Common.{◌≡◌, drop}
use Rattle.gutsirava_graph.specs.Met.{IsSetOf}
use Rattle.gutsirava_graph.specs.Stars.{with_units}
use Rattle.gutsirava_graph.proofs.tables.MetUnits.add_all.Given as goal

abbrev pub invariant-loop-unit : goal.invariant-loop-unit
invariant-loop-unit l =
    (with_units l.initial.self.list.items l.units ≡ with_units l.self.list.items (drop l.unit-index l.units))
    × IsSetOf l.self.list.items l.self.all
