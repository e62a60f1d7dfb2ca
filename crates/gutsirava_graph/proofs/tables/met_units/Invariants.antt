use Rattle.std.specs.Prelude.{option_map}
use Rattle.gutsirava_graph.specs.Met.{IsSetOf}
use Rattle.gutsirava_graph.specs.Stars.{IsMetUpTo}
use Rattle.gutsirava_graph.proofs.tables.met_units.Given as goal

abbrev pub invariant-loop-at : goal.invariant-loop-at
invariant-loop-at l =
    IsMetUpTo (option_map (λ name. name.now) l.sought) l.units l.unit l.met.list.items l.at
    × IsSetOf l.met.list.items l.met.all
