use Rattle.gutsirava_graph.specs.Met.{IsSetOf}
use Rattle.gutsirava_graph.proofs.tables.asked_modules.Given as goal

abbrev pub invariant-loop-link : goal.invariant-loop-link
invariant-loop-link l = IsSetOf l.met.list.items l.met.all

abbrev pub invariant-loop-at : goal.invariant-loop-at
invariant-loop-at l = IsSetOf l.met.list.items l.met.all
