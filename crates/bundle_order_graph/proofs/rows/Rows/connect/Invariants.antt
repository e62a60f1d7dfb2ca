use Rattle.bundle_order_graph.proofs.RowLemmas.{Connected}
use Rattle.bundle_order_graph.proofs.rows.Rows.connect.Given as goal

abbrev pub invariant-loop-at : goal.invariant-loop-at
invariant-loop-at l = Connected l.fn.self l.initial.self l.from l.to l.at l.self
