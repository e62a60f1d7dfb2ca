use Rattle.bundle_order_graph.proofs.BitLemmas.{JoinedTo}
use Rattle.bundle_order_graph.proofs.rows.Row.union.Given as goal

abbrev pub invariant-loop-at : goal.invariant-loop-at
invariant-loop-at l = JoinedTo l.initial.self-inside.words.items l.other-items l.at l.grown l.self-inside.words.items
