use Rattle.std.proofs.Common.{◌≤◌, ◌-◌, length}
use Rattle.bundle_order_graph.specs.Bits.{SameRows}
use Rattle.bundle_order_graph.proofs.rows.Rows.extend_to.Given as goal

abbrev pub invariant-loop-self : goal.invariant-loop-self
invariant-loop-self l = record { same : SameRows l.initial.self l.self; longer : length l.initial.self ≤ length l.self }

abbrev pub decreases-loop-self : goal.decreases-loop-self
decreases-loop-self l = l.count - length l.self
