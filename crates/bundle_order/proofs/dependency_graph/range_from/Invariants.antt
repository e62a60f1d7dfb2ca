-- The ranges that were passed end before the number.
use Rattle.std.proofs.Common.{◌≤◌, ◌-◌, length, map}
use Rattle.bundle_order.specs.Grouped.{ArePast, ends_of}
use Rattle.bundle_order.proofs.dependency_graph.range_from.Given as goal

abbrev pub invariant-loop-at : goal.invariant-loop-at
invariant-loop-at l = record {
  within : l.at ≤ length l.modules;
  past : ArePast (map ends_of l.modules) l.fn.first l.number → ArePast (map ends_of l.modules) l.at l.number;
}

abbrev pub decreases-loop-at : goal.decreases-loop-at
decreases-loop-at l = length l.modules - l.at
