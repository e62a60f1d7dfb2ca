use Rattle.std.proofs.Common.{◌≡◌, length}
use Rattle.bundle_order_graph.proofs.ClassLemmas.{LastsTo}
use Rattle.bundle_order_graph.proofs.graph.lasts_of.Given as goal

abbrev pub invariant-loop-at : goal.invariant-loop-at
invariant-loop-at l = record { len : length l.lasts.items ≡ length l.ranks; each : LastsTo l.ranks l.lasts.items l.at }
