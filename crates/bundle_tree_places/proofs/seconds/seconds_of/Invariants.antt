-- The places from this one on are told, and the stack is that of what is behind.
use Rattle.std.proofs.Common.{◌≡◌, ℕ, ◌<◌, ◌≤◌, None, length, get_or, map, drop}
use Rattle.bundle_syntax.specs.Item.{item_of}
use Rattle.bundle_tree_places.specs.Seconds.{AreTops, second_from, second_of}
use Rattle.bundle_tree_places.proofs.seconds.seconds_of.Given as goal

abbrev pub invariant-loop-place : goal.invariant-loop-place
invariant-loop-place l = record {
  within : l.place ≤ length l.pieces;
  len : length l.seconds.items ≡ length l.pieces;
  tops : AreTops l.stack.items (λ depth. second_from depth l.place (drop l.place (map item_of l.pieces)));
  each : (p : ℕ) → l.place ≤ p → p < length l.pieces → get_or l.seconds.items p None ≡ second_of (map item_of l.pieces) p;
}

abbrev pub decreases-loop-place : goal.decreases-loop-place
decreases-loop-place l = l.place
