use Rattle.std.proofs.Common.{◌≡◌, ℕ, ◌/◌, ◌<◌, ◌≤◌, length}
use Rattle.bundle_order_graph.specs.Bits.{row_at, SameRows, Gains}
use Rattle.bundle_order_graph.proofs.rows.Rows.widen.Given as goal

abbrev pub invariant-loop-at : goal.invariant-loop-at
invariant-loop-at l = record {
  len : length l.self ≡ length l.initial.self;
  same : SameRows l.initial.self l.self;
  word : l.to / 64 < l.width;
  words : length (row_at l.self l.to) ≤ l.width;
  done : (i : ℕ) → i < l.at → Gains l.initial.self l.from l.to i → l.width ≤ length (row_at l.self i);
}
