-- Each number stands at its own place.
use Rattle.std.proofs.Common.{◌≡◌, ℕ, ◌<◌, length, get_or}
use Rattle.bundle_order_sort.proofs.arranging.Shuffle.new.Given as goal

abbrev pub invariant-loop-number : goal.invariant-loop-number
invariant-loop-number l = record {
  same : l.places.items ≡ l.numbers.items;
  len : length l.numbers.items ≡ l.number;
  each : (k : ℕ) → k < l.number → get_or l.numbers.items k 0 ≡ k;
}
