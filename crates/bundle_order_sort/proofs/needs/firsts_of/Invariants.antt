use Rattle.std.proofs.Common.{◌≡◌, ℕ, ◌+◌, ◌<◌, ◌↔◌, length}
use Rattle.bundle_order_sort.specs.Items.{IsEarlierItem}
use Rattle.bundle_order_sort.specs.Numbers as numbers
use Rattle.bundle_order_sort.proofs.ItemLemmas.{IsFirst}
use Rattle.bundle_order_sort.proofs.needs.firsts_of.Given as goal

abbrev pub invariant-loop-number : goal.invariant-loop-number
invariant-loop-number l = record {
  len : length l.firsts.items ≡ l.number;
  first : (p : ℕ) → p + 1 ≡ l.number → IsFirst l.items p l.first;
  each : (s t : ℕ) → s < l.number → numbers.IsEarlierNumber l.firsts.items s t ↔ IsEarlierItem l.items s t;
}
