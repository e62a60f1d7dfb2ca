-- The places and numbers of the modules that were passed.
use Rattle.std.proofs.Common.{◌≡◌, ℕ, List, map, take}
use Rattle.std.specs.List.{flat_map}
use Rattle.bundle_order_sort.specs.Places.{module_numbers_from, places_of}
use Rattle.bundle_order_sort.specs.Rows.{AreRows}
use Rattle.bundle_order_sort.proofs.plan.block_of.Given as goal

abbrev pub invariant-loop-number : goal.invariant-loop-number
invariant-loop-number l = record {
  places : (owners : List ℕ) → AreRows l.table owners → l.places.items ≡ flat_map (places_of owners) (take l.number l.members);
  numbers : (owners : List ℕ) → AreRows l.table owners → l.numbers.items ≡ module_numbers_from 0 (map (places_of owners) (take l.number l.members));
}
