-- The items so far belong where those passed do, and depend on what was found.
use Rattle.std.proofs.Common.{◌≡◌, map, take}
use Rattle.bundle_order.specs.Cut.{dependencies_of}
use Rattle.bundle_order.specs.Owners.{range_owner, sorted_owner_of}
use Rattle.bundle_order.proofs.needs.sort_items.Given as goal

abbrev pub invariant-loop-number : goal.invariant-loop-number
invariant-loop-number l = record {
  owners : map sorted_owner_of l.sorted.items ≡ map range_owner (take l.number l.items);
  found : map dependencies_of l.sorted.items ≡ map (λ v. v.items) (take l.number l.found);
}
