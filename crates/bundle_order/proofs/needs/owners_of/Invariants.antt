use Rattle.std.proofs.Common.{◌≡◌, map, take}
use Rattle.bundle_order.specs.Owners.{range_module}
use Rattle.bundle_order.proofs.needs.owners_of.Given as goal

abbrev pub invariant-loop-item : goal.invariant-loop-item
invariant-loop-item l = l.owners.items ≡ map range_module (take l.item-index l.items)
