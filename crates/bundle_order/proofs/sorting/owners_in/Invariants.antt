-- The numbers of the modules that were passed.
use Rattle.std.proofs.Common.{◌≡◌, map, take}
use Rattle.bundle_order.specs.Numbering.{owners_of}
use Rattle.bundle_order.proofs.sorting.owners_in.Given as goal

abbrev pub invariant-loop-number : goal.invariant-loop-number
invariant-loop-number l = l.owners.items ≡ owners_of 0 (map (λ v. v.items) (take l.number l.modules))
