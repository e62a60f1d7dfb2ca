-- The places of the numbers that were passed.
use Rattle.std.proofs.Common.{◌≡◌, get_or, map, take}
use Rattle.bundle_order.specs.Numbering.{at_of}
use Rattle.bundle_order.proofs.number.places_by.Given as goal

abbrev pub invariant-loop-number : goal.invariant-loop-number
invariant-loop-number l = l.order.items ≡ map (λ n. get_or (map at_of l.places) n 0) (take l.number-index l.numbers)
