-- The places of the chosen ones of the items that were passed were added.
use Rattle.std.proofs.Common.{◌≡◌, ◌++◌, map, take}
use Rattle.bundle_syntax.specs.Item.{item_of}
use Rattle.bundle_order.specs.Numbering.{chosen_places}
use Rattle.bundle_order.proofs.number.add_places.Given as goal

abbrev pub invariant-loop-at : goal.invariant-loop-at
invariant-loop-at l = l.places.items ≡ l.initial.places.items ++ chosen_places l.are_free 0 (map (λ v. map item_of v.items) (take l.at l.lists)) (take l.at l.owners)
