-- The items at the places that were passed were added.
use Rattle.std.proofs.Common.{map, take}
use Rattle.bundle_syntax.specs.Item.{item_of}
use Rattle.bundle_order.specs.Grouped.{IsGroup}
use Rattle.bundle_order.specs.Numbering.{numbered_at}
use Rattle.bundle_order.proofs.group.group_at.Given as goal

abbrev pub invariant-loop-place : goal.invariant-loop-place
invariant-loop-place l =
    IsGroup l.group (map (λ one. one.0) (map (numbered_at (map (λ v. map item_of v.items) l.lists)) (take l.place-index l.places)))
    (map (λ one. one.1) (map (numbered_at (map (λ v. map item_of v.items) l.lists)) (take l.place-index l.places)))
