-- Each item passed was added, with the module that is told.
use Rattle.std.proofs.Common.{◌≡◌, length, map, take}
use Rattle.bundle_syntax.specs.Item.{item_of}
use Rattle.bundle_order.specs.Grouped.{IsGroup}
use Rattle.bundle_order.proofs.group.group_of.Given as goal

abbrev pub invariant-loop-number : goal.invariant-loop-number
invariant-loop-number l = length l.owners ≡ length l.lists → IsGroup l.group (map (λ v. map item_of v.items) (take l.number l.lists)) (take l.number l.owners)
