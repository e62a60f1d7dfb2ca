use Rattle.std.proofs.Common.{take}
use Rattle.bundle_order.specs.Found.{AddsEnds}
use Rattle.bundle_order.proofs.depends.add_ends.Given as goal

abbrev pub invariant-loop-item : goal.invariant-loop-item
invariant-loop-item l = AddsEnds (take l.item-index l.items) l.number l.fn.ends.items l.ends.items
