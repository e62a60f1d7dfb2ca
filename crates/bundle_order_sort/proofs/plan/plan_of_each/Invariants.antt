use Rattle.std.specs.List.{AllZip}
use Rattle.bundle_order_sort.specs.Places.{numbers_from}
use Rattle.bundle_order_sort.specs.Plan.{IsOwnBlock}
use Rattle.bundle_order_sort.proofs.plan.plan_of_each.Given as goal

abbrev pub invariant-loop-place : goal.invariant-loop-place
invariant-loop-place l = AllZip IsOwnBlock (numbers_from 0 l.place) l.blocks.items
