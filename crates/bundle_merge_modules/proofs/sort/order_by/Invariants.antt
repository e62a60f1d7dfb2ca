-- The places of the blocks that were passed, each in its order.
use Rattle.std.proofs.Common.{◌≡◌, ℕ, List, take}
use Rattle.std.specs.List.{AllZip, flat_map}
use Rattle.bundle_merge_modules.specs.Placed.{IsAnyBlockPut, trees_lent}
use Rattle.bundle_merge_modules.proofs.sort.order_by.Given as goal

abbrev pub invariant-loop-block : goal.invariant-loop-block
invariant-loop-block l = (orders : List (List ℕ)) × AllZip (IsAnyBlockPut (trees_lent l.items)) (take l.block-index l.plan.blocks.items) orders × (l.order.items ≡ flat_map (λ list. list) orders)
