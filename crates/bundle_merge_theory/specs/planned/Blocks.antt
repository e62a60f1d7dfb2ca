-- The blocks that are found where each listed module is an item of its own.
use Rattle.bundle_order_sort.specs.declared.plan.Block.{Block}
use Rattle.bundle_merge_theory.specs.planned.Decided.{DecidedBlock}

-- the same, by the places
abbrev pub block_of : Block → DecidedBlock
block_of block = record { modules = block.places.items; is_sorted = block.is_cycle }
