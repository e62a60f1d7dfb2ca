-- The items of the blocks that were passed are added.
use Rattle.std.proofs.Common.{take}
use Rattle.bundle_merge_items.specs.Blocks.{AddsBlocks, InBundle}
use Rattle.bundle_merge_items.specs.Merged.{AreBlocksOnce}
use Rattle.bundle_merge_items.proofs.merge.add_blocks.Given as goal

abbrev pub invariant-loop-block : goal.invariant-loop-block
invariant-loop-block l =
    AreBlocksOnce l.bundle →
    InBundle l.bundle l.names (λ q list answers context d.
    AddsBlocks q list answers context d (take l.block-index l.bundle.blocks.now) l.initial.items l.items)
