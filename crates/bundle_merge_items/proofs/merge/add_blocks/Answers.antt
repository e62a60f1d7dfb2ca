-- One block more.
use Rattle.std.proofs.Common.{subst, sym}
use Rattle.std.specs.Prelude.{Contains}
use Rattle.std.proofs.lemmas.List.Elements.{Contains-get_or}
use Rattle.bundle_merge_items.proofs.Behind.{blocks-none, blocks-next, blocks-all}
use Rattle.bundle_merge_items.proofs.merge.add_blocks.Goals as goal

pub loop-block-init : goal.loop-block-init
loop-block-init c = λ once. blocks-none c.args.bundle.now c.args.names.now c.args.items.now

pub loop-block-preserved : goal.loop-block-preserved
loop-block-preserved c = λ once.
    let bundle = c.args.bundle.now in
    let blocks = bundle.blocks.now in
    let i = c.loop-block.block-index in
    let block = c.block-item.result in
    blocks-next bundle c.args.names.now blocks i block c.args.items.now c.loop-block.items
    c.add_block.new.items c.loop-block-test.true c.block-item.is
    (c.loop-block.invariant once)
    (c.in_ok-add_block.ensures once
    (subst (Contains blocks) (sym c.block-item.is)
    (Contains-get_or blocks i block c.loop-block-test.true)))

pub returns : goal.returns
returns c = λ once.
    blocks-all c.args.bundle.now c.args.names.now c.args.bundle.now.blocks.now
    c.loop-block.block-index c.args.items.now c.loop-block.items c.loop-block-test.false
    (c.loop-block.invariant once)
