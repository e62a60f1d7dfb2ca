-- What stands in front, the blocks, and what stands behind.
use Rattle.bundle_merge_items.proofs.Behind.{all-made}
use Rattle.bundle_merge_items.proofs.merge.merged_module.Goals as goal

pub returns : goal.returns
returns c = λ once.
    all-made c.args.bundle.now c.args.names.now c.no_items-items.result c.add_front.new.items
    c.add_blocks.new.items c.add_back.new.items c.no_items-items.ensures c.in_ok-add_front.ensures
    (c.in_ok-add_blocks.ensures once) c.in_ok-add_back.ensures
