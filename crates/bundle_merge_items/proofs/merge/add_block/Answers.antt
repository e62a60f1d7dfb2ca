-- The items of the block are moved behind those that are there.
use Rattle.bundle_merge_items.proofs.Behind.{block-added}
use Rattle.bundle_merge_items.proofs.merge.add_block.Goals as goal

pub returns : goal.returns
returns c = λ once there.
    block-added c.args.bundle.now c.args.names.now c.args.block.now c.put_block.new.its
    c.args.items.now (record { body = c.append.new.self })
    (c.in_ok-put_block.ensures once there c.no_items-its.ensures) c.in_ok-append.ensures.items
