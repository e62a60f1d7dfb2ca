-- The items are picked in the order that was found, which is good.
use Rattle.bundle_merge_items.proofs.Behind.{sorted-placed}
use Rattle.bundle_merge_items.proofs.merge.sort.Goals as goal

pub returns : goal.returns
returns c =
    sorted-placed c.args.items.now.body.items c.deref.result.now c.arrange.new.values.items
    c.args.owners.now c.in_ok-order.order.items c.deref-2.result.now c.deref.ensures.value
    c.deref-2.ensures.value c.in_ok-order.ensures c.in_ok-arrange.ensures.arranged
