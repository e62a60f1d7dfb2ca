use Rattle.std.proofs.Common.{◌<◌, length, get_or, rules, arith}
use Rattle.std.proofs.lemmas.List.Elements.{Contains-get_or}
use Rattle.bundle_order_sort.proofs.stack.note_end.Goals as goal

pub offset_bounds-ends-item : goal.offset_bounds-ends-item
offset_bounds-ends-item c =
    let item = get_or c.args.chain.now c.loop-item.item-index 0 in
    let inside : item < length c.loop-item.ends = omega (arith, c.requires item (Contains-get_or c.args.chain.now c.loop-item.item-index 0 c.loop-item-test.true)) in
    search rules

pub bounds-ends-item : goal.bounds-ends-item
bounds-ends-item c = omega (arith, c.requires _ (Contains-get_or c.args.chain.now c.loop-item.item-index 0 c.loop-item-test.true))
