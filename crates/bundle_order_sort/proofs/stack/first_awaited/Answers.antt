use Rattle.std.proofs.lemmas.List.Elements.{Contains-get_or}
use Rattle.bundle_order_sort.proofs.stack.first_awaited.Goals as goal

pub awaits-requires-clause-need_in : goal.awaits-requires-clause-need_in
awaits-requires-clause-need_in c = c.requires.within _ (Contains-get_or c.args.needs.now c.loop-at.at 0 c.loop-at-test.true)
