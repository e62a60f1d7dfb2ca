use Rattle.bundle_link_index.proofs.ReachLemmas.{Adds-next, Adds-every}
use Rattle.bundle_link_index.proofs.by_name.put_modules.Goals as goal

pub loop-number-preserved : goal.loop-number-preserved
loop-number-preserved c = Adds-next c.args.reach.now.keys c.loop-number.reach.keys c.put_module.new.reach.keys c.args.modules.now c.loop-number.number-index c.loop-number-test.true c.loop-number.invariant c.in_ok-put_module.ensures

pub returns : goal.returns
returns c = Adds-every c.args.reach.now.keys c.loop-number.reach.keys c.args.modules.now c.loop-number.number-index c.loop-number-test.false c.loop-number.invariant
