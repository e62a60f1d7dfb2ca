use Rattle.bundle_link_targets.proofs.TakenLemmas.{Adds-target}
use Rattle.bundle_link_targets.proofs.meant.add_target.Goals as goal

pub returns : goal.returns
returns c = Adds-target c.args.targets.now.keys c.insert.new.self.keys c.args.target c.in_ok-insert.ensures.keys
