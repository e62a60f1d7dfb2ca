use Rattle.bundle_link_index.proofs.ReachLemmas.{Adds-module}
use Rattle.bundle_link_index.proofs.by_name.put_module.Goals as goal

pub returns : goal.returns
returns c = Adds-module c.args.reach.now.keys c.args.number c.insert_full.new.self.keys c.in_ok-insert_full.ensures.keys
