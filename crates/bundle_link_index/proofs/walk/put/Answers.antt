use Rattle.bundle_link_index.proofs.SearchLemmas.{Adds-put}
use Rattle.bundle_link_index.proofs.walk.put.Goals as goal

pub returns : goal.returns
returns c = Adds-put c.args.met.now.keys c.args.at c.insert_full.new.self.keys c.in_ok-is_new.ensures.keys
