use Rattle.bundle_link_index.proofs.LinkedLemmas.{reach_is}
use Rattle.bundle_link_index.proofs.index.Index.reach.Goals as goal

pub returns : goal.returns
returns c = λ p is. reach_is p c.args.self.now is c.args.number c.in_ok-reach.reach.keys c.in_ok-reach.ensures
