-- What stars lead to is put to nothing.
use Rattle.std.proofs.Common.{subst}
use Rattle.bundle_link_index.specs.Reached.{ExtendsReach}
use Rattle.bundle_link_index.proofs.ReachLemmas.{Reach-of, none-within}
use Rattle.bundle_link_index.proofs.by_name.LinksByName.reach.Goals as goal

pub extend_reach-requires : goal.extend_reach-requires
extend_reach-requires c = none-within c.args.self.now c.args.start c.new-reach.result.keys c.new-reach.ensures.empty

pub returns : goal.returns
returns c = Reach-of c.args.self.now c.args.start c.extend_reach.new.reach.keys (subst (λ l. ExtendsReach c.args.self.now c.args.start l c.extend_reach.new.reach.keys) c.new-reach.ensures.empty c.in_ok-extend_reach.ensures)
