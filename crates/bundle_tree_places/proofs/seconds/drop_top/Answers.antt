-- The top is off.
use Rattle.std.proofs.Common.{arith}
use Rattle.std.proofs.lemmas.Option.{MatchOption-at_none}
use Rattle.bundle_tree_places.proofs.SecondLemmas.{popped}
use Rattle.bundle_tree_places.proofs.seconds.drop_top.Goals as goal

pub returns : goal.returns
returns c = popped c.args.stack.now.items c.pop.new.self.items c.pop.result c.pop.ensures.items (λ e. let none = (MatchOption-at_none _ _ e c.pop.ensures.cases).1 in omega (arith, none))
