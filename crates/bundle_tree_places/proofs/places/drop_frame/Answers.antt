-- Those around the innermost one are left.
use Rattle.std.proofs.Common.{arith}
use Rattle.std.proofs.lemmas.Option.{MatchOption-at_none}
use Rattle.bundle_tree_places.proofs.PlaceLemmas.{closed}
use Rattle.bundle_tree_places.proofs.places.drop_frame.Goals as goal

pub returns : goal.returns
returns c = λ path all. closed c.args.frames.now.items c.pop.new.self.items c.pop.result c.pop.ensures.items (λ e. let none = (MatchOption-at_none _ _ e c.pop.ensures.cases).1 in omega (arith, none)) path all
