use Rattle.indexmap.specs.IndexMap.{keys}
use Rattle.bundle_link_index.specs.Graph.{graph_of}
use Rattle.bundle_link_index.specs.Reached.{names_held}
use Rattle.bundle_link_index.proofs.ReachLemmas.{AreHeld-next, AreHeld-ends}
use Rattle.bundle_link_index.proofs.by_name.holders_in.Goals as goal

pub loop-at-preserved : goal.loop-at-preserved
loop-at-preserved c = AreHeld-next c.spots-at-items.result.now (keys c.args.links.now.own) c.loop-at.at-index (0, 0) (names_held c.loop-at.holders) (names_held c.add_holder.new.holders) c.spots-at-items.ensures c.loop-at-test.true c.loop-at.invariant c.in_ok-add_holder.ensures

pub returns : goal.returns
returns c = AreHeld-ends (graph_of c.args.links.now) (names_held c.loop-at.holders) c.spots-at-items.result.now c.loop-at.at-index c.loop-at-test.false c.spots-at-items.ensures c.loop-at.invariant
