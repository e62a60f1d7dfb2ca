-- One more item.
use Rattle.std.proofs.Common.{List, length, refl, subst}
use Rattle.std.proofs.lemmas.Option.{slice_get_read}
use Rattle.bundle_order_sort.specs.declared.Dependency.{Dependency}
use Rattle.bundle_order.specs.Items.{GrowsGraph}
use Rattle.bundle_order.proofs.NumberingLemmas.{IsGraphTo-none, IsGraphTo-more, IsGraphOf-all}
use Rattle.bundle_order.proofs.dependency_graph.graph_of.Goals as goal

pub loop-number-init : goal.loop-number-init
loop-number-init c = IsGraphTo-none _ _ c.in_ok-graph.ensures

pub loop-number-preserved : goal.loop-number-preserved
loop-number-preserved c =
    let items = c.args.items.now in
    let n = c.loop-number.number in
    let item = c.index-items-number.result in
    let old = c.loop-number.graph in
    let new = c.add_edges.new.graph in
    let at = slice_get_read items (length items) n item refl c.loop-number-test.true c.index-items-number.is in
    let grows : GrowsGraph old new n (length items) item.dependencies.items = subst (λ (l : List Dependency). GrowsGraph old new n (length items) l) c.deref.ensures.value c.in_ok-add_edges.ensures in
    IsGraphTo-more old new items n item at grows c.loop-number.invariant

pub returns : goal.returns
returns c = IsGraphOf-all _ _ _ c.loop-number-test.false c.loop-number.invariant
