use Rattle.std.proofs.Common.{subst}
use Rattle.std.proofs.lemmas.List.{take_all}
use Rattle.bundle_link_index.specs.Graph.{graph_of}
use Rattle.bundle_link_index.specs.Leads.{lead_of}
use Rattle.bundle_link_index.specs.Outside.{IsOutsideOf}
use Rattle.bundle_link_index.proofs.OutsideLemmas.{outside_begins, outside_module}
use Rattle.bundle_link_index.proofs.stars.outside_links.Goals as goal

pub loop-number-init : goal.loop-number-init
loop-number-init c = outside_begins (graph_of c.new-links.result) c.new-links.ensures

pub loop-number-preserved : goal.loop-number-preserved
loop-number-preserved c =
    outside_module (lead_of c.args.kinds.now) c.args.kinds.now.modules.now c.loop-number.number c.module-item.result (graph_of c.loop-number.links) (graph_of c.add_outside.new.links) c.module-item.is c.loop-number-test.true
    c.loop-number.invariant c.in_ok-add_outside.ensures

pub returns : goal.returns
returns c = subst (λ l. IsOutsideOf (lead_of c.args.kinds.now) l c.loop-number.links) (take_all c.loop-number.number c.args.kinds.now.modules.now c.loop-number-test.false) c.loop-number.invariant
