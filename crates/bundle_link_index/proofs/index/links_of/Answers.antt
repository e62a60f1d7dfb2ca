use Rattle.std.proofs.Common.{ap, subst, map, take}
use Rattle.std.proofs.lemmas.List.{take_all}
use Rattle.bundle_link_index.specs.Graph.{graph_of}
use Rattle.bundle_link_index.specs.Leads.{lead_of}
use Rattle.bundle_link_index.specs.Says.{value_of}
use Rattle.bundle_link_index.specs.Numbered.{HoldsAt, index_names, values_of, all_notes, all_starred}
use Rattle.bundle_link_index.proofs.NumberedLemmas.{Holds-begins, Holds-module}
use Rattle.bundle_link_index.proofs.index.links_of.Goals as goal

pub loop-number-init : goal.loop-number-init
loop-number-init c = λ empty.
    Holds-begins (index_names c.args.numbers.now) (index_names c.of_name.new.self) (values_of c.args.numbers.now) (values_of c.of_name.new.self) _ (graph_of c.new-links.result)
    (ap (map (λ name. name.now)) empty.names) (ap (map value_of) empty.values) c.in_ok-of_name.ensures.names c.in_ok-of_name.ensures.values c.new-links.ensures

pub loop-number-preserved : goal.loop-number-preserved
loop-number-preserved c = λ empty.
    Holds-module (lead_of c.args.kinds.now) c.args.kinds.now.modules.now c.loop-number.number c.module-item.result (index_names c.add_module.new.numbers) (values_of c.add_module.new.numbers) (graph_of c.add_module.new.links) c.module-item.is c.loop-number-test.true
    (c.in_ok-add_module.ensures (all_notes (lead_of c.args.kinds.now) 0 (take c.loop-number.number c.args.kinds.now.modules.now)) (all_starred (lead_of c.args.kinds.now) 0 (take c.loop-number.number c.args.kinds.now.modules.now)) (c.loop-number.invariant empty))

pub returns : goal.returns
returns c = λ empty.
    subst (λ l. HoldsAt (all_notes (lead_of c.args.kinds.now) 0 l) (all_starred (lead_of c.args.kinds.now) 0 l) c.loop-number.numbers c.loop-number.links)
    (take_all c.loop-number.number c.args.kinds.now.modules.now c.loop-number-test.false) (c.loop-number.invariant empty)
