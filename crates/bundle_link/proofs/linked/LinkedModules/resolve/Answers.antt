use Rattle.std.proofs.Common.{sym, ◌∙◌}
use Rattle.std.proofs.lemmas.Result.{IfOk-weaker}
use Rattle.bundle_link.proofs.NumberLemmas.{at-place}
use Rattle.bundle_link.proofs.RequestLemmas.{not_among, none_resolved, resolved_on}
use Rattle.bundle_link.proofs.linked.LinkedModules.resolve.Goals as goal

pub returns-in-Some-clause-found : goal.returns-in-Some-clause-found
returns-in-Some-clause-found c =
    let ids = c.args.self.now.ids.keys in
    let id = c.args.id in
    let at = at-place ids id c.in-Some.place (sym c.get_index_of.ensures.index ∙ c.in-Some.is) in
    IfOk-weaker c.resolve.result _ _
    (λ found is p w. resolved_on p w.places ids w.alike id c.in-Some.place c.args.name.now at found (is w.places w.linking))
    c.resolve.ensures

pub returns-in-None-clause-found : goal.returns-in-None-clause-found
returns-in-None-clause-found c = λ p w. none_resolved p c.args.id c.args.name.now (w.others c.args.id (not_among c.args.self.now.ids.keys c.args.id (sym c.in-None.ensures.found)))
