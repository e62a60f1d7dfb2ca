use Rattle.std.proofs.Common.{sym, ◌∙◌}
use Rattle.bundle_link.proofs.NumberLemmas.{at-place}
use Rattle.bundle_link.proofs.PlaceLemmas.{modules_on, none_object, object_on}
use Rattle.bundle_link.proofs.RequestLemmas.{not_among}
use Rattle.bundle_link.proofs.linked.LinkedModules.is_object_meant.Goals as goal

pub returns-in-Some-clause-told : goal.returns-in-Some-clause-told
returns-in-Some-clause-told c = λ p w are.
    let ids = c.args.self.now.ids.keys in
    let at = at-place ids c.args.id c.in-Some.place (sym c.get_index_of.ensures.index ∙ c.in-Some.is) in
    object_on p w.places ids w.alike c.args.id c.in-Some.place c.is_object_meant.result at
    (c.is_object_meant.ensures w.places w.linking (modules_on p w.places ids w.alike are w.bare))

pub returns-in-None-clause-told : goal.returns-in-None-clause-told
returns-in-None-clause-told c = λ p w are. none_object p w.places c.args.self.now.ids.keys w.alike c.args.id (not_among c.args.self.now.ids.keys c.args.id (sym c.in-None.ensures.found))
