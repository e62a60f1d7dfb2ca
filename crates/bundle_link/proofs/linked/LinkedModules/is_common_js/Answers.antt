use Rattle.std.proofs.Common.{sym, ◌∙◌}
use Rattle.bundle_link.proofs.NumberLemmas.{at-place}
use Rattle.bundle_link.proofs.RequestLemmas.{kind_on, none_common_js, not_among}
use Rattle.bundle_link.proofs.linked.LinkedModules.is_common_js.Goals as goal

pub returns-in-Some-clause-told : goal.returns-in-Some-clause-told
returns-in-Some-clause-told c = λ p w.
    let ids = c.args.self.now.ids.keys in
    let at = at-place ids c.args.id c.in-Some.place (sym c.get_index_of.ensures.index ∙ c.in-Some.is) in
    kind_on p w.places ids w.alike c.args.id c.in-Some.place c.is_common_js.result at (c.is_common_js.ensures w.places w.linking)

pub returns-in-None-clause-told : goal.returns-in-None-clause-told
returns-in-None-clause-told c = λ p w.
    let ids = c.args.self.now.ids.keys in
    let no = not_among ids c.args.id (sym c.in-None.ensures.found) in
    none_common_js p c.args.id (w.others c.args.id no) (λ n s is. no (w.there n c.args.id s is))
