use Rattle.std.proofs.Common.{ap, sym, ◌∙◌}
use Rattle.bundle_link.specs.Leads.{module_place}
use Rattle.bundle_link.proofs.LeadLemmas.{some-here, some-none}
use Rattle.bundle_link.proofs.linked.places_of.Goals as goal
use Rattle.bundle_link.proofs.linked.places_of.Goals.{in-Some+in_ok-push, in_default}

pub loop-id-preserved : goal.loop-id-preserved
loop-id-preserved c =
    let ids = c.args.ids.now.keys in
    let list = c.args.list.now in
    elim c.match-get_index_of.branch [
      | in-Some+in_ok-push w ↦ ap (λ v. v.items) w.places-is ∙ w.in_ok-push.ensures.items ∙ some-here (module_place ids) list c.loop-id.id-index c.id-item.result c.loop-id.places.items c.loop-id-test.true c.id-item.is c.loop-id.invariant w.in-Some.place (sym c.get_index_of.ensures.index ∙ w.in-Some.is)
      | in_default w ↦ ap (λ v. v.items) w.places-is ∙ some-none (module_place ids) list c.loop-id.id-index c.id-item.result c.loop-id.places.items c.loop-id-test.true c.id-item.is c.loop-id.invariant (sym c.get_index_of.ensures.index ∙ w.in_default.is)
    ]
