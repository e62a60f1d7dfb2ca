use Rattle.std.proofs.Common.{rules, ◌<◌, length, get_or, ap, ◌∙◌, arith}
use Rattle.std.proofs.lemmas.List.{get_or_default}
use Rattle.std.proofs.lemmas.List.Elements.{Contains-get_or}
use Rattle.bundle_order_graph.proofs.graph.has_rank.Goals as goal

pub bounds-ranks-place : goal.bounds-ranks-place
bounds-ranks-place c = c.requires _ (Contains-get_or c.args.places.now c.loop-place.place-index 0 c.loop-place-test.true)

pub offset_bounds-ranks-place : goal.offset_bounds-ranks-place
offset_bounds-ranks-place c =
    let inside : get_or c.args.places.now c.loop-place.place-index 0 < length c.args.ranks.now = c.requires _ (Contains-get_or c.args.places.now c.loop-place.place-index 0 c.loop-place-test.true) in
    search rules

pub returns : goal.returns
returns c = λ w. c.loop-place.invariant w.1.0 (omega (arith, w.1.1, c.loop-place-test.false)) (ap (λ x. get_or c.args.ranks.now x 0) (get_or_default c.args.places.now w.1.0 0 w.0 w.1.1 ∙ w.1.2) ∙ w.2)
