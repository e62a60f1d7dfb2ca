-- Where all that were met are gone through, those are found that give.
use Rattle.std.proofs.Common.{ap, arith, ◌∙◌}
use Rattle.std.proofs.lemmas.List.{take_all}
use Rattle.std.specs.List.{filter}
use Rattle.gutsirava_graph.specs.Stars.{gives}
use Rattle.gutsirava_graph.proofs.StarLemmas.{givers_of}
use Rattle.gutsirava_graph.proofs.tables.givers.Goals as goal

pub returns : goal.returns
returns c =
    let met = c.deref-giver-items.result.now in
    givers_of c.args.name.now c.args.units.now c.args.unit c.in_ok-met.met.items c.loop-giver.found.items c.in_ok-met.ensures
    (c.loop-giver.invariant ∙ ap (λ it. filter (gives c.args.units.now c.args.name.now) it)
    (take_all c.loop-giver.giver-index met (omega (arith, c.loop-giver-test.false)) ∙ c.deref-giver-items.ensures.value))
