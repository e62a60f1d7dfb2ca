-- A link back closes a circle.
use Rattle.gutsirava_graph.proofs.CircleLemmas.{circles_found}
use Rattle.gutsirava_graph.proofs.cycles.CycleSearch.go_on.Goals as goal

pub returns-in_ok-push-in-Some-Open-clause-circles : goal.returns-in_ok-push-in-Some-Open-clause-circles
returns-in_ok-push-in-Some-Open-clause-circles c =
    circles_found c.args.units.now c.args.self.now.path.items c.push.new.self.items c.as_slice.result.now c.args.unit
    c.unwrap_or-number.result c.in-Some-import.target c.in-Some.import c.args.self.now.circles.items
    c.push-in-Some-Open.new.self.items c.in_ok-circle-in-Some-Open.field-0 c.in-Some-2.circle c.requires.walk
    c.in_ok-push.ensures.items c.in-Some-import.is c.in-Some.ensures c.as_slice.ensures.value c.in-Some-2.is
    c.in_ok-circle-in-Some-Open.ensures c.requires.circles c.in_ok-push-in-Some-Open.ensures.items
