-- The first module is met, then those behind each one, until no more are left.
use Rattle.std.proofs.Common.{◌≡◌, ◌∙◌, Some, arith, slice_get, sym}
use Rattle.std.proofs.lemmas.Option.{get_or_from_slice_get, slice_get_within}
use Rattle.gutsirava_graph.proofs.StarLemmas.{met_begin, met_end, met_more, met_stop}
use Rattle.gutsirava_graph.proofs.tables.met_units.Goals as goal
use Rattle.gutsirava_graph.proofs.tables.met_units.Goals.{else-loop-at-test, then-loop-at-test+in_default}

pub loop-at-init : goal.loop-at-init
loop-at-init c = (
  met_begin _ _ _ c.in_ok-met.met.list.items c.in_ok-met.met.all c.in_ok-met.ensures.list c.in_ok-met.ensures.met,
  c.in_ok-met.ensures.met,
)

pub loop-at-preserved : goal.loop-at-preserved
loop-at-preserved c =
    let old = c.loop-at.met.list.items in
    let here : slice_get old c.loop-at.at ≡ Some c.in-Some.next = sym c.at.ensures ∙ c.in-Some.is in (
      met_more _ _ _ old c.add_all.new.self.list.items c.followed.result.now c.add_all.new.self.all c.loop-at.at c.in-Some.next
          c.loop-at.invariant.0 (slice_get_within old c.loop-at.at c.in-Some.next here)
          (get_or_from_slice_get old c.loop-at.at c.in-Some.next 0 here) c.followed.ensures c.in_ok-add_all.ensures.list
          c.in_ok-add_all.ensures.met,
      c.in_ok-add_all.ensures.met,
    )

pub returns : goal.returns
returns c =
    let met = c.loop-at.met.list in
    elim c.loop-at-test.branch [
      | else-loop-at-test w ↦
          met_end _ _ _ met.items c.loop-at.at c.loop-at.invariant.0 (omega (arith, met.ok, met.small, w.loop-at-test.false))
      | then-loop-at-test+in_default w ↦
          met_stop _ _ _ met.items c.loop-at.at c.loop-at.invariant.0 (sym w.at.ensures ∙ w.in_default.is)
    ]
