-- A block is sorted, and nothing is told; or none is, and what is due is told.
use Rattle.std.proofs.Common.{refl, subst, sym, ap, ◌∙◌}
use Rattle.std.specs.List.{list_any}
use Rattle.bundle_order_sort.specs.declared.plan.Block.{Block}
use Rattle.bundler_entry.specs.Caused.{AreShapesOfAll}
use Rattle.bundler_entry.proofs.CausedLemmas.{items-none, items-some, AreAllDue}
use Rattle.bundler_entry.proofs.LinkedLemmas.{has_places, long_places}
use Rattle.bundler_entry.proofs.causes.items_in.Goals as goal

pub returns-then-has_cycle : goal.returns-then-has_cycle
returns-then-has_cycle c = λ p entry w l.
    let sorted = ap (list_any (λ (block : Block). block.is_cycle)) (sym c.deref.ensures.value) in
    items-none p entry c.args.call.now w c.args.linked.now l
    (sorted ∙ (sym c.has_cycle.ensures ∙ c.if-has_cycle.true))

pub returns : goal.returns
returns c = λ p entry w l.
    let call = c.args.call.now in
    let linked = c.args.linked.now in
    let sorted = ap (list_any (λ (block : Block). block.is_cycle)) (sym c.deref.ensures.value) in
    let long = long_places p entry call w linked.reached l.reached in
    let places = has_places p entry call w linked.reached l.reached _ refl in
    let shapes = c.in_ok-shapes.shapes.items in
    let is_call = c.setting_of-is_call.result.iife in
    items-some p entry call w linked l shapes
    (subst (λ n. AreShapesOfAll call linked.reached n shapes) long (c.in_ok-shapes.ensures places))
    is_call c.in_ok-causes.causes (c.setting_of-is_call.ensures.iife ∙ sym w.iife)
    (sorted ∙ (sym c.has_cycle.ensures ∙ c.if-has_cycle.false))
    (subst (λ xs. AreAllDue linked.linking xs is_call c.in_ok-causes.causes.items)
    c.deref-2.ensures.value c.in_ok-causes.ensures)
