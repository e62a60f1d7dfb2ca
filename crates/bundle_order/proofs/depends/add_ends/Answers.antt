use Rattle.std.proofs.Common.{◌+◌, List, ℕ, take, sym, ap, ◌∙◌, subst, arith}
use Rattle.std.proofs.lemmas.List.{take_all}
use Rattle.bundle_order.specs.Found.{AddsEnds}
use Rattle.bundle_order.proofs.ProvideLemmas.{AddsEnds-takes, AddsEnds-leaves}
use Rattle.bundle_order.proofs.depends.add_ends.Goals as goal
use Rattle.bundle_order.proofs.depends.add_ends.Goals.{then-item-number+in_ok-push, else-item-number}

pub loop-item-preserved : goal.loop-item-preserved
loop-item-preserved c =
    let items = c.args.items.now in
    let i = c.loop-item.item-index in
    let old = c.args.ends.now.items in
    let new = c.loop-item.ends.items in
    elim c.if-item-number.branch [
      | then-item-number+in_ok-push w ↦ AddsEnds-takes items c.args.number i c.loop-item-test.true old new c.loop-item.invariant c.if-item-number.ends.items w.if-item-number.true (ap (λ v. v.items) w.ends-is ∙ w.in_ok-push.ensures.items)
      | else-item-number w ↦ subst (λ (l : List ℕ). AddsEnds (take (i + 1) items) c.args.number old l) (sym (ap (λ v. v.items) w.ends-is)) (AddsEnds-leaves items c.args.number i c.loop-item-test.true old new c.loop-item.invariant w.if-item-number.false)
    ]

pub returns : goal.returns
returns c = subst (λ (l : List ℕ). AddsEnds l c.args.number c.args.ends.now.items c.loop-item.ends.items) (take_all c.loop-item.item-index c.args.items.now (omega (arith, c.loop-item-test.false))) c.loop-item.invariant
