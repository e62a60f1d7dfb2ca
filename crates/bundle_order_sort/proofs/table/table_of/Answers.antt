use Rattle.std.proofs.Common.{◌≡◌, ℕ, ◌∷◌, ◌++◌, [], List, length, get_or, take, sym, ap, ◌∙◌, subst, arith}
use Rattle.std.proofs.lemmas.List.{get_or_read, length-take-le, take_all, take_more}
use Rattle.bundle_order_sort.specs.Rows.{AreRows}
use Rattle.bundle_order_sort.proofs.table.table_of.Goals as goal

pub loop-place-preserved : goal.loop-place-preserved
loop-place-preserved c =
    let owners = c.args.owners.now in
    let i = c.loop-place.place in
    let x = c.index-owners-place.result in
    let within = c.loop-place-test.true in
    let read : x ≡ get_or owners i 0 = get_or_read owners i x within c.index-owners-place.is 0 in
    let last : i ≡ length (take i owners) = sym (length-take-le i owners (omega (arith, within))) in
    subst (λ (l : List ℕ). AreRows c.add.new.self l) (ap (λ y. take i owners ++ y ∷ []) read ∙ sym (take_more owners i 0 within))
    (c.in_ok-add.ensures (take i owners) c.loop-place.invariant last)

pub returns : goal.returns
returns c = subst (λ (l : List ℕ). AreRows c.loop-place.table l) (take_all c.loop-place.place c.args.owners.now c.loop-place-test.false) c.loop-place.invariant
