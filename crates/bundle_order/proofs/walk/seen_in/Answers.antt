use mathlib.Core.Path.{fun_ext}
use Rattle.std.proofs.Common.{◌≡◌, ℕ, ◌+◌, ◌++◌, false, List, map, get_or, drop, sym, ap, ◌∙◌}
use Rattle.std.specs.List.{slice_range}
use Rattle.std.proofs.lemmas.List.{take_all, get_or-drop}
use Rattle.bundle_syntax.specs.declared.piece.Piece.{Piece}
use Rattle.bundle_syntax.specs.Item.{Item, item_of}
use Rattle.bundle_order.specs.declared.seen.Seen.{Seen}
use Rattle.bundle_order.specs.Seen.{seen_from}
use Rattle.bundle_order.specs.declared.needs.ItemRange.{ItemRange}
use Rattle.bundle_order.specs.declared.told.TopBinding.{TopBinding}
use Rattle.bundle_order.specs.Cut.{cut_items, seen_of_item}
use Rattle.bundle_order.specs.Numbered.{numbered_row}
use Rattle.bundle_order.specs.Told.{no_binding_told, told_at}
use Rattle.bundle_order.proofs.EventLemmas.{range-map, ranges-more}
use Rattle.bundle_order.proofs.walk.seen_in.Goals as goal

-- no range
abbrev none : ItemRange
none = record { from = 0; to = 0; which = 0; is_free = false }

pub loop-number-preserved : goal.loop-number-preserved
loop-number-preserved c =
    let pieces = c.args.pieces.now in
    let tree = map item_of pieces in
    let n = c.loop-number.number in
    let range = get_or c.args.items.now n none in
    let seen = c.loop-number.seen.items in
    let there : (λ (p : ℕ). get_or c.rest_of-told_there.result.now p no_binding_told) ≡ (λ (p : ℕ). told_at tree c.args.denotations.now c.args.top (range.from + p)) = fun_ext (λ p. ap (λ (l : List TopBinding). get_or l p no_binding_told) (c.rest_of-told_there.ensures ∙ ap (λ (l : List TopBinding). drop range.from l) c.deref.ensures.value) ∙ (get_or-drop range.from c.in_ok-told.told.items p no_binding_told ∙ c.in_ok-told.ensures.each (range.from + p))) in
    let part : map item_of c.part_of-list.result.now ≡ slice_range tree range.from range.to = ap (λ (l : List Piece). map item_of l) c.part_of-list.ensures ∙ range-map item_of pieces range.from range.to in
    c.in_ok-item_seen.ensures
    ∙ (ap (λ (told : ℕ → TopBinding). seen ++ seen_of_item n told (map item_of c.part_of-list.result.now)) there
    ∙ (ap (λ (l : List Item). seen ++ seen_of_item n (λ (p : ℕ). told_at tree c.args.denotations.now c.args.top (range.from + p)) l) part
    ∙ (ap (λ (l : List Seen). l ++ seen_of_item n (λ (p : ℕ). told_at tree c.args.denotations.now c.args.top (range.from + p)) (slice_range tree range.from range.to)) c.loop-number.invariant
    ∙ sym (ranges-more (told_at tree c.args.denotations.now c.args.top) tree c.args.items.now n none c.loop-number-test.true))))

pub returns : goal.returns
returns c =
    let tree = map item_of c.args.pieces.now in
    c.loop-number.invariant ∙ ap (λ (l : List ItemRange). seen_from 0 (map (numbered_row (told_at tree c.args.denotations.now c.args.top)) (cut_items tree l))) (take_all c.loop-number.number c.args.items.now c.loop-number-test.false)
