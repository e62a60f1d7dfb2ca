use Rattle.std.proofs.Common.{◌++◌, ◌∷◌, [], Vec, Global, ℕ, List, append_assoc, append-nil, cond, get_or, map, take, sym, ap, ◌∙◌, arith}
use Rattle.std.proofs.lemmas.List.{take_all}
use Rattle.bundle_syntax.specs.declared.piece.Piece.{Piece}
use Rattle.bundle_syntax.specs.Item.{Item, item_of}
use Rattle.bundle_order.specs.declared.number.ItemPlace.{ItemPlace}
use Rattle.bundle_order.specs.Numbering.{chosen_places, is_chosen, place_of}
use Rattle.bundle_order.proofs.NumberingLemmas.{chosen-more}
use Rattle.bundle_order.proofs.number.add_places.Goals as goal

abbrev listed : Vec Piece Global → List Item
listed v = map item_of v.items

pub loop-at-init : goal.loop-at-init
loop-at-init c = sym (append-nil c.args.places.now.items)

pub loop-at-preserved : goal.loop-at-preserved
loop-at-preserved c =
    let f = c.args.are_free in
    let at = c.loop-at.at in
    let lists = c.args.lists.now in
    let owners = c.args.owners.now in
    let base = c.args.places.now.items in
    let list = c.index-lists-at.result in
    let chosen = chosen_places f 0 (map listed (take at lists)) (take at owners) in
    let added = λ (l : List Item). cond (is_chosen f l) (place_of f at (get_or owners at 0) ∷ []) [] in
    c.in_ok-add_place.ensures
    ∙ (ap (λ (l : List ItemPlace). l ++ added (map item_of c.deref.result.now)) c.loop-at.invariant
    ∙ (append_assoc base chosen (added (map item_of c.deref.result.now))
    ∙ ap (λ (l : List ItemPlace). base ++ l) (ap (λ (l : List Item). chosen ++ added l) (ap (λ (l : List Piece). map item_of l) c.deref.ensures.value ∙ ap listed c.index-lists-at.is) ∙ sym (chosen-more listed f lists owners at list c.requires c.loop-at-test.true))))

pub returns : goal.returns
returns c =
    let lists = c.args.lists.now in
    let owners = c.args.owners.now in
    let at = c.loop-at.at in
    c.loop-at.invariant
    ∙ ap (λ (l : List ItemPlace). c.args.places.now.items ++ l)
    (ap (λ (l : List (Vec Piece Global)). chosen_places c.args.are_free 0 (map listed l) (take at owners)) (take_all at lists c.loop-at-test.false)
    ∙ ap (λ (l : List ℕ). chosen_places c.args.are_free 0 (map listed lists) l) (take_all at owners (omega (arith, c.requires, c.loop-at-test.false))))
