use Rattle.std.proofs.Common.{◌≡◌, Vec, Global, List, [], ◌∷◌, map, replicate, sym, ap, ◌∙◌}
use Rattle.std.proofs.lemmas.List.{length-map}
use Rattle.bundle_syntax.specs.declared.piece.Piece.{Piece}
use Rattle.bundle_syntax.specs.Item.{Item, item_of}
use Rattle.bundle_order.specs.declared.number.ItemPlace.{ItemPlace}
use Rattle.bundle_order.specs.Numbering.{at_of, owners_of}
use Rattle.bundle_order.proofs.SortedLemmas.{IsOwnOrder-places, same-owner}
use Rattle.bundle_order.proofs.block.own_places.Goals as goal

abbrev listed : Vec Piece Global → List Item
listed v = map item_of v.items

pub returns : goal.returns
returns c =
    let lists = map listed c.args.lists.now in
    let owners = c.deref.result.now in
    let owned : owners ≡ owners_of 0 (lists ∷ []) =
    c.deref.ensures.value
    ∙ (c.in_ok-owners.ensures.items_if_clones_equal (λ y e. e)
    ∙ (ap (λ n. replicate n 0) (sym (length-map c.args.lists.now listed))
    ∙ same-owner lists)) in
    IsOwnOrder-places lists owners owned c.in_ok-order.order.items
    (c.in_ok-order.ensures ∙ ap (λ (l : List ItemPlace). map at_of l) (c.deref-2.ensures.value ∙ c.in_ok-places.ensures))
