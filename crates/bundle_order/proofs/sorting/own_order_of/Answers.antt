use Rattle.std.proofs.Common.{Vec, Global, List, map, ap, ◌∙◌, subst}
use Rattle.std.specs.Prelude.{IfOk}
use Rattle.bundle_syntax.specs.declared.piece.Piece.{Piece}
use Rattle.bundle_syntax.specs.Item.{Item, item_of}
use Rattle.bundle_order.specs.Numbering.{IsOwnOrder}
use Rattle.bundle_order.proofs.sorting.own_order_of.Goals as goal

abbrev listed : Vec Piece Global → List Item
listed v = map item_of v.items

pub returns : goal.returns
returns c =
    subst (λ (l : List (List Item)). IfOk c.own_places.result (λ order. IsOwnOrder l order.items))
    (ap (λ (l : List (Vec Piece Global)). map listed l) c.deref.ensures.value ∙ c.in_ok-lists.ensures.lists) c.own_places.ensures
