-- The places are in the order in which the items are sorted.
use Rattle.std.proofs.Common.{Vec, Global, List, length, map, ap, ◌∙◌, arith}
use Rattle.bundle_syntax.specs.declared.piece.Piece.{Piece}
use Rattle.bundle_syntax.specs.Item.{Item, item_of}
use Rattle.bundle_order.proofs.sorting.order_of.Goals as goal

abbrev listed : Vec Piece Global → List Item
listed v = map item_of v.items

pub sorted_places-requires : goal.sorted_places-requires
sorted_places-requires c = omega (arith, c.requires, c.in_ok-lists.ensures.len, ap length c.deref.ensures.value)

pub returns : goal.returns
returns c = λ modules joined owned.
    c.in_ok-order.ensures c.args.items.now modules (ap (λ (l : List (Vec Piece Global)). map listed l) c.deref.ensures.value ∙ c.in_ok-lists.ensures.lists) joined owned
