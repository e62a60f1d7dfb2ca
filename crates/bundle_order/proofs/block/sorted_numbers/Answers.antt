-- The order is good for what the items need, and so for the items.
use Rattle.std.proofs.Common.{◌≡◌, ◌∙◌, ℕ, Vec, Global, List, length, map, ap, subst, arith}
use Rattle.bundle_syntax.specs.declared.piece.Piece.{Piece}
use Rattle.bundle_syntax.specs.Item.{Item, item_of}
use Rattle.bundle_tree_listed.specs.Tree.{module_item_items}
use Rattle.bundle_order_sort.specs.declared.SharedItem.{SharedItem}
use Rattle.bundle_order_sort.specs.Items.{IsGoodItemOrder}
use Rattle.bundle_order.specs.Grouped.{IsGroup}
use Rattle.bundle_order.proofs.SortedLemmas.{IsGoodOrder-items}
use Rattle.bundle_order.proofs.block.sorted_numbers.Goals as goal

abbrev listed : Vec Piece Global → List Item
listed v = map item_of v.items

pub returns : goal.returns
returns c = λ long together.
    let items = c.args.items.now in
    let trees = map (module_item_items 0) items in
    let owners = c.args.owners.now in
    let needs = c.in_ok-found.found.0.items in
    let bindings : List (List ℕ) = map (λ v. v.items) c.in_ok-found.found.1.items in
    let order = c.in_ok-order.order.items in
    let lists = c.deref.result.now in
    let same : map listed lists ≡ trees = ap (λ (l : List (Vec Piece Global)). map listed l) c.deref.ensures.value ∙ c.in_ok-lists.ensures.lists in
    let count : length owners ≡ length lists = omega (arith, long, ap length c.deref.ensures.value, c.in_ok-lists.ensures.len) in
    let group = subst (λ (l : List (List Item)). IsGroup c.in_ok-group.group l owners) same (c.in_ok-group.ensures count) in
    IsGoodOrder-items items owners needs bindings order (c.in_ok-found.ensures.found trees owners group) (c.in_ok-found.ensures.owned trees owners group) together
    (subst (λ (l : List SharedItem). IsGoodItemOrder l bindings order) c.deref-2.ensures.value c.in_ok-order.ensures)
