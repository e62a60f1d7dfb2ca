-- The places are in the order in which the items are sorted.
use Rattle.std.proofs.Common.{◌≡◌, ◌<◌, ℕ, All, Vec, Global, List, Contains, length, get_or, map, sym, ap, ◌∙◌, subst, arith}
use Rattle.std.proofs.lemmas.List.{length-map}
use Rattle.bundle_tree_ast.specs.declared.module.ModuleItem.{ModuleItem}
use Rattle.bundle_syntax.specs.declared.piece.Piece.{Piece}
use Rattle.bundle_syntax.specs.Item.{Item, item_of}
use Rattle.bundle_tree_listed.specs.Tree.{module_item_items}
use Rattle.bundle_order_sort.specs.declared.SharedItem.{SharedItem}
use Rattle.bundle_order_sort.specs.Items.{IsGoodItemOrder}
use Rattle.bundle_rules.specs.Sorting.{Numbered}
use Rattle.bundle_order.specs.declared.number.ItemPlace.{ItemPlace}
use Rattle.bundle_order.specs.Grouped.{IsGroup}
use Rattle.bundle_order.specs.Numbering.{all_places, at_of, numbered_at}
use Rattle.bundle_order.specs.Owned.{item_owner}
use Rattle.bundle_order.proofs.NumberingLemmas.{all-within}
use Rattle.bundle_order.proofs.SortedLemmas.{IsSortedBy-order}
use Rattle.bundle_order.proofs.block.sorted_places.Goals as goal

abbrev listed : Vec Piece Global → List Item
listed v = map item_of v.items

abbrev list_of : ModuleItem → List Item
list_of item = module_item_items 0 item

pub group_at-requires : goal.group_at-requires
group_at-requires c =
    let lists = c.args.lists.now in
    let count : length c.args.owners.now ≡ length (map listed lists) = omega (arith, c.requires, length-map lists listed) in
    subst (λ (l : List ItemPlace). All (λ place. place.at < length lists) l) (sym (c.deref.ensures.value ∙ c.in_ok-places.ensures))
    (all-within (map listed lists) c.args.owners.now count (length lists) (length-map lists listed))

pub places_by-requires : goal.places_by-requires
places_by-requires c = λ n has.
    let less = (c.in_ok-numbers.ensures.all n).1 (subst (λ (l : List ℕ). Contains l n) c.deref-4.ensures.value has) in
    let places = c.deref.result.now in
    let numbered = map (numbered_at (map listed c.args.lists.now)) places in
    let owned = c.in_ok-found.ensures.owned (map (λ (one : Numbered). one.0) numbered) (map (λ (one : Numbered). one.1) numbered) c.in_ok-group.ensures in
    let a : length c.in_ok-found.found.0.items ≡ length places = sym (length-map c.in_ok-found.found.0.items item_owner) ∙ (ap length owned ∙ (length-map numbered (λ (one : Numbered). one.1) ∙ length-map places (numbered_at (map listed c.args.lists.now)))) in
    omega (arith, less, a, ap length c.deref.ensures.value, ap length c.deref-2.ensures.value, ap length c.deref-3.ensures.value)

pub returns : goal.returns
returns c = λ items modules same joined owned.
    let places = c.in_ok-places.places.items in
    let needs = c.in_ok-found.found.0.items in
    let bindings : List (List ℕ) = map (λ v. v.items) c.in_ok-found.found.1.items in
    let numbers = c.in_ok-numbers.numbers.items in
    let placed_so : places ≡ all_places (map list_of items) c.args.owners.now = c.in_ok-places.ensures ∙ ap (λ (l : List (List Item)). all_places l c.args.owners.now) same in
    let numbered : map (numbered_at (map listed c.args.lists.now)) c.deref.result.now ≡ map (numbered_at (map list_of items)) places = ap (λ (l : List (List Item)). map (numbered_at l) c.deref.result.now) same ∙ ap (λ (l : List ItemPlace). map (numbered_at (map list_of items)) l) c.deref.ensures.value in
    let group = subst (λ (l : List Numbered). IsGroup c.in_ok-group.group (map (λ one. one.0) l) (map (λ one. one.1) l)) numbered c.in_ok-group.ensures in
    let good = subst (λ (l : List SharedItem). IsGoodItemOrder l bindings numbers) c.deref-2.ensures.value c.in_ok-numbers.ensures in
    let ordered = c.in_ok-order.ensures ∙ (ap (λ (l : List ItemPlace). map (λ n. get_or (map at_of l) n 0) c.deref-4.result.now) c.deref-3.ensures.value ∙ ap (λ (l : List ℕ). map (λ n. get_or (map at_of places) n 0) l) c.deref-4.ensures.value) in
    IsSortedBy-order modules items c.args.owners.now places needs bindings numbers c.in_ok-order.order.items joined owned placed_so
    (c.in_ok-found.ensures.found (map (λ (one : Numbered). one.0) (map (numbered_at (map list_of items)) places)) (map (λ (one : Numbered). one.1) (map (numbered_at (map list_of items)) places)) group)
    (c.in_ok-found.ensures.owned (map (λ (one : Numbered). one.0) (map (numbered_at (map list_of items)) places)) (map (λ (one : Numbered). one.1) (map (numbered_at (map list_of items)) places)) group)
    good ordered
