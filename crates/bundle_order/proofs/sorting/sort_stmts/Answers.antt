-- The items are sorted as their places are.
use Rattle.std.proofs.Common.{◌≡◌, Vec, Global, ℕ, List, length, map, sym, ap, ◌∙◌, subst}
use Rattle.std.specs.List.{flat_map}
use Rattle.bundle_tree_ast.specs.declared.module.ModuleItem.{ModuleItem}
use Rattle.bundle_syntax.specs.Item.{Item}
use Rattle.bundle_tree_listed.specs.Tree.{module_item_items}
use Rattle.bundle_rules.specs.Sorting.{IsSorted}
use Rattle.bundle_order.specs.Numbering.{IsSortedBy, owners_of}
use Rattle.bundle_order.proofs.SortedLemmas.{IsSorted-all, as-long}
use Rattle.bundle_order.proofs.sorting.sort_stmts.Goals as goal

abbrev items_of : Vec ModuleItem Global → List ModuleItem
items_of v = v.items

pub order_of-requires : goal.order_of-requires
order_of-requires c =
    let owned = c.in_ok-owners.ensures ∙ ap (λ (l : List (Vec ModuleItem Global)). owners_of 0 (map items_of l)) c.deref.ensures.value in
    ap length c.deref-2.ensures.value
    ∙ (as-long c.args.modules.items c.in_ok-joined.joined.body.items c.in_ok-owners.owners.items c.in_ok-joined.ensures owned
    ∙ ap length (sym c.as_slice.ensures.value))

pub returns-clause-sorted : goal.returns-clause-sorted
returns-clause-sorted c =
    let modules = c.args.modules.items in
    let joined = c.in_ok-joined.joined.body.items in
    let owners = c.in_ok-owners.owners.items in
    let sorted = c.arrange.new.values.items in
    let owned = c.in_ok-owners.ensures ∙ ap (λ (l : List (Vec ModuleItem Global)). owners_of 0 (map items_of l)) c.deref.ensures.value in
    let order = c.deref-3.result.now in
    let by = λ (all : List (List (List Item))) (e : map (module_item_items 0) joined ≡ flat_map (λ items. items) all) (o : owners ≡ owners_of 0 all).
    subst (λ (l : List ℕ). IsSortedBy all (map (module_item_items 0) joined) l) (sym c.deref-3.ensures.value)
    (subst (λ (l : List ModuleItem). IsSortedBy all (map (module_item_items 0) l) c.in_ok-order.order.items) c.as_slice.ensures.value
    (c.in_ok-order.ensures all (ap (λ (l : List ModuleItem). map (module_item_items 0) l) c.as_slice.ensures.value ∙ e) (c.deref-2.ensures.value ∙ o))) in
    subst (λ (v : Vec ModuleItem Global). IsSorted (map (λ (items : Vec ModuleItem Global). map (module_item_items 0) items.items) modules) (map (module_item_items 0) v.items)) (sym c.into_body.ensures)
    (IsSorted-all modules joined sorted owners order c.in_ok-joined.ensures owned by c.in_ok-arrange.ensures.arranged)
