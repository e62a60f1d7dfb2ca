use Rattle.std.proofs.Common.{Vec, Global, ℕ, List, map, sym, ap, ◌∙◌, subst}
use Rattle.bundle_tree_ast.specs.declared.module.ModuleItem.{ModuleItem}
use Rattle.bundle_tree_listed.specs.Tree.{module_item_items}
use Rattle.bundle_order.specs.Numbering.{IsOwnOrder}
use Rattle.bundle_order.proofs.SortedLemmas.{own-listed}
use Rattle.bundle_order.proofs.sorting.in_own_order.Goals as goal

pub returns-clause-listed : goal.returns-clause-listed
returns-clause-listed c =
    let items = c.args.items.items in
    let own : IsOwnOrder (map (module_item_items 0) items) c.deref.result.now =
    subst (λ (l : List ℕ). IsOwnOrder (map (module_item_items 0) items) l) (sym c.deref.ensures.value)
    (subst (λ (l : List ModuleItem). IsOwnOrder (map (module_item_items 0) l) c.in_ok-order.order.items) c.as_slice.ensures.value c.in_ok-order.ensures) in
    ap (λ (v : Vec ModuleItem Global). map (module_item_items 0) v.items) c.into_body.ensures
    ∙ own-listed items c.arrange.new.values.items c.deref.result.now own c.in_ok-arrange.ensures.arranged
