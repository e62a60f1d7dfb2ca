-- An item is made anew, and is one again.
use Rattle.std.proofs.Common.{map, ap, sym, subst, ◌∙◌}
use Rattle.std.specs.List.{flat_map}
use Rattle.std.proofs.lemmas.Result.{IfOk-weaker}
use Rattle.bundle_syntax.specs.Item.{item_of}
use Rattle.bundle_tree_listed.specs.Tree.{module_item_items}
use Rattle.bundle_tree_parse.specs.Sorts.{AnItem}
use Rattle.bundle_tree_parse.specs.Standing.{IsIn}
use Rattle.bundle_tree_places.specs.Changes.{change_of}
use Rattle.bundle_tree_rewrite.proofs.Making.{item_made, item_rebuilt}
use Rattle.bundle_tree_rewrite.proofs.rebuild_item.Goals as goal

pub make_node-requires : goal.make_node-requires
make_node-requires c =
    subst (IsIn AnItem 0) (sym (ap (map item_of) c.deref-2.ensures.value))
    (item_made c.args.item.now (map change_of c.args.changes.now) (ap (map item_of) c.deref.ensures.value ∙ (c.in_ok-list.ensures ∙ ap (flat_map (module_item_items 0)) c.from_ref.ensures.value)) c.in_ok-made.ensures)

pub returns : goal.returns
returns c =
    IfOk-weaker c.make_node.result _ _ (λ made is. is ∙ (ap (map item_of) c.deref-2.ensures.value
    ∙ item_rebuilt c.args.item.now (map change_of c.args.changes.now) (ap (map item_of) c.deref.ensures.value ∙ (c.in_ok-list.ensures ∙ ap (flat_map (module_item_items 0)) c.from_ref.ensures.value)) c.in_ok-made.ensures))
    c.make_node.ensures
