-- A row of items is made anew, and is one again.
use Rattle.std.proofs.Common.{map, ap, sym, subst, ◌∙◌}
use Rattle.std.proofs.lemmas.Result.{IfOk-weaker}
use Rattle.bundle_syntax.specs.Item.{item_of}
use Rattle.bundle_tree_parse.specs.Sorts.{AnItem}
use Rattle.bundle_tree_parse.specs.Standing.{AreEach}
use Rattle.bundle_tree_places.specs.Changes.{change_of}
use Rattle.bundle_tree_rewrite.proofs.Making.{items_made, items_rebuilt}
use Rattle.bundle_tree_rewrite.proofs.rebuild_items.Goals as goal

pub make_nodes-requires : goal.make_nodes-requires
make_nodes-requires c =
    subst (AreEach AnItem 0) (sym (ap (map item_of) c.deref-2.ensures.value))
    (items_made c.args.items.now (map change_of c.args.changes.now) (ap (map item_of) c.deref.ensures.value ∙ c.in_ok-list.ensures) c.in_ok-made.ensures)

pub returns : goal.returns
returns c =
    IfOk-weaker c.make_nodes.result _ _ (λ made is. is ∙ (ap (map item_of) c.deref-2.ensures.value
    ∙ items_rebuilt c.args.items.now (map change_of c.args.changes.now) (ap (map item_of) c.deref.ensures.value ∙ c.in_ok-list.ensures) c.in_ok-made.ensures))
    c.make_nodes.ensures
