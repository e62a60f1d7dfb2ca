-- The changes are those to these identifiers in turn.
use Rattle.std.proofs.Common.{map, ap, ◌∙◌}
use Rattle.std.proofs.lemmas.Result.{IfOk-weaker}
use Rattle.std.specs.List.{flat_map}
use Rattle.bundle_tree_listed.specs.Tree.{module_item_items}
use Rattle.bundle_tree_places.specs.Changes.{change_of}
use Rattle.bundle_tree_places.specs.Marks.{listed_of}
use Rattle.bundle_tree_places.proofs.RenameLemmas.{with_idents-is}
use Rattle.bundle_marks.specs.Idents.{tree_ident}
use Rattle.bundle_marks.proofs.rename.with_idents.Goals as goal

pub returns : goal.returns
returns c =
    IfOk-weaker c.rebuild_items.result _ _
    (λ made is. is ∙ with_idents-is (flat_map (module_item_items 0) c.args.items.now) (map tree_ident c.args.idents.now) c.deref.result.now _ (ap (map listed_of) c.deref.ensures.value ∙ c.in_ok-listed.ensures) (ap (map change_of) c.deref-2.ensures.value ∙ c.in_ok-changes.ensures))
    c.rebuild_items.ensures
