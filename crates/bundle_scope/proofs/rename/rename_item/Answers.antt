-- The changes are those by the renaming, and the list is that of the one item.
use Rattle.std.proofs.Common.{map, ap, ◌∙◌}
use Rattle.std.proofs.lemmas.List.{append-nil}
use Rattle.std.proofs.lemmas.Result.{IfOk-weaker}
use Rattle.bundle_tree_places.specs.Changes.{change_of}
use Rattle.bundle_tree_places.specs.Marks.{listed_of}
use Rattle.bundle_tree_listed.specs.Tree.{module_item_items}
use Rattle.bundle_marks.specs.Composed.{items_list}
use Rattle.bundle_rules.specs.Rebuilds.{listed}
use Rattle.bundle_scope.proofs.RenameLemmas.{renamed_all-is}
use Rattle.bundle_scope.proofs.rename.rename_item.Goals as goal

pub returns : goal.returns
returns c =
    let tree = module_item_items 0 c.args.item.now in
    let single = ap items_list c.from_ref.ensures.value ∙ append-nil tree in
    let all = ap (map listed_of) c.deref.ensures.value ∙ c.in_ok-listing.ensures.occurrences ∙ ap listed single in
    let changes = ap (map change_of) c.deref-2.ensures.value ∙ c.in_ok-changes.ensures in
    IfOk-weaker c.rebuild_item.result _ _ (λ made is. is ∙ renamed_all-is tree c.args.renaming.now c.deref.result.now _ all changes) c.rebuild_item.ensures
