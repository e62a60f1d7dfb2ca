-- The changes are those by the renaming.
use Rattle.std.proofs.Common.{map, ap, ◌∙◌}
use Rattle.bundle_tree_places.specs.Changes.{change_of}
use Rattle.bundle_tree_places.specs.Marks.{listed_of}
use Rattle.bundle_marks.specs.Composed.{items_list}
use Rattle.bundle_scope.proofs.RenameLemmas.{renamed_all-is}
use Rattle.bundle_scope.proofs.rename.rename_all.Goals as goal

pub returns-clause-renamed : goal.returns-clause-renamed
returns-clause-renamed c =
    c.in_ok-rebuild_items.ensures
    ∙ renamed_all-is (items_list c.args.items.now) c.args.renaming.now c.deref.result.now _ (ap (map listed_of) c.deref.ensures.value ∙ c.in_ok-listing.ensures.occurrences) (ap (map change_of) c.deref-2.ensures.value ∙ c.in_ok-changes.ensures)
