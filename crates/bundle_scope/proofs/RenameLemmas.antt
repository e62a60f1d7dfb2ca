-- The items that a renaming makes.
use Rattle.std.proofs.Common.{◌≡◌, ℕ, Bool, List, map, ap, sym, ◌∙◌}
use Rattle.bundle_syntax.specs.Item.{Item}
use Rattle.bundle_rules.specs.Nodes.{Text}
use Rattle.bundle_rules.specs.Rebuilds.{Change, Renaming, change_by, listed, rebuilt, renamed_all}
use Rattle.bundle_tree_places.specs.declared.mark.OccurrenceRef.{OccurrenceRef}
use Rattle.bundle_tree_places.specs.Marks.{ident_of, listed_of}
use Rattle.bundle_tree_places.proofs.RenameLemmas.{idents-listed}
use Rattle.bundle_marks.proofs.LawLemmas.{map-map}

-- the same text and the same context make the same change
pub both : {x y : Text} {m n : ℕ} {b : Bool} → x ≡ y → m ≡ n → (let a : Change = record { ident = (x, m); is_spelled_out = b } in a) ≡ record { ident = (y, n); is_spelled_out = b }
both {b = b} texts contexts = λ i. record { ident = (texts i, contexts i); is_spelled_out = b }

-- the rebuilt tree, where the changes are those by a renaming
pub renamed_all-is : (tree : List Item) (renaming : Renaming) (all : List OccurrenceRef) (changes : List Change) → map listed_of all ≡ listed tree → changes ≡ map (λ o. change_by renaming (ident_of o.id)) all → rebuilt tree changes ≡ renamed_all renaming tree
renamed_all-is tree renaming all changes listed_is is =
    ap (rebuilt tree) (is ∙ sym (map-map (change_by renaming) (λ (o : OccurrenceRef). ident_of o.id) all) ∙ ap (map (change_by renaming)) (idents-listed tree all listed_is))
