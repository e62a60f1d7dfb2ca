-- A module whose names change has the same marks, item by item: with other identifiers, and
-- cleared.
-- An item whose names are changed means what it meant, where names denote alike.
pub use Rattle.std.proofs.lemmas.Bool.{not-false as not_false}
use Rattle.std.proofs.Common.{◌≡◌, false, List, [], None, map, ap, sym, ◌∙◌, subst}
use Rattle.std.specs.List.{AllZip}
use Rattle.bundle_rules.specs.Places.{Around, spot_before, occurrences_from}
use Rattle.bundle_rules.specs.Denotes.{Denoted}
use Rattle.bundle_rules.specs.Statements.{TopItem}
use Rattle.bundle_rules.specs.Meaning.{Mark, inner_bindings}
use Rattle.bundle_rules.specs.Bundle.{Labelled, sense_of, elements_of, ItemMeans}
use Rattle.bundle_tree_places.specs.Edits.{Anywhere}
use Rattle.bundle_merge_theory.specs.noted.Marked.{Note, Marked}
use Rattle.bundle_merge_theory.specs.noted.Agrees.{IsListing, EachMeans}
use Rattle.bundle_merge_theory.proofs.noted.Spots.{at-spot}
use Rattle.bundle_merge_theory.proofs.noted.Inner.{is_object_around}
use Rattle.bundle_merge_theory.proofs.noted.Statements.{is_in_short}
use Rattle.bundle_merge_theory.proofs.noted.Names.{StandsThere}
use Rattle.bundle_merge_theory.proofs.noted.UsesAgree.{item_means}
use Rattle.bundle_merge_theory.proofs.walked.NameLemmas.{denoted_here, MeansNote, each_means}

-- ---- naming

-- ---- renewing

-- the names of an item mean what is noted of them
abbrev pub NamesMean : (b : Labelled) (item : TopItem) {path : List Around} →
    StandsThere b.tree path item → List Note → Type 0
NamesMean b item its notes =
    AllZip
    (MeansNote (sense_of b) (inner_bindings (sense_of b).view item.start (elements_of item)))
    (map (denoted_here (sense_of b).view) (occurrences_from its.s item.items)) notes

-- an item means the marks that it has, where its names mean what is noted of them
pub marked_means : (b : Labelled) (item : TopItem) (path : List Around)
    (its : StandsThere b.tree path item) → IsListing b.tree → is_object_around path ≡ false →
    is_in_short path ≡ false → (notes : List Note) (marks : List Mark) →
    Marked None Anywhere notes item.items marks [] → NamesMean b item its notes →
    ItemMeans b item marks
marked_means b item path its listing object short notes marks marked mean =
    let inner_is : List Denoted = inner_bindings (sense_of b).view item.start (elements_of item) in
    let each : EachMeans (sense_of b) inner_is (occurrences_from its.s item.items) notes =
    each_means (sense_of b) inner_is its.s item.items its.tail its.at notes mean in
    item_means b listing item path its object short notes [] marks marked
    (subst (λ s. EachMeans (sense_of b) inner_is (occurrences_from s item.items) notes)
    (sym (ap (spot_before b.tree) (sym its.place) ∙ at-spot its.at)) each)
