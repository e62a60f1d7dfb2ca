-- A tree with other identifiers has the same marks: what is said of it.
use Rattle.std.specs.Prelude.{◌≡◌, Bool, true, false, not, ◌&&◌, List, [], ◌∷◌, ◌++◌, None, map, ⊤}
use Rattle.bundle_syntax.specs.Item as h
use Rattle.bundle_syntax.specs.Item.{Item}
use Rattle.bundle_rules.specs.Idents.{Ident}
use Rattle.bundle_rules.specs.Rebuilds.{Change}
use Rattle.bundle_rules.specs.Shape.{is_specifier}
use Rattle.bundle_rules.specs.Meaning.{Meant, Mark}
use Rattle.bundle_tree_places.specs.Edits.{Around, Anywhere, Edits, is_occurrence}
use Rattle.bundle_merge_theory.specs.noted.Marked.{Note, Marked}
use Rattle.bundle_tree_rebuild.specs.declared.rewrite.Whole.TheVariants.{Alone}
use Rattle.bundle_merge_theory.specs.walked.Names.{idents_among}
use Rattle.bundle_merge_theory.specs.walked.Keeps.{notes_alone}

-- names that stand for themselves alone
abbrev pub AreAlone : List Note → Type 0
AreAlone [] = ⊤
AreAlone (note ∷ notes) = (note.whole ≡ Alone) × AreAlone notes

-- where a change does not spell out an occurrence, its symbol stays
abbrev pub KeepsText : Change → Ident → Type 0
KeepsText change ident = change.is_spelled_out ≡ false → change.ident.0 ≡ ident.0

-- whether no specifier ends right behind an occurrence, where these nodes are open, innermost
-- first (for each whether it is a specifier), and `is_name` says whether an occurrence stands
-- right before
abbrev pub ends_no_specifier : (open_nodes : List Bool) → (is_name : Bool) → List Item → Bool
ends_no_specifier open_nodes is_name [] = true
ends_no_specifier open_nodes is_name (h.Open field head ∷ rest) =
    ends_no_specifier (is_specifier head ∷ open_nodes) false rest
ends_no_specifier open_nodes is_name (h.Ident field x ctxt role ∷ rest) =
    ends_no_specifier open_nodes (is_occurrence role) rest
ends_no_specifier open_nodes is_name (h.Hole field ∷ rest) =
    ends_no_specifier open_nodes false rest
ends_no_specifier [] is_name (h.Close ∷ rest) = ends_no_specifier [] false rest
ends_no_specifier (spec ∷ open_nodes) is_name (h.Close ∷ rest) =
    not (spec && is_name) && ends_no_specifier open_nodes false rest

-- whether an occurrence stands last; where nothing stands, it is as before
abbrev pub last_is_name : Bool → List Item → Bool
last_is_name is_name [] = is_name
last_is_name is_name (h.Open field head ∷ rest) = last_is_name false rest
last_is_name is_name (h.Ident field x ctxt role ∷ rest) = last_is_name (is_occurrence role) rest
last_is_name is_name (h.Hole field ∷ rest) = last_is_name false rest
last_is_name is_name (h.Close ∷ rest) = last_is_name false rest

-- the identifier of a change
abbrev pub ident_of_change : Change → Ident
ident_of_change change = change.ident

-- these elements with the changes of their occurrences in turn, of which these are left: the same
-- marks by the same notes
pub record RenamedByNotes (around : Around) (notes rest : List Note) (before : List Item)
    (marks : List Mark) (changes left : List Change) : Type 0 where
  pub after : List Item
  pub edits : Edits around changes before after left
  pub marked : Marked None around notes after marks rest
  -- the identifiers are those of the changes in turn
  pub names : map ident_of_change changes ≡ idents_among after ++ map ident_of_change left

-- All items of a bundle.

-- what the names of an item mean, in turn, and its marks
abbrev pub ItemMeaning : Type 0
ItemMeaning = List Meant × List Mark

-- an item has these marks, where its names stand for themselves alone
abbrev pub HasMarks : List Item → ItemMeaning → Type 0
HasMarks item told = Marked None Anywhere (notes_alone told.0) item told.1 []

-- no specifier in an item ends right behind an occurrence
abbrev pub HasNoLoneName : List Item → Type 0
HasNoLoneName item = ends_no_specifier [] false item ≡ true
