-- How far a list was rebuilt.
use Rattle.std.specs.Prelude.{◌≡◌, ℕ, ◌+◌, Bool, true, false, List, [], ◌∷◌, ◌++◌, take, drop, reverse, slice_get, count_by}
use Rattle.bundle_syntax.specs.declared.piece.Role.TheVariants.{Word as IsWord}
use Rattle.bundle_syntax.specs.Item as h
use Rattle.bundle_syntax.specs.Item.{Item}
use Rattle.bundle_rules.specs.Places as places
use Rattle.bundle_rules.specs.Places.{spot_before}
use Rattle.bundle_rules.specs.Meaning.{has_default}
use Rattle.bundle_rules.specs.Rebuilds.{Change, spells_out, is_key_spelled_out, rebuilt_from, rebuilt}
use Rattle.bundle_tree_places.proofs.Spelled.{Around}
use Rattle.bundle_tree_places.proofs.Spelled as a
use Rattle.bundle_tree_places.proofs.Spelled.{around_of}

-- whether an element is an identifier that binds or refers
abbrev pub is_occurrence : Item → Bool
is_occurrence (h.Ident field sym ctxt IsWord) = false
is_occurrence (h.Ident field sym ctxt role) = true
is_occurrence (h.Open field head) = false
is_occurrence (h.Hole field) = false
is_occurrence h.Close = false

-- of the changes, that of the name of the shorthand property that these elements begin with, before which stand `count` occurrences
abbrev pub is_first_key_spelled_out : List Item → List Change → ℕ → Bool
is_first_key_spelled_out rest changes count = spells_out (slice_get changes (count + count_by is_occurrence (take 2 rest)))

-- what a node around a place asks of what stands directly in it
abbrev pub asked : List Item → List Change → places.Around → Around
asked tree changes node = around_of node.head (is_key_spelled_out tree changes node.begins) (has_default tree node.begins)

-- what the nodes around a place ask, innermost first, and at last what is asked where no node is open
abbrev pub each_asked : List Item → List Change → List places.Around → List Around
each_asked tree changes [] = a.Other ∷ []
each_asked tree changes (node ∷ outer) = asked tree changes node ∷ each_asked tree changes outer

-- the elements before this place are rebuilt
pub record IsAt (tree : List Item) (changes : List Change) (place : ℕ) (list : List Item) (around : Around) (outer : List Around) (count : ℕ) : Type 0 where
  -- with what those from this place on become, the list is whole
  pub made : list ++ rebuilt_from tree changes place (drop place tree) ≡ rebuilt tree changes
  -- what the open nodes ask
  pub open_nodes : around ∷ reverse outer ≡ each_asked tree changes (spot_before tree place).path
  -- how many occurrences stand before this place
  pub counted : count ≡ count_by is_occurrence (take place tree)
