-- What a place lies in, by how many nodes are open there and what the top item among them does.
use Rattle.std.specs.Prelude.{◌≡◌, ℕ, ◌<◌, Bool, List, length}
use Rattle.bundle_syntax.specs.Item.{Item}
use Rattle.bundle_rules.specs.Places.{Around, path_at}
use Rattle.bundle_tree_places.specs.Stated.{is_in_statement}
use Rattle.bundle_link_tables.specs.declared.stated.Within.{Within}
use Rattle.bundle_link_tables.specs.Free.{is_place_marked}

-- a place in these nodes lies in just what is known: so many nodes, and where there are two at
-- least, the outermost but one is the top item
pub record IsWithinItem (within : Within) (path : List Around) : Type 0 where
  pub depth : within.depth ≡ length path
  pub states : 1 < length path → within.states ≡ is_in_statement path

-- a place is marked just where it lies in a top item that states something
abbrev pub IsStated : List Item → List Bool → ℕ → Type 0
IsStated tree stated place =
    place < length tree → is_place_marked stated place ≡ is_in_statement (path_at tree place)

-- so is each place
abbrev pub AreStated : List Item → List Bool → Type 0
AreStated tree stated = (place : ℕ) → IsStated tree stated place
