-- What is told of a place by the nodes around it.
use Rattle.std.specs.Prelude.{◌≡◌, ℕ, ◌<◌, ◌||◌, Bool, false, List, [], ◌∷◌, Option, Some, None, length, option_and_then, slice_get, slice_index_or, if◌then◌else◌}
use Rattle.bundle_syntax.specs.Item.{Item, head_of}
use Rattle.bundle_rules.specs.Places.{Around, path_at}
use Rattle.bundle_rules.specs.Nodes.{Text, field_of}
use Rattle.bundle_rules.specs.Reads.{is_optional_base, is_written_to, read_word}
use Rattle.bundle_tree_places.specs.Seconds.{text_of}
use Rattle.bundle_tree_places.specs.Stated.{is_in_statement, is_stated_in}
use Rattle.bundle_tree_places.specs.declared.places.Frame.{Frame}
use Rattle.bundle_tree_places.specs.declared.places.Spot.{Spot}
use Rattle.bundle_tree_places.specs.declared.places.ReadAt.{ReadAt}

-- a place with these nodes around it is just as is known
pub record IsSpot (spot : Spot) (path : List Around) : Type 0 where
  pub written : spot.is_written ≡ is_written_to path
  pub base : spot.is_base ≡ is_optional_base path
  pub stated : spot.is_stated ≡ is_in_statement path

-- an open node with these nodes around it is just as is known
pub record IsOpen (frame : Frame) (node : Around) (outer : List Around) : Type 0 where
  pub head : head_of frame.node ≡ node.head
  pub written : frame.is_written ≡ is_written_to outer
  pub stated : frame.is_stated ≡ is_stated_in node.head outer

-- so are all open nodes, innermost first
abbrev pub AreOpen : List Frame → List Around → Type 0
AreOpen [] [] = Unit {0}
AreOpen [] (node ∷ outer) = ⊥
AreOpen (frame ∷ frames) [] = ⊥
AreOpen (frame ∷ frames) (node ∷ outer) = IsOpen frame node outer × AreOpen frames outer

-- the word of a read in these nodes, if it may be static there
abbrev pub read_in : List Around → Option Text → Option Text
read_in path word = if is_written_to path || is_optional_base path then None else word

-- nothing is told
abbrev pub no_told : ReadAt
no_told = record { word = None; is_stated = false }

-- what is told of a place: the word of the read that begins there, and whether what stands there
-- lies in a top item that states something
pub record IsTold (tree : List Item) (place : ℕ) (told : ReadAt) : Type 0 where
  pub word : text_of told.word ≡ read_word tree place
  pub stated : (field : ℕ) →
      option_and_then field_of (slice_get tree place) ≡ Some field →
      told.is_stated ≡ is_in_statement (path_at tree place)

-- so it is of each place
abbrev pub AreTold : List Item → List ReadAt → Type 0
AreTold tree told =
    (place : ℕ) → place < length tree → IsTold tree place (slice_index_or told place no_told)

-- the word that is told of a place
abbrev pub word_told : List ReadAt → ℕ → Option Text
word_told told place = text_of (slice_index_or told place no_told).word

-- whether a place lies in such an item, as it is told
abbrev pub stated_told : List ReadAt → ℕ → Bool
stated_told told place = (slice_index_or told place no_told).is_stated
