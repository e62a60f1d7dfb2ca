-- Lists in which each node and each name stands in a field that takes it, and each field holds as
-- many as it may, in order.
use Rattle.std.specs.Prelude.{◌≡◌, ℕ, Bool, true, false, List, [], ◌∷◌, ◌++◌}
use Rattle.bundle_syntax.specs.declared.piece.Role.{Role}
use Rattle.bundle_syntax.specs.Item as h
use Rattle.bundle_syntax.specs.Item.{Item, Head}
use Rattle.bundle_scope_names.specs.fit.Sorts.{NodeSort, NodeCount, One, Optional, Many, Places, NodeSlot, slot, takes_head, takes_name, names_of_sort, slots}

-- whether something has to stand in a field
abbrev pub is_count_needed : NodeCount → Bool
is_count_needed One = true
is_count_needed _ = false

-- the fields that are left once a node or a name stands in the first
abbrev pub fields_after : ℕ → NodeCount → NodeSort → List NodeSlot → List NodeSlot
fields_after number One sort more = more
fields_after number Optional sort more = more
fields_after number Many sort more = slot number Many sort ∷ more
fields_after number Places sort more = slot number Places sort ∷ more

-- what stands in these fields, from the first on
pub data AreFit : List NodeSlot → List Item → Type 0 where
  no_more : AreFit [] []
  over : {number : ℕ} {count : NodeCount} {sort : NodeSort} {more : List NodeSlot}
      {items : List Item} →
      is_count_needed count ≡ false →
      AreFit more items →
      AreFit (slot number count sort ∷ more) items
  a_name : {number : ℕ} {count : NodeCount} {sort : NodeSort} {more : List NodeSlot} {x : List ℕ}
      {ctxt : ℕ} {role : Role} {rest : List Item} →
      takes_name role sort ≡ true →
      AreFit (fields_after number count sort more) rest →
      AreFit (slot number count sort ∷ more) (h.Ident number x ctxt role ∷ rest)
  a_hole : {number : ℕ} {sort : NodeSort} {more : List NodeSlot} {rest : List Item} →
      AreFit (slot number Places sort ∷ more) rest →
      AreFit (slot number Places sort ∷ more) (h.Hole number ∷ rest)
  a_node : {number : ℕ} {count : NodeCount} {sort : NodeSort} {more : List NodeSlot} {head : Head}
      {inside rest : List Item} →
      takes_head head sort ≡ true →
      AreFit (slots head (names_of_sort sort)) inside →
      AreFit (fields_after number count sort more) rest →
      AreFit (slot number count sort ∷ more) (h.Open number head ∷ (inside ++ h.Close ∷ rest))

-- one name or one node, in the field of that number, where that sort is
pub data IsFit : NodeSort → ℕ → List Item → Type 0 where
  name : {sort : NodeSort} {field : ℕ} {x : List ℕ} {ctxt : ℕ} {role : Role} →
      takes_name role sort ≡ true →
      IsFit sort field (h.Ident field x ctxt role ∷ [])
  node : {sort : NodeSort} {field : ℕ} {head : Head} {inside : List Item} →
      takes_head head sort ≡ true →
      AreFit (slots head (names_of_sort sort)) inside →
      IsFit sort field (h.Open field head ∷ (inside ++ h.Close ∷ []))

-- one or none
pub data IsMaybe : NodeSort → ℕ → List Item → Type 0 where
  none : {sort : NodeSort} {field : ℕ} → IsMaybe sort field []
  some : {sort : NodeSort} {field : ℕ} {items : List Item} →
      IsFit sort field items →
      IsMaybe sort field items

-- each number
pub data AreEach : NodeSort → ℕ → List Item → Type 0 where
  ended : {sort : NodeSort} {field : ℕ} → AreEach sort field []
  next : {sort : NodeSort} {field : ℕ} {items rest : List Item} →
      IsFit sort field items →
      AreEach sort field rest →
      AreEach sort field (items ++ rest)

-- each number, and places that hold nothing
pub data ArePlaces : NodeSort → ℕ → List Item → Type 0 where
  closed : {sort : NodeSort} {field : ℕ} → ArePlaces sort field []
  empty : {sort : NodeSort} {field : ℕ} {rest : List Item} →
      ArePlaces sort field rest →
      ArePlaces sort field (h.Hole field ∷ rest)
  held : {sort : NodeSort} {field : ℕ} {items rest : List Item} →
      IsFit sort field items →
      ArePlaces sort field rest →
      ArePlaces sort field (items ++ rest)
