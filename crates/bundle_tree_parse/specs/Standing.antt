-- Which lists are of a tree (ECMA-262, 12 to 16): in each field of a node stands what may stand
-- there, and as many as may.
use Rattle.std.specs.Prelude.{◌≡◌, ℕ, zero, Bool, true, false, ◌||◌, List, [], ◌∷◌, ◌++◌, Some, nat_eq}
use Rattle.bundle_syntax.specs.declared.piece.Role.{Role}
use Rattle.bundle_syntax.specs.Item as h
use Rattle.bundle_syntax.specs.Item.{Item, Head}
use Rattle.bundle_tree_parse.specs.Sorts.{Sort, Count, One, Optional, Many, Places, Slot, slot, Fields, Exports, holds, name_of}
use Rattle.bundle_tree_parse.specs.Parse.{has_source, export_slots}

-- whether something has to stand in a field
abbrev pub is_needed : Count → Bool
is_needed One = true
is_needed _ = false

-- the fields that are left once a node or a name stands in the first
abbrev pub after : ℕ → Count → Sort → List Slot → List Slot
after number One sort more = more
after number Optional sort more = more
after number Many sort more = slot number Many sort ∷ more
after number Places sort more = slot number Places sort ∷ more

-- whether one of these fields has the number
abbrev pub has_number : ℕ → List Slot → Bool
has_number number [] = false
has_number number (slot at count sort ∷ more) = nat_eq at number || has_number number more

-- what stands in these fields, from the first on
pub data AreIn : List Slot → List Item → Type 0 where
  no_more : AreIn [] []
  -- nothing in the first: no field behind it has its number
  over : {number : ℕ} {count : Count} {sort : Sort} {more : List Slot} {items : List Item} →
      is_needed count ≡ false →
      has_number number more ≡ false →
      AreIn more items →
      AreIn (slot number count sort ∷ more) items
  -- a name that may stand alone (ECMA-262, 12.7 and 13.1)
  a_name :
      {number : ℕ} {count : Count} {sort : Sort} {more : List Slot} {x : List ℕ} {ctxt : ℕ}
      {role : Role} {rest : List Item} →
      name_of sort ≡ Some role →
      AreIn (after number count sort more) rest →
      AreIn (slot number count sort ∷ more) (h.Ident number x ctxt role ∷ rest)
  -- a place of an array without an element (ECMA-262, 13.2.4 and 14.3.3)
  a_hole : {number : ℕ} {sort : Sort} {more : List Slot} {rest : List Item} →
      AreIn (slot number Places sort ∷ more) rest →
      AreIn (slot number Places sort ∷ more) (h.Hole number ∷ rest)
  -- a node, with what its own fields hold
  a_node :
      {number : ℕ} {count : Count} {sort : Sort} {more all : List Slot} {head : Head}
      {inside rest : List Item} →
      holds sort head ≡ Fields all →
      AreIn all inside →
      AreIn (after number count sort more) rest →
      AreIn
      (slot number count sort ∷ more)
      (h.Open number head ∷ (inside ++ h.Close ∷ rest))
  -- an export list, with a source or without (ECMA-262, 16.2.3)
  an_export_list :
      {number : ℕ} {count : Count} {sort : Sort} {more : List Slot} {head : Head}
      {source : Bool} {inside rest : List Item} →
      holds sort head ≡ Exports →
      ((behind : List Item) → has_source zero (inside ++ h.Close ∷ behind) ≡ source) →
      AreIn (export_slots source) inside →
      AreIn (after number count sort more) rest →
      AreIn
      (slot number count sort ∷ more)
      (h.Open number head ∷ (inside ++ h.Close ∷ rest))

-- one name or one node, in the field of that number, where that sort is
pub data IsIn : Sort → ℕ → List Item → Type 0 where
  name : {sort : Sort} {field : ℕ} {x : List ℕ} {ctxt : ℕ} {role : Role} →
      name_of sort ≡ Some role →
      IsIn sort field (h.Ident field x ctxt role ∷ [])
  node : {sort : Sort} {field : ℕ} {head : Head} {all : List Slot} {inside : List Item} →
      holds sort head ≡ Fields all →
      AreIn all inside →
      IsIn sort field (h.Open field head ∷ (inside ++ h.Close ∷ []))
  export_list : {sort : Sort} {field : ℕ} {head : Head} {source : Bool} {inside : List Item} →
      holds sort head ≡ Exports →
      ((behind : List Item) → has_source zero (inside ++ h.Close ∷ behind) ≡ source) →
      AreIn (export_slots source) inside →
      IsIn sort field (h.Open field head ∷ (inside ++ h.Close ∷ []))

-- one or none
pub data IsMaybe : Sort → ℕ → List Item → Type 0 where
  none : {sort : Sort} {field : ℕ} → IsMaybe sort field []
  some : {sort : Sort} {field : ℕ} {items : List Item} →
      IsIn sort field items →
      IsMaybe sort field items

-- each number
pub data AreEach : Sort → ℕ → List Item → Type 0 where
  ended : {sort : Sort} {field : ℕ} → AreEach sort field []
  next : {sort : Sort} {field : ℕ} {items rest : List Item} →
      IsIn sort field items →
      AreEach sort field rest →
      AreEach sort field (items ++ rest)

-- each number, and places that hold nothing
pub data ArePlaces : Sort → ℕ → List Item → Type 0 where
  closed : {sort : Sort} {field : ℕ} → ArePlaces sort field []
  empty : {sort : Sort} {field : ℕ} {rest : List Item} →
      ArePlaces sort field rest →
      ArePlaces sort field (h.Hole field ∷ rest)
  held : {sort : Sort} {field : ℕ} {items rest : List Item} →
      IsIn sort field items →
      ArePlaces sort field rest →
      ArePlaces sort field (items ++ rest)
