-- Places in the list of a tree, the nodes that are open at a place, and the identifiers that stand
-- there (ECMA-262, 8.2: which names a piece of source binds). A place is a position in the list,
-- which is that of a module or of a list of a module's items.
use Rattle.std.specs.Prelude.{ℕ, ◌+◌, Bool as Truth, true, false, List, [], ◌∷◌, Option, Some, None, take, fold, slice_get, option_and_then}
use Rattle.std.specs.List.{cons_option}
use Rattle.bundle_syntax.specs.declared.piece.Role.{Role}
use Rattle.bundle_syntax.specs.declared.piece.Role.TheVariants as r
use Rattle.bundle_syntax.specs.Item as h
use Rattle.bundle_syntax.specs.Item.{Item, Head}

-- a node that is open at a place: its head, the position where it begins, and in which of its
-- fields the place lies
pub record Around : Type 0 where
  pub head : Head
  pub begins : ℕ
  pub field : ℕ

-- a place, and the nodes that are open there, innermost first
pub record Spot : Type 0 where
  pub place : ℕ
  pub path : List Around

-- the path with this field of the innermost node
abbrev pub in_field : ℕ → List Around → List Around
in_field field [] = []
in_field field (node ∷ outer) = record node { field = field } ∷ outer

-- the path without the innermost node
abbrev pub outer_path : List Around → List Around
outer_path [] = []
outer_path (node ∷ outer) = outer

-- the path behind an item at this place: a node that begins lies in a field of the one around it
abbrev pub path_past : ℕ → List Around → Item → List Around
path_past place path (h.Open field head) =
    record { head = head; begins = place; field = 0 } ∷ in_field field path
path_past place path (h.Ident field sym ctxt role) = path
path_past place path (h.Hole field) = path
path_past place path h.Close = outer_path path

-- the spot behind the item at a spot
abbrev pub past : Spot → Item → Spot
past spot item = record { place = spot.place + 1; path = path_past spot.place spot.path item }

-- the first spot of a list
abbrev pub start : Spot
start = record { place = 0; path = [] }

-- the spot behind the items before a place
abbrev pub spot_before : List Item → ℕ → Spot
spot_before items place = fold past start (take place items)

-- the path as an item sees it, which lies in a field of the innermost node
abbrev pub path_to : List Around → Item → List Around
path_to path (h.Open field head) = in_field field path
path_to path (h.Ident field sym ctxt role) = in_field field path
path_to path (h.Hole field) = in_field field path
path_to path h.Close = path

-- what an item is told of the path
abbrev pub path_to_option : List Around → Option Item → List Around
path_to_option path None = path
path_to_option path (Some item) = path_to path item

-- the nodes that are open at a place, innermost first, each with the field in which the place lies
abbrev pub path_at : List Item → ℕ → List Around
path_at items place = path_to_option (spot_before items place).path (slice_get items place)

-- an identifier that binds a name or refers to one: where it stands, its symbol and context, which
-- of the two it does, and the nodes around it
pub record Occurrence : Type 0 where
  pub place : ℕ
  pub sym : List ℕ
  pub ctxt : ℕ
  pub role : Role
  pub path : List Around

-- the occurrence that an item at a spot is: a node is none, and neither is an identifier that is a
-- plain word
abbrev pub occurrence_of : Spot → Item → Option Occurrence
occurrence_of spot (h.Ident field sym ctxt r.Word) = None
occurrence_of spot (h.Ident field sym ctxt role) =
    Some
    (record {
      place = spot.place;
      sym = sym;
      ctxt = ctxt;
      role = role;
      path = in_field field spot.path;
    })
occurrence_of spot (h.Open field head) = None
occurrence_of spot (h.Hole field) = None
occurrence_of spot h.Close = None

-- the occurrence at a place
abbrev pub occurrence_at : List Item → ℕ → Option Occurrence
occurrence_at items place =
    option_and_then (occurrence_of (spot_before items place)) (slice_get items place)

-- the occurrences in the items from a spot on
abbrev pub occurrences_from : Spot → List Item → List Occurrence
occurrences_from spot [] = []
occurrences_from spot (item ∷ rest) =
    cons_option (occurrence_of spot item) (occurrences_from (past spot item) rest)

-- the occurrences of a list, in the order of the source
abbrev pub occurrences : List Item → List Occurrence
occurrences items = occurrences_from start items

-- whether a role binds a name
abbrev pub is_binding : Role → Truth
is_binding r.Binding = true
is_binding r.Reference = false
is_binding r.Word = false
