-- How a list is taken from its front, place by place: what is left of it, where it begins with what
-- stands there.
use Rattle.std.specs.Prelude.{ℕ, zero, suc, Bool, true, false, cond, ◌&&◌, List, [], ◌∷◌, length, Option, Some, None, nat_eq}
use Rattle.bundle_syntax.specs.declared.piece.Role.{Role}
use Rattle.bundle_syntax.specs.declared.piece.Role.TheVariants as r
use Rattle.bundle_syntax.specs.Item as h
use Rattle.bundle_syntax.specs.Item.{Item, Head}
use Rattle.bundle_tree_parse.specs.Sorts.{Sort, AString, AnExport, One, Optional, Many, Places, Slot, slot, Holding, Refused, Fields, Exports, name_of, holds}

-- what one place takes from a list
abbrev pub Taker : Type 0
Taker = Sort → ℕ → List Item → Option (List Item)

abbrev pub same_role : Role → Role → Bool
same_role r.Binding r.Binding = true
same_role r.Reference r.Reference = true
same_role r.Word r.Word = true
same_role _ _ = false

-- a node that begins: its head, and the list inside and after it
pub record Opening : Type 0 where
  pub head : Head
  pub inside : List Item

-- the node with which the list begins, if it is in this field
abbrev pub opened : ℕ → List Item → Option Opening
opened field (h.Open at head ∷ rest) =
    cond (nat_eq at field) (Some (record { head = head; inside = rest })) None
opened field _ = None

-- whether the list begins in this field
abbrev pub begins_in : ℕ → List Item → Bool
begins_in field (h.Open at head ∷ rest) = nat_eq at field
begins_in field (h.Ident at sym ctxt role ∷ rest) = nat_eq at field
begins_in field (h.Hole at ∷ rest) = nat_eq at field
begins_in field _ = false

abbrev pub begins_with_ident : List Item → Bool
begins_with_ident (h.Ident at sym ctxt role ∷ rest) = true
begins_with_ident _ = false

abbrev pub begins_with_hole : List Item → Bool
begins_with_hole (h.Hole at ∷ rest) = true
begins_with_hole _ = false

-- a name in this field, of this role
abbrev pub after_ident : Role → ℕ → List Item → Option (List Item)
after_ident role field (h.Ident at sym ctxt found ∷ rest) =
    cond (nat_eq at field && same_role found role) (Some rest) None
after_ident role field _ = None

abbrev pub after_name : Option Role → ℕ → List Item → Option (List Item)
after_name None field list = None
after_name (Some role) field list = after_ident role field list

abbrev pub after_hole : ℕ → List Item → Option (List Item)
after_hole field (h.Hole at ∷ rest) = cond (nat_eq at field) (Some rest) None
after_hole field _ = None

-- the end of a node
abbrev pub after_close : List Item → Option (List Item)
after_close (h.Close ∷ rest) = Some rest
after_close _ = None

abbrev pub closed : Option (List Item) → Option (List Item)
closed None = None
closed (Some list) = after_close list

abbrev pub then : (List Item → Option (List Item)) → Option (List Item) → Option (List Item)
then more None = None
then more (Some list) = more list

-- one or none
abbrev pub after_maybe : (List Item → Option (List Item)) → ℕ → List Item → Option (List Item)
after_maybe one field list = cond (begins_in field list) (one list) (Some list)

-- as many as there are, up to a number
abbrev pub after_each : (List Item → Option (List Item)) → ℕ → ℕ → List Item → Option (List Item)
after_each one field zero list = Some list
after_each one field (suc most) list =
    cond (begins_in field list) (then (after_each one field most) (one list)) (Some list)

-- a place that may hold nothing
abbrev pub after_place : (List Item → Option (List Item)) → ℕ → List Item → Option (List Item)
after_place one field list = cond (begins_with_hole list) (after_hole field list) (one list)

abbrev pub after_slot : Taker → Slot → List Item → Option (List Item)
after_slot taker (slot field One sort) list = taker sort field list
after_slot taker (slot field Optional sort) list = after_maybe (taker sort field) field list
after_slot taker (slot field Many sort) list =
    after_each (taker sort field) field (length list) list
after_slot taker (slot field Places sort) list =
    after_each (after_place (taker sort field) field) field (length list) list

abbrev pub after_slots : Taker → List Slot → List Item → Option (List Item)
after_slots taker [] list = Some list
after_slots taker (it ∷ more) list = then (after_slots taker more) (after_slot taker it list)

abbrev pub is_zero : ℕ → Bool
is_zero zero = true
is_zero (suc _) = false

-- one node less deep
abbrev pub outwards : ℕ → ℕ
outwards zero = zero
outwards (suc depth) = depth

-- whether the source of the export list that is open, in field 1, begins here, so many nodes deep
abbrev pub is_source : ℕ → Item → Bool
is_source depth (h.Open at head) = is_zero depth && nat_eq at 1
is_source depth _ = false

-- whether the node around ends here
abbrev pub is_end : ℕ → Item → Bool
is_end depth h.Close = is_zero depth
is_end depth _ = false

-- how many nodes deep what follows is
abbrev pub depth_behind : ℕ → Item → ℕ
depth_behind depth (h.Open at head) = suc depth
depth_behind depth h.Close = outwards depth
depth_behind depth _ = depth

-- whether a source comes in the export list that is open, so many nodes deep
abbrev pub has_source : ℕ → List Item → Bool
has_source depth [] = false
has_source depth (item ∷ rest) =
    cond (is_source depth item) true
    (cond (is_end depth item) false (has_source (depth_behind depth item) rest))

abbrev pub export_slots : Bool → List Slot
export_slots true = slot 0 Many (AnExport r.Word) ∷ slot 1 One AString ∷ []
export_slots false = slot 0 Many (AnExport r.Reference) ∷ []

-- what is inside of a node
abbrev pub after_inside : Taker → Holding → List Item → Option (List Item)
after_inside taker Refused list = None
after_inside taker (Fields all) list = after_slots taker all list
after_inside taker Exports list = after_slots taker (export_slots (has_source zero list)) list

-- what is inside of a node and its end; only where there is room for a further node
abbrev pub after_node : Option Taker → Holding → List Item → Option (List Item)
after_node None held list = None
after_node (Some taker) held list = closed (after_inside taker held list)

abbrev pub after_opening : Option Taker → Sort → ℕ → List Item → Option Opening → Option (List Item)
after_opening room sort field list None = after_name (name_of sort) field list
after_opening room sort field list (Some node) = after_node room (holds sort node.head) node.inside

-- one place
unfoldable pub after_one : Option Taker → Taker
after_one room sort field list = after_opening room sort field list (opened field list)

-- what the places inside of a node take, where so many nodes may be open at once
abbrev pub within : ℕ → Option Taker
within zero = None
within (suc room) = Some (after_one (within room))

-- what is left of a list behind what stands in a place; none where it does not begin with it
abbrev pub taken : ℕ → Taker
taken room = after_one (within room)
