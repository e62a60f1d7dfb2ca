-- What is made of a tree by its list: its marks, its occurrences, and the same tree with other
-- identifiers. What a shorthand or a specifier of one name means is kept where its symbol changes,
-- by spelling it out (ECMA-262, 13.2.5 and B.3.1 for object literals, 14.3.3 for patterns, 16.2.2
-- and 16.2.3 for imports and exports).
use Rattle.std.specs.Prelude.{◌≡◌, ℕ, suc, ◌+◌, ◌==◌, ◌&&◌, ◌||◌, Bool, false, not, List, [], ◌∷◌, ◌++◌, Option, Some, None, length, map, flat_map, take, slice_get, bytes_eq, codes, option_map, unwrap_or, if◌then◌else◌}
use Rattle.std.specs.Map.{lookup}
use Rattle.bundle_syntax.specs.declared.piece.Role.{Role}
use Rattle.bundle_syntax.specs.declared.piece.Role.TheVariants.{Word as IsWord}
use Rattle.bundle_syntax.specs.Item as h
use Rattle.bundle_syntax.specs.Item.{Item, Head}
use Rattle.bundle_rules.specs.Places.{Around, path_at, occurrences, is_binding}
use Rattle.bundle_rules.specs.Nodes.{Text}
use Rattle.bundle_rules.specs.Shorthands.{ends_at, has_default, is_shorthand_in_pattern, is_object, symbol_of}
use Rattle.bundle_rules.specs.Shape.{is_specifier}
use Rattle.bundle_rules.specs.Idents.{Ident, ident_of, idents}

-- Marks.

-- one mark of a tree: a node begins in a field, a plain word too; the innermost open one ends; an
-- identifier binds or refers
pub data TreeMark : Type 0 where
  Begins : (field : ℕ) → Head → TreeMark
  BeginsWord : (field : ℕ) → Text → TreeMark
  Ends : TreeMark
  Occurs : Ident → (binds : Bool) → TreeMark

-- the marks of an identifier
abbrev pub marks_of_name : ℕ → Ident → Role → List TreeMark
marks_of_name field ident IsWord = BeginsWord field ident.0 ∷ Ends ∷ []
marks_of_name field ident role = Occurs ident (is_binding role) ∷ []

-- the marks of an element; an empty place of a list is no node
abbrev pub marks_of_item : Item → List TreeMark
marks_of_item (h.Open field head) = Begins field head ∷ []
marks_of_item (h.Ident field sym ctxt role) = marks_of_name field (sym, ctxt) role
marks_of_item (h.Hole field) = []
marks_of_item h.Close = Ends ∷ []

-- the marks of a tree, in its order
abbrev pub marks_of : List Item → List TreeMark
marks_of tree = flat_map marks_of_item tree

-- an identifier, and whether it binds
abbrev pub Listed : Type 0
Listed = Ident × Bool

-- the identifiers that bind or refer, in the order of the tree
abbrev pub listed : List Item → List Listed
listed tree = map (λ o. (ident_of o, is_binding o.role)) (occurrences tree)

-- those among some marks
abbrev pub listed_in : List TreeMark → List Listed
listed_in [] = []
listed_in (Occurs ident binds ∷ rest) = (ident, binds) ∷ listed_in rest
listed_in (Begins field head ∷ rest) = listed_in rest
listed_in (BeginsWord field x ∷ rest) = listed_in rest
listed_in (Ends ∷ rest) = listed_in rest

-- Other identifiers.

-- an identifier that is to stand in the place of another, and whether what is short there is
-- spelled out
pub record Change : Type 0 where
  pub ident : Ident
  pub is_spelled_out : Bool

-- of the changes of the occurrences in turn, that of the occurrence at a place
abbrev pub change_at : List Item → List Change → ℕ → Option Change
change_at tree changes place = slice_get changes (length (occurrences (take place tree)))

-- whether something is spelled out
abbrev pub spells_out : Option Change → Bool
spells_out None = false
spells_out (Some change) = change.is_spelled_out

-- whether the shorthand property of a pattern that begins at this place is spelled out
abbrev pub is_key_spelled_out : List Item → List Change → ℕ → Bool
is_key_spelled_out tree changes begins = spells_out (change_at tree changes (begins + 2))

-- a plain key
abbrev pub plain_key : Text → List Item
plain_key x = h.Open 0 (h.IdentName x) ∷ h.Close ∷ []

-- the key that a shorthand of an object literal is spelled out with; a plain `__proto__` would set
-- the prototype
abbrev pub key_in_object : Text → List Item
key_in_object x =
    if bytes_eq x (codes "__proto__")
    then h.Open 0 h.ComputedPropName ∷ h.Open 0 (h.Str x None) ∷ h.Close ∷ h.Close ∷ []
    else plain_key x

-- the beginning of a shorthand property of a pattern, spelled out: `{ x }` is `{ x: y }`, and `{ x
-- = e }` is `{ x: y = e }`
abbrev pub pattern_front : ℕ → Text → (with_default : Bool) → List Item
pattern_front field x with_default =
    h.Open field h.KeyValuePatProp
    ∷ (plain_key x ++ (if with_default then h.Open 1 h.AssignPat ∷ [] else []))

-- the beginning of a node
abbrev pub new_begin : List Item → List Change → ℕ → ℕ → List Around → Head → List Item
new_begin tree changes place field around h.AssignPatProp =
    if is_key_spelled_out tree changes place
    then pattern_front field (symbol_of (slice_get tree (place + 2))) (has_default tree place)
    else h.Open field h.AssignPatProp ∷ []
new_begin tree changes place field [] head = h.Open field head ∷ []
new_begin tree changes place field (node ∷ outer) head =
    if is_shorthand_in_pattern node.head && node.field == 0
    && is_key_spelled_out tree changes node.begins
    then h.Open (if has_default tree node.begins then 0 else 1) head ∷ []
    else h.Open field head ∷ []

-- the end of a node: with a property that is spelled out its default ends too
abbrev pub new_end : List Item → List Change → List Around → List Item
new_end tree changes [] = h.Close ∷ []
new_end tree changes (node ∷ outer) =
    if is_shorthand_in_pattern node.head && has_default tree node.begins
    && is_key_spelled_out tree changes node.begins
    then h.Close ∷ h.Close ∷ []
    else h.Close ∷ []

-- in the place of `x`, directly in such a node: a shorthand of an object literal is spelled out as
-- a pair, and a specifier that has no other name gets one; `is_last` says whether the node ends
-- behind it
abbrev pub spelled_out : ℕ → Head → (is_last : Bool) → Text → Role → Ident → List Item
spelled_out field head is_last x role ident =
    if is_object head
    then h.Open field h.KeyValueProp
    ∷ (key_in_object x ++ h.Ident 1 ident.0 ident.1 role ∷ h.Close ∷ [])
    else (if is_specifier head && is_last
    then h.Ident field ident.0 ident.1 role ∷ h.Ident 1 x 0 IsWord ∷ []
    else h.Ident field ident.0 ident.1 role ∷ [])

-- the same, where perhaps nothing is spelled out
abbrev pub new_name : ℕ → List Around → (is_last : Bool) → Text → Role → Change → List Item
new_name field [] is_last x role change = h.Ident field change.ident.0 change.ident.1 role ∷ []
new_name field (node ∷ outer) is_last x role change =
    if change.is_spelled_out
    then spelled_out field node.head is_last x role change.ident
    else h.Ident field change.ident.0 change.ident.1 role ∷ []

-- an occurrence, where perhaps it changes
abbrev pub new_occurrence :
    ℕ → List Around → (is_last : Bool) → Text → ℕ → Role → Option Change → List Item
new_occurrence field around is_last x ctxt role None = h.Ident field x ctxt role ∷ []
new_occurrence field around is_last x ctxt role (Some change) =
    new_name field around is_last x role change

-- what stands in the place of an element of the tree
abbrev pub new_item : List Item → List Change → ℕ → List Around → Item → List Item
new_item tree changes place around (h.Open field head) =
    new_begin tree changes place field around head
new_item tree changes place around (h.Ident field sym ctxt IsWord) =
    h.Ident field sym ctxt IsWord ∷ []
new_item tree changes place around (h.Ident field sym ctxt role) =
    new_occurrence field around (ends_at (slice_get tree (suc place))) sym ctxt role
    (change_at tree changes place)
new_item tree changes place around (h.Hole field) = h.Hole field ∷ []
new_item tree changes place around h.Close = new_end tree changes around

-- the same of the elements from this place on
abbrev pub rebuilt_from : List Item → List Change → ℕ → List Item → List Item
rebuilt_from tree changes place [] = []
rebuilt_from tree changes place (x ∷ rest) =
    new_item tree changes place (path_at tree place) x ++ rebuilt_from tree changes (suc place) rest

-- the tree with these changes of its occurrences in turn, and no other but what is spelled out
abbrev pub rebuilt : List Item → List Change → List Item
rebuilt tree changes = rebuilt_from tree changes 0 tree

-- an identifier becomes another; what is short is spelled out exactly where the symbol changes
abbrev pub change_to : Ident → Ident → Change
change_to old new = record { ident = new; is_spelled_out = not (bytes_eq old.0 new.0) }

-- the same of identifiers in turn
abbrev pub changes_to : List Ident → List Ident → List Change
changes_to (old ∷ olds) (new ∷ news) = change_to old new ∷ changes_to olds news
changes_to [] news = []
changes_to olds [] = []

-- the tree with these identifiers at its occurrences in turn; nothing else changes but what is
-- spelled out
abbrev pub with_idents : List Item → List Ident → List Item
with_idents tree new = rebuilt tree (changes_to (idents tree) new)

-- the tree with each identifier mapped
abbrev pub renamed : (Ident → Ident) → List Item → List Item
renamed becomes tree = with_idents tree (map becomes (idents tree))

-- whether two identifiers are the same
abbrev pub ident_eq : Ident → Ident → Bool
ident_eq a b = bytes_eq a.0 b.0 && a.1 == b.1

-- what an identifier becomes by a map; one that is not in it stays
abbrev pub becomes_by : List (Ident × Ident) → Ident → Ident
becomes_by pairs ident = unwrap_or (lookup (ident_eq ident) pairs) ident

-- the tree with each identifier mapped by a list of pairs
abbrev pub renamed_by : List (Ident × Ident) → List Item → List Item
renamed_by pairs tree = renamed (becomes_by pairs) tree

-- a copy of a tree has the same list
abbrev pub IsCopy : List Item → List Item → Type 0
IsCopy before after = after ≡ before

-- One renaming after the other.

-- a renaming: what identifiers become, and for each whether some step changed its symbol; the first
-- pair of an identifier counts
abbrev pub Renaming : Type 0
Renaming = List (Ident × Change)

-- what an identifier becomes; one that is not in it stays
abbrev pub change_by : Renaming → Ident → Change
change_by renaming ident =
    unwrap_or (lookup (ident_eq ident) renaming) (record { ident = ident; is_spelled_out = false })

-- what is found for an identifier
abbrev pub found : Renaming → Ident → Option Ident
found renaming ident = option_map (λ change. change.ident) (lookup (ident_eq ident) renaming)

-- the renaming with one more pair, in the place of an earlier one
abbrev pub with_pair : Renaming → Ident → Ident → Renaming
with_pair renaming from to = (from, change_to from to) ∷ renaming

-- the tree renamed: what is short is spelled out where some step changed the symbol
abbrev pub renamed_all : Renaming → List Item → List Item
renamed_all renaming tree = rebuilt tree (map (change_by renaming) (idents tree))

-- a change, and then what a renaming makes of it
abbrev pub change_then : Renaming → Change → Change
change_then renaming change =
    let next : Change = change_by renaming change.ident in
    record { ident = next.ident; is_spelled_out = change.is_spelled_out || next.is_spelled_out }

-- one renaming after the other
abbrev pub followed_by : Renaming → Renaming → Renaming
followed_by first second = map (λ pair. (pair.0, change_then second pair.1)) first ++ second

-- the law: to rename a tree by one and then by the other is to rename it by both
abbrev pub RenamingsCompose : Renaming → Renaming → List Item → Type 0
RenamingsCompose first second tree =
    renamed_all second (renamed_all first tree) ≡ renamed_all (followed_by first second) tree
