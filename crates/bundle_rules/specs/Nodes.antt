-- The nodes of a tree's list: which lie directly in a node, in which field, and the texts that
-- stand there.
use Rattle.std.specs.Prelude.{◌≡◌, ℕ, zero, suc, Bool, true, false, not, List, [], ◌∷◌, ◌++◌, Option, Some, None, ◌==◌, filter, flat_map, bytes_eq, drop}
use Rattle.std.specs.List.{list_any}
use Rattle.bundle_syntax.specs.Item as h
use Rattle.bundle_syntax.specs.Item.{Item, Head}

-- a text, as its bytes
abbrev pub Text : Type 0
Text = List ℕ

-- whether the text is among these
abbrev pub has_text : Text → List Text → Bool
has_text x texts = list_any (bytes_eq x) texts

-- the texts in their order, each once, where it stands first
abbrev pub each_once : List Text → List Text
each_once [] = []
each_once (x ∷ rest) = x ∷ filter (λ y. not (bytes_eq x y)) (each_once rest)

-- the numbers in their order, each once, where it stands first
abbrev pub numbers_once : List ℕ → List ℕ
numbers_once [] = []
numbers_once (n ∷ rest) = n ∷ filter (λ m. not (n == m)) (numbers_once rest)

-- one more element in front of the first list
abbrev pub put_first : Item → List (List Item) → List (List Item)
put_first x [] = (x ∷ []) ∷ []
put_first x (xs ∷ more) = (x ∷ xs) ∷ more

-- the nodes that stand side by side, up to the end of the node around them; `depth` of them are
-- still open
abbrev pub side_by_side : ℕ → List Item → List (List Item)
side_by_side depth [] = []
side_by_side depth (h.Open field head ∷ rest) =
    put_first (h.Open field head) (side_by_side (suc depth) rest)
side_by_side zero (h.Ident field sym ctxt role ∷ rest) =
    (h.Ident field sym ctxt role ∷ []) ∷ side_by_side zero rest
side_by_side (suc depth) (h.Ident field sym ctxt role ∷ rest) =
    put_first (h.Ident field sym ctxt role) (side_by_side (suc depth) rest)
side_by_side zero (h.Hole field ∷ rest) = (h.Hole field ∷ []) ∷ side_by_side zero rest
side_by_side (suc depth) (h.Hole field ∷ rest) =
    put_first (h.Hole field) (side_by_side (suc depth) rest)
side_by_side zero (h.Close ∷ rest) = []
side_by_side (suc zero) (h.Close ∷ rest) = (h.Close ∷ []) ∷ side_by_side zero rest
side_by_side (suc (suc depth)) (h.Close ∷ rest) = put_first h.Close (side_by_side (suc depth) rest)

-- the nodes that lie directly in a node
abbrev pub parts : List Item → List (List Item)
parts [] = []
parts (first ∷ inside) = side_by_side zero inside

-- lists one after the other
abbrev pub flat : List (List Item) → List Item
flat lists = flat_map (λ list. list) lists

-- the list stands whole in the node around it: up to that node's end it is nodes side by side. So
-- no end stands in it that is none of theirs, and none of them is left open, which would take the
-- end behind them for its own
abbrev pub StandsWhole : List Item → Type 0
StandsWhole items = flat (side_by_side zero (items ++ h.Close ∷ [])) ≡ items

-- the list is that of a module: nothing stands behind its end
abbrev pub IsWholeModule : List Item → Type 0
IsWholeModule tree = tree ≡ h.Open 0 h.Module ∷ (flat (parts tree) ++ h.Close ∷ [])

-- all of the list but its last element
abbrev pub without_last : List Item → List Item
without_last [] = []
without_last (x ∷ []) = []
without_last (x ∷ y ∷ rest) = x ∷ without_last (y ∷ rest)

-- a node without its beginning and its end
abbrev pub inside : List Item → List Item
inside [] = []
inside (first ∷ rest) = without_last rest

-- whether this is an end
abbrev pub is_end : Item → Bool
is_end h.Close = true
is_end _ = false

-- the number of the field in which an element lies; an end lies in none
abbrev pub field_of : Item → Option ℕ
field_of (h.Open field head) = Some field
field_of (h.Ident field sym ctxt role) = Some field
field_of (h.Hole field) = Some field
field_of h.Close = None

-- whether a number is there, and is n
abbrev pub is_some_number : Option ℕ → ℕ → Bool
is_some_number None n = false
is_some_number (Some m) n = m == n

-- whether a list begins with an element of this field
abbrev pub begins_in : ℕ → List Item → Bool
begins_in n [] = false
begins_in n (x ∷ rest) = is_some_number (field_of x) n

-- the nodes that lie directly in a node, in this field
abbrev pub in_field : ℕ → List Item → List (List Item)
in_field n node = filter (begins_in n) (parts node)

-- the first node; the empty list where there is none
abbrev pub first_or_nothing : List (List Item) → List Item
first_or_nothing [] = []
first_or_nothing (node ∷ more) = node

-- the first of them; the empty list where there is none
abbrev pub child : ℕ → List Item → List Item
child n node = first_or_nothing (in_field n node)

-- the text of a string
abbrev pub head_string : Head → Option Text
head_string (h.Str value raw) = Some value
head_string _ = None

-- the text of a string or a word
abbrev pub head_word : Head → Option Text
head_word (h.Str value raw) = Some value
head_word (h.IdentName sym) = Some sym
head_word _ = None

-- the text of the string that the list begins with
abbrev pub string_of : List Item → Option Text
string_of (h.Open field head ∷ rest) = head_string head
string_of _ = None

-- the text of the name that the list begins with: an identifier, a word or a string
abbrev pub name_of : List Item → Option Text
name_of (h.Open field head ∷ rest) = head_word head
name_of (h.Ident field sym ctxt role ∷ rest) = Some sym
name_of _ = None

-- whether the list begins with a node whose head passes the test
abbrev pub begins_with : (Head → Bool) → List Item → Bool
begins_with test (h.Open field head ∷ rest) = test head
begins_with test _ = false

-- whether some node of the list has a head that passes the test
abbrev pub has_head : (Head → Bool) → List Item → Bool
has_head test [] = false
has_head test (h.Open field head ∷ rest) =
    elim (test head) [ true ↦ true | false ↦ has_head test rest ]
has_head test (x ∷ rest) = has_head test rest

-- the node that begins at a place of a tree
abbrev pub node_at : List Item → ℕ → List Item
node_at tree place = first_or_nothing (side_by_side zero (drop place tree))
