-- A tree as marks, in which something else stands in the place of each name, and shorthands are
-- spelled out (ECMA-262, 13.2.5 and B.3.1 for object literals, 14.3.3 for patterns). Contexts and
-- notes are left out.
use Rattle.std.specs.Prelude.{ℕ, ◌+◌, ◌==◌, ◌&&◌, Bool, List, [], ◌∷◌, ◌++◌, None, slice_get, bytes_eq, codes, if◌then◌else◌}
use Rattle.bundle_syntax.specs.Item as h
use Rattle.bundle_syntax.specs.Item.{Item, Head}
use Rattle.bundle_rules.specs.Places.{Around}
use Rattle.bundle_rules.specs.Nodes.{Text}
use Rattle.bundle_rules.specs.Shorthands.{has_default, is_shorthand_in_pattern, is_object, symbol_of}
use Rattle.bundle_rules.specs.Cleared.{cleared_head}

-- one element of such a tree: a node begins in a field, or ends; a place of a list is empty; what
-- stands in the place of a name; a plain word
pub data MarkOf (N : Type 0) : Type 0 where
  Begins : ℕ → Head → MarkOf N
  Ends : MarkOf N
  Empty : ℕ → MarkOf N
  Name : ℕ → N → MarkOf N
  Word : ℕ → Text → MarkOf N

-- a plain key
abbrev pub word_key : {N : Type 0} → Text → List (MarkOf N)
word_key x = Begins 0 (h.IdentName x) ∷ Ends ∷ []

-- a computed key
abbrev pub computed_key : {N : Type 0} → Text → List (MarkOf N)
computed_key x = Begins 0 h.ComputedPropName ∷ Begins 0 (h.Str x None) ∷ Ends ∷ Ends ∷ []

-- the key that a shorthand of an object literal is spelled out with; a plain `__proto__` would set
-- the prototype
abbrev pub object_key : {N : Type 0} → Text → List (MarkOf N)
object_key x = if bytes_eq x (codes "__proto__") then computed_key x else word_key x

-- the beginning of a node
abbrev pub begin_marks : {N : Type 0} → List Item → ℕ → ℕ → List Around → Head → List (MarkOf N)
begin_marks tree place field around h.AssignPatProp =
    Begins field h.KeyValuePatProp
    ∷ (word_key (symbol_of (slice_get tree (place + 2)))
    ++ (if has_default tree place then Begins 1 h.AssignPat ∷ [] else []))
begin_marks tree place field [] head = Begins field (cleared_head head) ∷ []
begin_marks tree place field (node ∷ outer) head =
    Begins
    (if is_shorthand_in_pattern node.head && is_key node.field
    then (if has_default tree node.begins then 0 else 1)
    else field) (cleared_head head) ∷ []
  where
    is_key : ℕ → Bool
    is_key n = n == 0

-- the end of a node: with the shorthand property of a pattern its default ends too
abbrev pub end_marks : {N : Type 0} → List Item → List Around → List (MarkOf N)
end_marks tree [] = Ends ∷ []
end_marks tree (node ∷ outer) =
    if is_shorthand_in_pattern node.head && has_default tree node.begins
    then Ends ∷ Ends ∷ []
    else Ends ∷ []

-- a name
abbrev pub name_marks : {N : Type 0} → ℕ → List Around → Text → N → List (MarkOf N)
name_marks field [] x meant = Name field meant ∷ []
name_marks field (node ∷ outer) x meant =
    if is_object node.head
    then Begins field h.KeyValueProp ∷ (object_key x ++ Name 1 meant ∷ Ends ∷ [])
    else Name field meant ∷ []
