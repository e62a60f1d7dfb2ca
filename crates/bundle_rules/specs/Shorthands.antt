-- Shorthands: `{ x }` in an object literal or a pattern stands for `{ x: x }` (ECMA-262, 13.2.5 and
-- 14.3.3).
use Rattle.std.specs.Prelude.{ℕ, ◌+◌, Bool, true, false, not, List, [], Option, Some, None, slice_get}
use Rattle.bundle_syntax.specs.Item as h
use Rattle.bundle_syntax.specs.Item.{Item, Head}
use Rattle.bundle_rules.specs.Nodes.{Text, is_end}

-- whether a node ends here
abbrev pub ends_at : Option Item → Bool
ends_at None = false
ends_at (Some x) = is_end x

-- whether the shorthand property of a pattern that begins at this place has a default value
abbrev pub has_default : List Item → ℕ → Bool
has_default tree begins = not (ends_at (slice_get tree (begins + 4)))

-- whether such a node is a shorthand property of a pattern
abbrev pub is_shorthand_in_pattern : Head → Bool
is_shorthand_in_pattern h.AssignPatProp = true
is_shorthand_in_pattern _ = false

-- whether such a node is an object literal
abbrev pub is_object : Head → Bool
is_object h.ObjectLit = true
is_object _ = false

-- the symbol of an identifier
abbrev pub symbol_of : Option Item → Text
symbol_of (Some (h.Ident field sym ctxt role)) = sym
symbol_of _ = []
