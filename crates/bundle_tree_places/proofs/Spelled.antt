-- What stands in the place of an element, by what the innermost open node asks of what stands directly in it.
use Rattle.std.specs.Prelude.{ℕ, ◌==◌, ◌&&◌, Bool, true, List, [], ◌∷◌, ◌++◌, Option, Some, None, if◌then◌else◌}
use Rattle.bundle_syntax.specs.declared.piece.Role.{Role}
use Rattle.bundle_syntax.specs.declared.piece.Role.TheVariants.{Word as IsWord}
use Rattle.bundle_syntax.specs.Item as h
use Rattle.bundle_syntax.specs.Item.{Item, Head}
use Rattle.bundle_rules.specs.Nodes.{Text}
use Rattle.bundle_rules.specs.Idents.{Ident}
use Rattle.bundle_rules.specs.Meaning.{is_object, is_shorthand_in_pattern}
use Rattle.bundle_rules.specs.Shape.{is_specifier}
use Rattle.bundle_rules.specs.Rebuilds.{Change, key_in_object, pattern_front}

-- what the innermost open node asks of what stands directly in it
pub data Around : Type 0 where
  -- a name in an object literal is a shorthand
  Object : Around
  -- the last name in an import or export specifier has no other beside it
  Specifier : Around
  -- a shorthand property of a pattern is spelled out
  Property : (has_default : Bool) → Around
  -- another node, or none
  Other : Around

-- what such a node asks, if it is spelled out and has a default where it is a shorthand property of a pattern
abbrev pub around_of : Head → (is_spelled_out has_default : Bool) → Around
around_of head is_spelled_out has_default =
    if is_shorthand_in_pattern head && is_spelled_out
    then Property has_default
    else (if is_object head then Object else (if is_specifier head then Specifier else Other))

-- the field of a node: a pattern is the value of its pair, or stands first in what gives it a default
abbrev pub field_in : Around → ℕ → ℕ
field_in (Property has_default) field = if field == 0 then (if has_default then 0 else 1) else field
field_in _ field = field

-- the beginning of a shorthand property of a pattern with this key
abbrev pub pattern_begin : Around → ℕ → Text → List Item
pattern_begin (Property has_default) field key = pattern_front field key has_default
pattern_begin _ field key = h.Open field h.AssignPatProp ∷ []

-- the beginning of a node that asks `inner`
abbrev pub begun_in : Around → (inner : Around) → ℕ → Head → (key : Text) → List Item
begun_in around inner field h.AssignPatProp key = pattern_begin inner field key
begun_in around inner field head key = h.Open (field_in around field) head ∷ []

-- the end of a node
abbrev pub ended_in : Around → List Item
ended_in (Property true) = h.Close ∷ h.Close ∷ []
ended_in _ = h.Close ∷ []

-- a computed key
abbrev pub computed_key : Text → List Item
computed_key x = h.Open 0 h.ComputedPropName ∷ h.Open 0 (h.Str x None) ∷ h.Close ∷ h.Close ∷ []

-- a shorthand of an object literal as a pair
abbrev pub pair_of : ℕ → Text → Ident → Role → List Item
pair_of field key ident role = h.Open field h.KeyValueProp ∷ (key_in_object key ++ h.Ident 1 ident.0 ident.1 role ∷ h.Close ∷ [])

-- an identifier in the place of `x`, spelled out
abbrev pub spelled_in : Around → ℕ → (is_last : Bool) → (x : Text) → Role → Ident → List Item
spelled_in Object field is_last x role ident = pair_of field x ident role
spelled_in Specifier field is_last x role ident =
    if is_last
    then h.Ident field ident.0 ident.1 role ∷ h.Ident 1 x 0 IsWord ∷ []
    else h.Ident field ident.0 ident.1 role ∷ []
spelled_in _ field is_last x role ident = h.Ident field ident.0 ident.1 role ∷ []

-- an identifier that perhaps changes
abbrev pub named_in : Around → ℕ → (is_last : Bool) → Ident → Role → Option Change → List Item
named_in around field is_last old role None = h.Ident field old.0 old.1 role ∷ []
named_in around field is_last old role (Some change) =
    if change.is_spelled_out
    then spelled_in around field is_last old.0 role change.ident
    else h.Ident field change.ident.0 change.ident.1 role ∷ []
