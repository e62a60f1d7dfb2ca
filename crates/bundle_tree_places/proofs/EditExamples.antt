-- Worked examples of `Edits`: a list beside what it becomes. The change is to `y` with context 7.
use Rattle.std.proofs.Common.{◌≡◌, refl, ℕ, List, [], ◌∷◌, ◌++◌, Bool, true, false, None, codes}
use Rattle.bundle_syntax.specs.Item as h
use Rattle.bundle_syntax.specs.Item.{Item}
use Rattle.bundle_syntax.specs.declared.piece.Role.{Role}
use Rattle.bundle_syntax.specs.declared.piece.Role.TheVariants as r
use Rattle.bundle_rules.specs.Rebuilds.{Change}
use Rattle.bundle_tree_places.specs.Edits.{Anywhere, InObject, InSpecifier, Edits, Nothing, Joined, Hole, Word, Name, Inside, Shorthand, node, is_plain}

-- one change to `y`
abbrev to_y : (is_spelled_out : Bool) → List Change
to_y is_spelled_out = record { ident = (codes "y", 7); is_spelled_out = is_spelled_out } ∷ []

-- the name `x`, and the name `y` in a field
abbrev x : Role → List Item
x role = h.Ident 0 (codes "x") 3 role ∷ []

abbrev y : ℕ → Role → List Item
y field role = h.Ident field (codes "y") 7 role ∷ []

-- the key `x`
abbrev key_x : List Item
key_x = node 0 (h.IdentName (codes "x")) []

-- Shorthands of object literals.

-- `({ x })` is `({ x: y })`
object_pair : Edits Anywhere (to_y true) (node 0 h.ObjectLit (x r.Reference)) (node 0 h.ObjectLit (node 0 h.KeyValueProp (key_x ++ y 1 r.Reference))) []
object_pair = Inside 0 h.ObjectLit refl (Name InObject 0 (codes "x") 3 r.Reference refl)

-- `({ __proto__ })` is `({ ["__proto__"]: y })`
computed_pair : Edits Anywhere (to_y true) (node 0 h.ObjectLit (h.Ident 0 (codes "__proto__") 3 r.Reference ∷ [])) (node 0 h.ObjectLit (node 0 h.KeyValueProp (node 0 h.ComputedPropName (node 0 (h.Str (codes "__proto__") None) []) ++ y 1 r.Reference))) []
computed_pair = Inside 0 h.ObjectLit refl (Name InObject 0 (codes "__proto__") 3 r.Reference refl)

-- `({ x })` stays short where the change does not spell out
object_stays : Edits Anywhere (to_y false) (node 0 h.ObjectLit (x r.Reference)) (node 0 h.ObjectLit (y 0 r.Reference)) []
object_stays = Inside 0 h.ObjectLit refl (Name InObject 0 (codes "x") 3 r.Reference refl)

-- Shorthands of patterns.

-- the pattern `{ x }` is `{ x: y }`
pattern_pair : Edits Anywhere (to_y true) (node 0 h.AssignPatProp (node 0 h.BindingIdent (x r.Binding))) (node 0 h.KeyValuePatProp (key_x ++ node 1 h.BindingIdent (y 0 r.Binding))) []
pattern_pair = Shorthand 0 (codes "x") 3 r.Binding refl Nothing

-- the pattern `{ x = this }` is `{ x: y = this }`
default_kept : Edits Anywhere (to_y true) (node 0 h.AssignPatProp (node 0 h.BindingIdent (x r.Binding) ++ node 1 h.ThisExpr [])) (node 0 h.KeyValuePatProp (key_x ++ node 1 h.AssignPat (node 0 h.BindingIdent (y 0 r.Binding) ++ node 1 h.ThisExpr []))) []
default_kept = Shorthand 0 (codes "x") 3 r.Binding refl (Inside 1 h.ThisExpr refl Nothing)

-- it is no plain node, so it is not edited as one
pattern_is_not_plain : is_plain h.AssignPatProp (node 0 h.BindingIdent (x r.Binding)) ≡ false
pattern_is_not_plain = refl

-- Specifiers.

-- `import { x }` is `import { x as y }`: the local name stands first
import_named : Edits Anywhere (to_y true) (node 0 h.ImportNamedSpecifier (x r.Binding)) (node 0 h.ImportNamedSpecifier (y 0 r.Binding ++ h.Ident 1 (codes "x") 0 r.Word ∷ [])) []
import_named = Inside 0 h.ImportNamedSpecifier refl (Name InSpecifier 0 (codes "x") 3 r.Binding refl)

-- `export { x as z }` is `export { y as z }`
export_renamed : Edits Anywhere (to_y true) (node 0 h.ExportNamedSpecifier (x r.Reference ++ h.Ident 1 (codes "z") 0 r.Word ∷ [])) (node 0 h.ExportNamedSpecifier (y 0 r.Reference ++ h.Ident 1 (codes "z") 0 r.Word ∷ [])) []
export_renamed = Inside 0 h.ExportNamedSpecifier refl (Joined (Name Anywhere 0 (codes "x") 3 r.Reference refl) (Word 1 (codes "z") 0 r.Word refl))

-- a specifier whose second name is an occurrence is no plain node
second_name_occurs : is_plain h.ExportNamedSpecifier (x r.Reference ++ y 1 r.Reference) ≡ false
second_name_occurs = refl

-- Changes in turn.

-- `x` stays where no change is left
none_left : Edits Anywhere [] (x r.Reference) (x r.Reference) []
none_left = Name Anywhere 0 (codes "x") 3 r.Reference refl

-- in `[x, , x]` the first `x` takes the change, and none is left for the other
taken_in_turn : Edits Anywhere (to_y true) (x r.Reference ++ (h.Hole 0 ∷ x r.Reference)) (y 0 r.Reference ++ (h.Hole 0 ∷ x r.Reference)) []
taken_in_turn = Joined (Name Anywhere 0 (codes "x") 3 r.Reference refl) (Joined (Hole 0) (Name Anywhere 0 (codes "x") 3 r.Reference refl))
