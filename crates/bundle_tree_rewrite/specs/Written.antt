-- The lists that are written around what an item states.
use Rattle.std.specs.Prelude.{ℕ, List, [], ◌∷◌, Option, Some, None}
use Rattle.bundle_syntax.specs.declared.ident.Ident as v_ident
use Rattle.bundle_syntax.specs.declared.kind.VarDeclKind.TheVariants as k
use Rattle.bundle_syntax.specs.declared.piece.Role.TheVariants as r
use Rattle.bundle_syntax.specs.Item as h
use Rattle.bundle_syntax.specs.Item.{Item}
use Rattle.bundle_rules.specs.Idents.{Ident}
use Rattle.bundle_tree_rebuild.specs.Becomes.{no_notes}

-- the name of a default function or class that has none of its own
abbrev pub default_name : Option v_ident.Ident → Ident → List Item
default_name (Some own) default = []
default_name None default = h.Ident 0 default.0 default.1 r.Binding ∷ []

-- the beginning of a declaration of a constant, up to its value
abbrev pub constant_front : Ident → List Item
constant_front name =
    h.Open 0 (h.VarDecl k.Const no_notes)
    ∷ h.Open 1 h.VarDeclarator
    ∷ h.Open 0 h.BindingIdent
    ∷ h.Ident 0 name.0 name.1 r.Binding
    ∷ h.Close
    ∷ []

-- an element in another field, and elements the first of which is
abbrev pub item_in_field : ℕ → Item → Item
item_in_field field (h.Open at head) = h.Open field head
item_in_field field (h.Ident at x ctxt role) = h.Ident field x ctxt role
item_in_field field (h.Hole at) = h.Hole field
item_in_field field h.Close = h.Close

abbrev pub with_field : ℕ → List Item → List Item
with_field field [] = []
with_field field (first ∷ rest) = item_in_field field first ∷ rest
