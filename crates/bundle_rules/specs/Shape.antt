-- A tree without its names: its form, whatever its identifiers are. A shorthand whose symbol
-- changes is spelled out (ECMA-262, 13.2.5 and 14.3.3), and so is an import or export specifier of
-- one name (16.2.2 and 16.2.3); so shapes are spelled out throughout.
use Rattle.std.specs.Prelude.{ℕ, suc, ◌+◌, ◌==◌, ◌&&◌, Bool, true, false, List, [], ◌∷◌, ◌++◌, slice_get, if◌then◌else◌}
use Rattle.bundle_syntax.specs.declared.piece.Role.{Role}
use Rattle.bundle_syntax.specs.declared.piece.Role.TheVariants.{Binding, Reference, Word as IsWord}
use Rattle.bundle_syntax.specs.Item as h
use Rattle.bundle_syntax.specs.Item.{Item, Head}
use Rattle.bundle_rules.specs.Places.{Around, path_at}
use Rattle.bundle_rules.specs.Nodes.{Text}
use Rattle.bundle_rules.specs.Shorthands.{symbol_of}
use Rattle.bundle_rules.specs.Marks.{MarkOf, Empty, Word, begin_marks, end_marks, name_marks}

-- one element of a shape: in the place of a name stands nothing
abbrev pub Outline : Type 0
Outline = MarkOf (Unit {0})

-- whether such a node names an import or an export
abbrev pub is_specifier : Head → Bool
is_specifier h.ImportNamedSpecifier = true
is_specifier h.ExportNamedSpecifier = true
is_specifier _ = false

-- the second name of a specifier that has but one and ends at this place
abbrev pub second_name : List Item → ℕ → List Around → List Outline
second_name tree place [] = []
second_name tree place (node ∷ outer) =
    if is_specifier node.head && place == node.begins + 2
    then Word 1 (symbol_of (slice_get tree (node.begins + 1))) ∷ []
    else []

-- a name is left out; a plain word stays
abbrev pub shape_of_name : ℕ → List Around → Text → Role → List Outline
shape_of_name field around x IsWord = Word field x ∷ []
shape_of_name field around x Binding = name_marks field around x tt
shape_of_name field around x Reference = name_marks field around x tt

-- the shape of one element
abbrev pub shape_at : List Item → ℕ → List Around → Item → List Outline
shape_at tree place around (h.Open field head) = begin_marks tree place field around head
shape_at tree place around (h.Ident field sym ctxt role) = shape_of_name field around sym role
shape_at tree place around (h.Hole field) = Empty field ∷ []
shape_at tree place around h.Close = second_name tree place around ++ end_marks tree around

-- the shape of the elements from this place on
abbrev pub shape_from : List Item → ℕ → List Item → List Outline
shape_from tree place [] = []
shape_from tree place (x ∷ rest) =
    shape_at tree place (path_at tree place) x ++ shape_from tree (suc place) rest

-- the tree without its names
abbrev pub shape : List Item → List Outline
shape tree = shape_from tree 0 tree
