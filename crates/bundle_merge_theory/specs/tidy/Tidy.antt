-- Lists of elements with nothing noted and with no contexts but those of names, and lists of which
-- a walk makes such ones.
use Rattle.std.specs.Prelude.{◌≡◌, ⊤, Bool, true, false, List, [], ◌∷◌}
use Rattle.bundle_syntax.specs.Item as h
use Rattle.bundle_syntax.specs.Item.{Item, Head}
use Rattle.bundle_tree_places.specs.Edits.{is_occurrence}
use Rattle.bundle_rules.specs.Cleared.{tidy_item}

-- each element is tidy
abbrev pub AreTidy : List Item → Type 0
AreTidy [] = ⊤
AreTidy (x ∷ rest) = (tidy_item x ≡ x) × AreTidy rest

-- whether a node is an import or an export with notes of its own
abbrev pub is_noted_head : Head → Bool
is_noted_head (h.ImportDecl meta) = true
is_noted_head (h.NamedExport meta) = true
is_noted_head (h.ExportAll meta) = true
is_noted_head head = false

-- a walk makes this element tidy: it is no such node, and no plain word that is an identifier
abbrev pub IsTidyItem : Item → Type 0
IsTidyItem (h.Open field head) = is_noted_head head ≡ false
IsTidyItem (h.Ident field x ctxt role) = is_occurrence role ≡ true
IsTidyItem (h.Hole field) = ⊤
IsTidyItem h.Close = ⊤

-- each element is such
abbrev pub AreClean : List Item → Type 0
AreClean [] = ⊤
AreClean (x ∷ rest) = IsTidyItem x × AreClean rest
