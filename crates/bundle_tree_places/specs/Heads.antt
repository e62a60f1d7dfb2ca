-- Which elements of a list begin nodes of a kind.
use Rattle.std.specs.Prelude.{Bool, true, false, List, [], ◌∷◌}
use Rattle.bundle_syntax.specs.Item as h
use Rattle.bundle_syntax.specs.Item.{Item, Head}

-- whether a node begins here whose head passes the test
abbrev pub begins_here : (Head → Bool) → Item → Bool
begins_here test (h.Open field head) = test head
begins_here test _ = false

-- whether such a node is an import declaration
abbrev pub is_import : Head → Bool
is_import (h.ImportDecl meta) = true
is_import _ = false

-- whether such a node is a declaration of variables
abbrev pub is_variables : Head → Bool
is_variables (h.VarDecl kind meta) = true
is_variables _ = false

-- whether such a node is `* as n` of an export list
abbrev pub is_namespace_specifier : Head → Bool
is_namespace_specifier h.ExportNamespaceSpecifier = true
is_namespace_specifier _ = false

-- whether such a node is an export list
abbrev pub is_named_export : Head → Bool
is_named_export (h.NamedExport meta) = true
is_named_export _ = false

-- whether a list begins with an element that passes the test
abbrev pub begins : (Item → Bool) → List Item → Bool
begins test [] = false
begins test (x ∷ rest) = test x
