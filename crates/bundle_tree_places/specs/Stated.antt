-- What lies in a top item that states something.
use Rattle.std.specs.Prelude.{Bool, true, false, not, List, [], ◌∷◌}
use Rattle.bundle_syntax.specs.Item as h
use Rattle.bundle_syntax.specs.Item.{Head}
use Rattle.bundle_rules.specs.Places.{Around}

-- whether a top item with this head states nothing: imports, export lists and empty statements
abbrev pub states_nothing : Head → Bool
states_nothing (h.ImportDecl meta) = true
states_nothing (h.NamedExport meta) = true
states_nothing (h.ExportAll meta) = true
states_nothing h.EmptyStmt = true
states_nothing _ = false

-- whether what stands in a node with this head, in these nodes, lies in a top item that states
-- something
abbrev pub is_stated_in : Head → List Around → Bool
is_stated_in head [] = true
is_stated_in head (tree ∷ []) = not (states_nothing head)
is_stated_in head (node ∷ next ∷ outer) = is_stated_in node.head (next ∷ outer)

-- whether these nodes, innermost first, lie in a top item that states something: the last is the
-- module, the one before it the top item
abbrev pub is_in_statement : List Around → Bool
is_in_statement [] = false
is_in_statement (node ∷ outer) = is_stated_in node.head outer
