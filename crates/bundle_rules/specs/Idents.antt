-- Identifiers: symbols with contexts, as they stand at the occurrences of a tree (ECMA-262, 13.1).
use Rattle.std.specs.Prelude.{ℕ, List, map}
use Rattle.bundle_syntax.specs.Item.{Item}
use Rattle.bundle_rules.specs.Places.{Occurrence, occurrences}
use Rattle.bundle_rules.specs.Nodes.{Text}

-- an identifier: its symbol and its context
abbrev pub Ident : Type 0
Ident = Text × ℕ

-- the identifier of an occurrence
abbrev pub ident_of : Occurrence → Ident
ident_of o = (o.sym, o.ctxt)

-- the bindings and references of a tree, in its order
abbrev pub idents : List Item → List Ident
idents tree = map ident_of (occurrences tree)
