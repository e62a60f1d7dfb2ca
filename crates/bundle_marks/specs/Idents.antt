-- What the identifiers of a tree, and the names of bindings, stand for.
use Rattle.std.specs.Prelude.{string_bytes}
use Rattle.bundle_syntax.specs.declared.ident.Ident as v_ident
use Rattle.bundle_rules.specs.Idents.{Ident}
use Rattle.bundle_tree.specs.IdName.{IdName}

-- an identifier of a tree: its symbol and its context
abbrev pub tree_ident : v_ident.Ident → Ident
tree_ident ident = (string_bytes ident.sym, ident.ctxt)

-- the identifier that has this name
abbrev pub ident_named : IdName → Ident
ident_named name = (name.symbol, name.context)

-- a pair of names, as a pair of identifiers
abbrev pub pair_named : IdName × IdName → Ident × Ident
pair_named pair = (ident_named pair.0, ident_named pair.1)
