-- What the calls are handed: names, and keys with names.
use Rattle.std.specs.Prelude.{◌≢◌, true, List, None, String, string_bytes}
use Rattle.std.specs.Global.{Global}
use Rattle.std.specs.List.{AllPairs}
use Rattle.bundle_syntax.specs.declared.kind.ExportMetadata.{ExportMetadata}
use Rattle.bundle_rules.specs.Nodes.{Text}
use Rattle.bundle_rules.specs.Idents.{Ident}
use Rattle.bundle_tree.specs.IdName.{IdName}

-- the identifier of a name
abbrev pub id_ident : IdName → Ident
id_ident id = (id.symbol, id.context)

-- a key and the identifier of its name
abbrev pub prop_of : String Global × IdName → Text × Ident
prop_of prop = (string_bytes prop.0, id_ident prop.1)

-- no two have one name
abbrev pub AreExportsApart : List (Text × Ident) → Type 0
AreExportsApart pairs = AllPairs (λ first second. first.0 ≢ second.0) pairs

-- noted as the linker's own
abbrev pub injected : ExportMetadata
injected = record { injected = true; export_ctxt = None }
