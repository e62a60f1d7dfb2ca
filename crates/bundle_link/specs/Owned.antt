-- What the entries with texts of their own say, in the words of the definitions.
use Rattle.std.specs.Prelude.{String, string_bytes, List, map}
use Rattle.std.specs.declared.alloc.Global.{Global}
use Rattle.bundle_rules.specs.Nodes.{Text}
use Rattle.bundle_rules.specs.Entries as e
use Rattle.bundle_link.specs.declared.tables.ImportName.{ImportName}
use Rattle.bundle_link.specs.declared.tables.ImportName.TheVariants as n
use Rattle.bundle_link.specs.declared.tables.Import.{Import}
use Rattle.bundle_link.specs.declared.tables.ExportEntry.{ExportEntry}
use Rattle.bundle_link.specs.declared.tables.ExportEntry.TheVariants as x
use Rattle.bundle_link.specs.declared.tables.Exports.{Exports}

-- what is taken
abbrev pub name_says : ImportName → e.Taken
name_says (n.Named name) = e.Named (string_bytes name)
name_says n.Whole = e.Whole

-- an import
abbrev pub import_says : Import → e.ImportEntry
import_says import =
    record {
      local = string_bytes import.local;
      specifier = string_bytes import.specifier;
      taken = name_says import.name;
    }

-- an export of a name
abbrev pub export_says : Text → ExportEntry → e.ExportEntry
export_says name (x.Local of) = e.Local name (string_bytes of)
export_says name (x.Indirect specifier taken) =
    e.Indirect name (string_bytes specifier) (name_says taken)

-- an export under its name
abbrev pub entry_says : String Global × ExportEntry → e.ExportEntry
entry_says entry = export_says (string_bytes entry.0) entry.1

-- the name of an export
abbrev pub entry_key : String Global × ExportEntry → Text
entry_key entry = string_bytes entry.0

-- the exports of a module: those with a name, and the stars
abbrev pub exports_say : Exports → List e.ExportEntry × List Text
exports_say exports =
    (map entry_says exports.items.entries, map (λ star. string_bytes star) exports.stars.items)
