-- What the entries of a table stand for, in the words of the definitions.
use Rattle.std.specs.Prelude.{Bool, ◌||◌, List, codes}
use Rattle.std.specs.List.{list_any}
use Rattle.bundle_syntax.specs.Item.{Item, Head}
use Rattle.bundle_rules.specs.Nodes.{Text, begins_with}
use Rattle.bundle_rules.specs.Bound.{has_free}
use Rattle.bundle_rules.specs.Statements.{top_items}
use Rattle.bundle_rules.specs.Entries as e
use Rattle.bundle_rules.specs.Faults as g
use Rattle.bundle_rules.specs.Faults.{Fault}
use Rattle.bundle_tree_names.specs.FileName.{Name}
use Rattle.bundle_link_tables.specs.declared.table.Taken.{Taken}
use Rattle.bundle_link_tables.specs.declared.table.Taken.TheVariants as t
use Rattle.bundle_link_tables.specs.declared.table.ImportRef.{ImportRef}
use Rattle.bundle_link_tables.specs.declared.table.Origin.{Origin}
use Rattle.bundle_link_tables.specs.declared.table.Origin.TheVariants as o
use Rattle.bundle_link_tables.specs.declared.table.Export.{Export}
use Rattle.bundle_link_tables.specs.declared.table.AskedName.{AskedName}
use Rattle.bundle_link_tables.specs.declared.table.RequireCall.{RequireCall}
use Rattle.bundle_link_tables.specs.declared.table.FileFault.{FileFault}
use Rattle.bundle_link_tables.specs.declared.table.FileFault.TheVariants as f

-- what a `Taken` stands for
abbrev pub taken_of : Taken → e.Taken
taken_of (t.Named x) = e.Named x.now
taken_of t.Whole = e.Whole

-- the import entry that an `ImportRef` stands for
abbrev pub import_entry_of : ImportRef → e.ImportEntry
import_entry_of import =
    record
    { local = import.local.now; specifier = import.specifier.now; taken = taken_of import.taken }

-- what an import specifier with this head imports of the source
abbrev pub entry_as : Head → Text → List Item → e.ImportEntry
entry_as head source specifier =
    record { local = e.text_in 0 specifier; specifier = source; taken = e.taken_by head specifier }

-- the entry of this name that an `Origin` stands for
abbrev pub entry_by_origin : Text → Origin → e.ExportEntry
entry_by_origin name (o.Local of) = e.Local name of.now
entry_by_origin name (o.Indirect specifier taken) = e.Indirect name specifier.now (taken_of taken)

-- the export entry that an `Export` stands for
abbrev pub export_entry_of : Export → e.ExportEntry
export_entry_of export = entry_by_origin export.name.now export.origin

-- the name asked of another module that an `AskedName` stands for
abbrev pub asked_name_of : AskedName → g.AskedName
asked_name_of asked = record { specifier = asked.specifier.now; name = asked.name.now }

-- whether a module has an import or export declaration
abbrev pub has_declaration : List Item → Bool
has_declaration tree =
    list_any (λ top. begins_with e.is_module_declaration top.items) (top_items tree)

-- the literal call of `require` that a `RequireCall` stands for
abbrev pub call_entry_of : RequireCall → e.RequireCall
call_entry_of call = record { place = call.place; specifier = call.specifier.now }

-- whether a `require`, `module` or `exports` stands in a module that nothing binds
abbrev pub uses_common_js : List Item → Bool
uses_common_js tree =
    has_free tree (codes "require")
    || (has_free tree (codes "module") || has_free tree (codes "exports"))

-- what is wrong with a file that has such a fault
abbrev pub fault_in : Name → FileFault → Fault
fault_in file (f.DoubledExport name) = g.DoubledExport file name.now
fault_in file (f.UndeclaredExport name) = g.UndeclaredExport file name.now
fault_in file f.With = g.WithStatement file
