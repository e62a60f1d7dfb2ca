-- What a top item asks of other modules, where `look` finds the import that binds a name.
use Rattle.std.specs.Prelude.{Bool, true, false, List, ◌++◌, Option}
use Rattle.std.specs.List.{flat_map}
use Rattle.bundle_syntax.specs.Item.{Item}
use Rattle.bundle_rules.specs.Nodes.{Text}
use Rattle.bundle_rules.specs.Entries.{ExportEntry, ImportEntry, Indirect, imports_of_item}
use Rattle.bundle_rules.specs.Faults.{AskedName, asked_by_export, asked_by_import}
use Rattle.bundle_link_tables.specs.Exported.{exports_named}

-- the names that a top item asks for
abbrev pub asked_in : (Text → Option ImportEntry) → List Item → List AskedName
asked_in look item =
    flat_map asked_by_import (imports_of_item item)
    ++ flat_map asked_by_export (exports_named look item)

-- whether an export is given on from another module under a name
abbrev pub is_given_on : ExportEntry → Bool
is_given_on (Indirect name specifier taken) = true
is_given_on _ = false
