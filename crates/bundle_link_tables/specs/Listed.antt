-- The names that export lists without `from` list, specifier by specifier.
use Rattle.std.specs.Prelude.{Bool, ◌&&◌, not, is_some, List, [], ◌∷◌, Option, Some, None, if◌then◌else◌}
use Rattle.bundle_syntax.specs.Item.{Item}
use Rattle.bundle_rules.specs.Nodes.{begins_with, child, string_of}
use Rattle.bundle_rules.specs.Faults.{ListedName, is_named_specifier, listed_name}
use Rattle.bundle_tree_places.specs.Heads.{is_named_export}
use Rattle.bundle_link_tables.specs.declared.listed.ExportListName.{ExportListName}

-- the listed name that a `ExportListName` stands for
abbrev pub export_listed_as : ExportListName → ListedName
export_listed_as listed = record { text = listed.name.now; is_string = listed.is_string }

-- a listed name by itself, if there is one
abbrev pub listed_alone : Option ExportListName → List ListedName
listed_alone None = []
listed_alone (Some listed) = export_listed_as listed ∷ []

-- the name that a specifier lists; `* as n` lists none
abbrev pub kept_listed : List Item → List ListedName
kept_listed specifier =
    if begins_with is_named_specifier specifier then listed_name specifier else []

-- whether an item is an export list without `from`
abbrev pub lists_names : List Item → Bool
lists_names item = begins_with is_named_export item && not (is_some (string_of (child 1 item)))
