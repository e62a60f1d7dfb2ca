-- The first fault of a tree by itself, as it is told.
use Rattle.std.specs.Prelude.{Bool, true, false, ◌||◌, not, List, [], ◌∷◌, ◌++◌, Option, Some, None, option_map, find, if◌then◌else◌}
use Rattle.bundle_tree_names.specs.FileName.{Name}
use Rattle.bundle_syntax.specs.Item.{Item}
use Rattle.bundle_rules.specs.Nodes.{Text, has_text}
use Rattle.bundle_rules.specs.Bound.{top_names}
use Rattle.bundle_rules.specs.Entries.{ExportEntry}
use Rattle.bundle_rules.specs.Faults as t
use Rattle.bundle_rules.specs.Faults.{Fault, ListedName, entry_name}

-- the first name that an entry before it has, or that is among those met
abbrev pub doubled_entry_name : List Text → List ExportEntry → Option Text
doubled_entry_name met [] = None
doubled_entry_name met (entry ∷ rest) =
    elim (entry_name entry) [
      | None ↦ doubled_entry_name met rest
      | Some x ↦ if has_text x met then Some x else
          doubled_entry_name (met ++ x ∷ []) rest
    ]

-- whether a listed name is a string, or none of those that are declared
abbrev pub is_undeclared : (Text → Bool) → ListedName → Bool
is_undeclared declared listed = listed.is_string || not (declared listed.text)

-- the first such name
abbrev pub undeclared_name : (Text → Bool) → List ListedName → Option Text
undeclared_name declared listed =
    option_map (λ (name : ListedName). name.text) (find (is_undeclared declared) listed)

-- whether the top of a module binds a name
abbrev pub is_top_name : List Item → Text → Bool
is_top_name tree x = has_text x (top_names tree)

-- the first fault: a name that is exported twice, one that is not declared, or `with`
abbrev pub first_fault :
    Name → (doubled undeclared : Option Text) → (has_with : Bool) → Option Fault
first_fault file (Some x) undeclared has_with = Some (t.DoubledExport file x)
first_fault file None (Some x) has_with = Some (t.UndeclaredExport file x)
first_fault file None None true = Some (t.WithStatement file)
first_fault file None None false = None
