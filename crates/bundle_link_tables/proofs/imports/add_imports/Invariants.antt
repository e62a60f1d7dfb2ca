-- What the specifiers import that were passed.
use Rattle.std.proofs.Common.{◌≡◌, ◌++◌, map, take}
use Rattle.std.specs.List.{flat_map}
use Rattle.bundle_rules.specs.Entries.{import_entry}
use Rattle.bundle_tree_places.specs.Parted.{part_items}
use Rattle.bundle_link_tables.specs.TablesOf.{import_entry_of}
use Rattle.bundle_link_tables.proofs.imports.add_imports.Given as goal

abbrev pub invariant-loop-part : goal.invariant-loop-part
invariant-loop-part l =
    map import_entry_of l.imports.items
    ≡ map import_entry_of l.fn.imports.items ++ flat_map (import_entry l.specifier) (map part_items (take l.part-index l.part-items))
