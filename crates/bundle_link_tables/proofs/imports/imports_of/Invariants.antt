-- What the top items import that were passed.
use Rattle.std.proofs.Common.{◌≡◌, map, take}
use Rattle.std.specs.List.{flat_map}
use Rattle.bundle_rules.specs.Entries.{imports_of_item}
use Rattle.bundle_tree_places.specs.Parted.{part_items}
use Rattle.bundle_link_tables.specs.TablesOf.{import_entry_of}
use Rattle.bundle_link_tables.proofs.imports.imports_of.Given as goal

abbrev pub invariant-loop-top : goal.invariant-loop-top
invariant-loop-top l = map import_entry_of l.imports.items ≡ flat_map imports_of_item (map part_items (take l.top-index l.tops))
