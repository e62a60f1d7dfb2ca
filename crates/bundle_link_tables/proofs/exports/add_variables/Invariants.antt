-- What the declarators export that were passed.
use Rattle.std.proofs.Common.{◌≡◌, ◌++◌, zero, map, take}
use Rattle.std.specs.List.{flat_map}
use Rattle.bundle_rules.specs.Entries.{names_bound}
use Rattle.bundle_link_tables.specs.Exported.{locals_named}
use Rattle.bundle_tree_places.specs.Parted.{part_items}
use Rattle.bundle_link_tables.specs.TablesOf.{export_entry_of}
use Rattle.bundle_link_tables.proofs.exports.add_variables.Given as goal

abbrev pub invariant-loop-declarator : goal.invariant-loop-declarator
invariant-loop-declarator l =
    map export_entry_of l.exports.items
    ≡ map export_entry_of l.fn.exports.items ++ locals_named (flat_map (names_bound zero) (map part_items (take l.declarator-index l.declarator-items)))
