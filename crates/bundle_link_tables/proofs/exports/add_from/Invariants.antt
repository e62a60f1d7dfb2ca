-- What the specifiers export that were passed.
use Rattle.std.proofs.Common.{◌≡◌, ◌++◌, map, take}
use Rattle.bundle_rules.specs.Entries.{entry_from}
use Rattle.bundle_tree_places.specs.Parted.{part_items}
use Rattle.bundle_link_tables.specs.TablesOf.{export_entry_of}
use Rattle.bundle_link_tables.proofs.exports.add_from.Given as goal

abbrev pub invariant-loop-specifier : goal.invariant-loop-specifier
invariant-loop-specifier l =
    map export_entry_of l.exports.items
    ≡ map export_entry_of l.fn.exports.items ++ map (entry_from l.source) (map part_items (take l.specifier-index l.specifiers))
