-- What the specifiers export that were passed.
use Rattle.std.proofs.Common.{◌≡◌, ◌++◌, map, take}
use Rattle.std.specs.List.{flat_map}
use Rattle.bundle_link_tables.specs.Exported.{import_by, named_here}
use Rattle.bundle_tree_places.specs.Parted.{part_items}
use Rattle.bundle_link_tables.specs.TablesOf.{export_entry_of}
use Rattle.bundle_link_tables.proofs.exports.add_here.Given as goal

abbrev pub invariant-loop-specifier : goal.invariant-loop-specifier
invariant-loop-specifier l =
    map export_entry_of l.exports.items
    ≡ map export_entry_of l.fn.exports.items ++ flat_map (named_here (import_by l.locals)) (map part_items (take l.specifier-index l.specifiers))
