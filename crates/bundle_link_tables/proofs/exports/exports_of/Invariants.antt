-- What the top items export that were passed.
use Rattle.std.proofs.Common.{◌≡◌, map, take}
use Rattle.std.specs.List.{flat_map}
use Rattle.bundle_link_tables.specs.Exported.{import_by, exports_named}
use Rattle.bundle_tree_places.specs.Parted.{part_items}
use Rattle.bundle_link_tables.specs.TablesOf.{export_entry_of}
use Rattle.bundle_link_tables.proofs.exports.exports_of.Given as goal

abbrev pub invariant-loop-top : goal.invariant-loop-top
invariant-loop-top l = map export_entry_of l.exports.items ≡ flat_map (exports_named (import_by l.locals)) (map part_items (take l.top-index l.tops))
