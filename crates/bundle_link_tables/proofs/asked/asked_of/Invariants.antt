-- What the top items ask for that were passed.
use Rattle.std.proofs.Common.{◌≡◌, map, take}
use Rattle.std.specs.List.{flat_map}
use Rattle.bundle_link_tables.specs.Asked.{asked_in}
use Rattle.bundle_link_tables.specs.Exported.{import_by}
use Rattle.bundle_tree_places.specs.Parted.{part_items}
use Rattle.bundle_link_tables.specs.TablesOf.{asked_name_of}
use Rattle.bundle_link_tables.proofs.asked.asked_of.Given as goal

abbrev pub invariant-loop-top : goal.invariant-loop-top
invariant-loop-top l = map asked_name_of l.asked.items ≡ flat_map (asked_in (import_by l.locals)) (map part_items (take l.top-index l.tops))
