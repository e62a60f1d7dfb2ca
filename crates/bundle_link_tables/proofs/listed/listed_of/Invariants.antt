-- What the top items list that were passed.
use Rattle.std.proofs.Common.{◌≡◌, map, take}
use Rattle.std.specs.List.{flat_map}
use Rattle.bundle_rules.specs.Faults.{names_listed}
use Rattle.bundle_link_tables.specs.Listed.{export_listed_as}
use Rattle.bundle_tree_places.specs.Parted.{part_items}
use Rattle.bundle_link_tables.proofs.listed.listed_of.Given as goal

abbrev pub invariant-loop-top : goal.invariant-loop-top
invariant-loop-top l = map export_listed_as l.listed.items ≡ flat_map names_listed (map part_items (take l.top-index l.tops))
