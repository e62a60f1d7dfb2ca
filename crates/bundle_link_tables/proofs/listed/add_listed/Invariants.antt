-- What the specifiers list that were passed.
use Rattle.std.proofs.Common.{◌≡◌, ◌++◌, map, take}
use Rattle.std.specs.List.{flat_map}
use Rattle.bundle_link_tables.specs.Listed.{export_listed_as, kept_listed}
use Rattle.bundle_tree_places.specs.Parted.{part_items}
use Rattle.bundle_link_tables.proofs.listed.add_listed.Given as goal

abbrev pub invariant-loop-specifier : goal.invariant-loop-specifier
invariant-loop-specifier l = map export_listed_as l.listed.items ≡ map export_listed_as l.fn.listed.items ++ flat_map kept_listed (map part_items (take l.specifier-index l.specifier-items))
