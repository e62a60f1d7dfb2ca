-- What the stars ask for that were passed.
use Rattle.std.proofs.Common.{◌≡◌, map, take}
use Rattle.std.specs.List.{flat_map}
use Rattle.bundle_rules.specs.Nodes.{each_once}
use Rattle.bundle_tree_places.specs.Parted.{part_items}
use Rattle.bundle_link_tables.specs.Sources.{star_in}
use Rattle.bundle_link_tables.proofs.sources.stars_of.Given as goal

abbrev pub invariant-loop-top : goal.invariant-loop-top
invariant-loop-top l = map (λ key. key.now) l.stars.keys ≡ each_once (flat_map star_in (map part_items (take l.top-index l.tops)))
