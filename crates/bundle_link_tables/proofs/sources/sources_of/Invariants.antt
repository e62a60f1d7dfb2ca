-- What the top items ask for that were passed.
use Rattle.std.proofs.Common.{◌≡◌, map, take}
use Rattle.std.specs.List.{flat_map}
use Rattle.bundle_rules.specs.Entries.{requests_of_item}
use Rattle.bundle_tree_places.specs.Parted.{part_items}
use Rattle.bundle_link_tables.specs.Sources.{source_asked, has_external}
use Rattle.bundle_link_tables.proofs.sources.sources_of.Given as goal

abbrev pub invariant-loop-top : goal.invariant-loop-top
invariant-loop-top l = map source_asked l.sources.items ≡ map (has_external l.external) (flat_map requests_of_item (map part_items (take l.top-index l.tops)))
