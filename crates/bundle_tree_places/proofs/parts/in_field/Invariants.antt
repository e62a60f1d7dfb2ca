-- Those in the field that were found and those behind the place are all.
use Rattle.std.proofs.Common.{◌≡◌, ◌≤◌, ◌-◌, ◌++◌, length, map, drop}
use Rattle.bundle_tree_places.specs.Parted.{part_items}
use Rattle.bundle_tree_places.proofs.PartLemmas.{all_from}
use Rattle.bundle_tree_places.proofs.parts.in_field.Given as goal

abbrev pub invariant-each : goal.invariant-each
invariant-each l =
    record {
      within : l.at ≤ length l.inside;
      parts : all_from l.field l.inside ≡ map part_items l.found.items ++ all_from l.field (drop l.at l.inside);
    }

abbrev pub decreases-each : goal.decreases-each
decreases-each l = length l.inside - l.at
