-- The nodes that were found and those behind the place are all.
use Rattle.std.proofs.Common.{◌≡◌, ◌≤◌, ◌-◌, ◌++◌, zero, length, map, drop}
use Rattle.bundle_syntax.specs.Item.{item_of}
use Rattle.bundle_rules.specs.Nodes.{side_by_side}
use Rattle.bundle_tree_places.specs.Parted.{part_items}
use Rattle.bundle_tree_places.proofs.parts.side_by_side.Given as goal

abbrev pub invariant-each : goal.invariant-each
invariant-each l =
    record {
      within : l.at ≤ length l.pieces;
      parts : side_by_side zero (map item_of l.pieces) ≡ map part_items l.found.items ++ side_by_side zero (map item_of (drop l.at l.pieces));
    }

abbrev pub decreases-each : goal.decreases-each
decreases-each l = length l.pieces - l.at
