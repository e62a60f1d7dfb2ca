-- So many elements were passed, and the rest of the node is ahead.
use Rattle.std.proofs.Common.{◌≡◌, ◌+◌, ◌≤◌, suc, drop, map}
use Rattle.bundle_syntax.specs.Item.{item_of}
use Rattle.bundle_tree_places.specs.Lengths.{length_of_first}
use Rattle.bundle_tree_places.proofs.parts.length_inside.Given as goal

abbrev pub invariant-loop-place : goal.invariant-loop-place
invariant-loop-place l =
    (l.depth ≤ l.place)
    × (length_of_first 1 (map item_of l.pieces) ≡ l.place + length_of_first (suc l.depth) (drop l.place (map item_of l.pieces)))
