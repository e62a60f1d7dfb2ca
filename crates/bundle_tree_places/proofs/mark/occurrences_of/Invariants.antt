-- The occurrences so far are those among the elements passed.
use Rattle.std.proofs.Common.{◌≡◌, map, take}
use Rattle.std.specs.List.{flat_map}
use Rattle.bundle_syntax.specs.Item.{item_of}
use Rattle.bundle_tree_places.specs.Marks.{listed_as, listed_of}
use Rattle.bundle_tree_places.proofs.mark.occurrences_of.Given as goal

abbrev pub invariant-loop-piece : goal.invariant-loop-piece
invariant-loop-piece l = map listed_of l.occurrences.items ≡ flat_map listed_as (map item_of (take l.piece-index l.pieces))
