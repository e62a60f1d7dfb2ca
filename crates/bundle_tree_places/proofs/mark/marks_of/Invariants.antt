-- The marks so far are those of the elements passed.
use Rattle.std.proofs.Common.{◌≡◌, map, take}
use Rattle.bundle_syntax.specs.Item.{item_of}
use Rattle.bundle_rules.specs.Rebuilds.{marks_of as marks_of_lem}
use Rattle.bundle_tree_places.specs.Marks.{mark_of}
use Rattle.bundle_tree_places.proofs.mark.marks_of.Given as goal

abbrev pub invariant-loop-piece : goal.invariant-loop-piece
invariant-loop-piece l = map mark_of l.marks.items ≡ marks_of_lem (map item_of (take l.piece-index l.pieces))
