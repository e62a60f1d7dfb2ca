-- What was gone over is known.
use Rattle.std.proofs.Common.{◌≡◌, map, take}
use Rattle.bundle_syntax.specs.Item.{item_of}
use Rattle.bundle_scope_names.specs.Fresh.{KnowsNames}
use Rattle.bundle_scope_names.proofs.keywords.TakenNames.of.Given as goal

abbrev pub invariant-loop-piece : goal.invariant-loop-piece
invariant-loop-piece l = KnowsNames (map item_of (take l.piece-index l.pieces)) l.taken × (l.taken.next ≡ 2)
