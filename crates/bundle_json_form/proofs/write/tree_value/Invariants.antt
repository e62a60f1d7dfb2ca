-- What is still to be run through gives what the whole list gives.
use Rattle.std.proofs.Common.{◌≡◌, [], map, drop}
use Rattle.bundle_syntax.specs.Item.{item_of}
use Rattle.bundle_json_form.specs.Writing.{frames}
use Rattle.bundle_json_form.proofs.Run.{run}
use Rattle.bundle_json_form.proofs.write.tree_value.Given as goal

abbrev pub invariant-loop-piece : goal.invariant-loop-piece
invariant-loop-piece l = run (frames l.open.items) (map item_of (drop l.piece-index l.pieces)) ≡ run [] (map item_of l.pieces)
