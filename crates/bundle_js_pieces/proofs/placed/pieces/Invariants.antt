-- As many nodes are open as the pieces so far leave open.
use Rattle.std.proofs.Common.{vec_len}
use Rattle.bundle_js_pieces.specs.Brackets.{Opens}
use Rattle.bundle_js_pieces.proofs.placed.pieces.Given as goal

abbrev pub invariant-loop-at : goal.invariant-loop-at
invariant-loop-at l = Opens (vec_len l.nodes) l.list.pieces.items
