-- As many nodes are open as the pieces so far leave open.
use Rattle.std.proofs.Common.{vec_len}
use Rattle.bundle_js_pieces.specs.Brackets.{Opens}
use Rattle.bundle_js_pieces.proofs.placed.Placed.open_all.Given as goal

abbrev pub invariant-loop : goal.invariant-loop
invariant-loop l = Opens (vec_len l.nodes) l.self.pieces.items
