use Rattle.std.specs.Prelude.{All}
use Rattle.gutsirava_sources.specs.Exports.{IsTakenName}
use Rattle.gutsirava_sources.proofs.exports.add_taken.Given as goal

abbrev pub invariant-loop-piece : goal.invariant-loop-piece
invariant-loop-piece l = All (IsTakenName l.pieces l.requests) l.taken.items
