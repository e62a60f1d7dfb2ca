use Rattle.std.specs.Prelude.{All}
use Rattle.gutsirava_sources.specs.Exports.{IsTakenName}
use Rattle.gutsirava_sources.proofs.exports.taken_of.Given as goal

abbrev pub invariant-loop-number : goal.invariant-loop-number
invariant-loop-number l = All (IsTakenName l.pieces l.requests) l.taken.items
