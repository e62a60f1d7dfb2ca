use Rattle.std.specs.Prelude.{All}
use Rattle.gutsirava_sources.specs.Exports.{IsExported}
use Rattle.gutsirava_sources.proofs.exports.exports_of.Given as goal

abbrev pub invariant-loop-at : goal.invariant-loop-at
invariant-loop-at l = All (IsExported l.pieces) l.names.items
