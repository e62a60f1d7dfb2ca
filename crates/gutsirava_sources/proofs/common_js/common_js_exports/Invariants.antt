use Rattle.std.specs.Prelude.{All}
use Rattle.gutsirava_sources.specs.CommonJs.{IsRequired}
use Rattle.gutsirava_sources.proofs.common_js.common_js_exports.Given as goal

abbrev pub invariant-loop-at : goal.invariant-loop-at
invariant-loop-at l = All (IsRequired l.requests) l.exports.passed.items
