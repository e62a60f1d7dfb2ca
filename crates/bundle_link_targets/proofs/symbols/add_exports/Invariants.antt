use Rattle.std.proofs.Common.{List, ◌++◌, take}
use Rattle.std.specs.Prelude.{filter_map}
use Rattle.bundle_link_targets.specs.Symbols.{Called, Calls, exported_by}
use Rattle.bundle_link_targets.proofs.symbols.add_exports.Given as goal

abbrev pub invariant-loop-export : goal.invariant-loop-export
invariant-loop-export l = (before : List Called) → Calls l.fn.symbols before → Calls l.symbols (before ++ filter_map (exported_by l.kinds l.which) (take l.export-index l.exports))
