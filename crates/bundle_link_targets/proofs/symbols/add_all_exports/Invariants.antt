use Rattle.std.proofs.Common.{List, ◌++◌, take}
use Rattle.std.specs.List.{flat_map}
use Rattle.bundle_link_targets.specs.Symbols.{Called, Calls, exports_called}
use Rattle.bundle_link_targets.proofs.symbols.add_all_exports.Given as goal

abbrev pub invariant-loop-which : goal.invariant-loop-which
invariant-loop-which l = (before : List Called) → Calls l.fn.symbols before → Calls l.symbols (before ++ flat_map (exports_called l.kinds) (take l.which-index l.kinds.list.now))
