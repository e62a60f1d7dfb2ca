use Rattle.std.proofs.Common.{List, ◌++◌, take}
use Rattle.std.specs.Prelude.{filter_map}
use Rattle.bundle_link_targets.specs.Symbols.{Called, Calls, imported_by}
use Rattle.bundle_link_targets.proofs.symbols.add_imports.Given as goal

abbrev pub invariant-loop-import : goal.invariant-loop-import
invariant-loop-import l = (before : List Called) → Calls l.fn.symbols before → Calls l.symbols (before ++ filter_map (imported_by l.kinds l.which) (take l.import-index l.imports))
