use Rattle.std.proofs.Common.{take}
use Rattle.std.specs.List.{AllZip}
use Rattle.bundle_link.specs.Programs.{HasTables}
use Rattle.bundle_link.proofs.link.tables_of_all.Given as goal

abbrev pub invariant-loop-module : goal.invariant-loop-module
invariant-loop-module l = AllZip (HasTables l.config) (take l.module-index l.modules) l.tables.items
