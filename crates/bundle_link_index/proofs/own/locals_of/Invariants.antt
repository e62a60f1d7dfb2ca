-- The first import of each name among those that were passed.
use Rattle.std.proofs.Common.{map, take}
use Rattle.bundle_link_tables.specs.Exported.{Finds}
use Rattle.bundle_link_tables.specs.TablesOf.{import_entry_of}
use Rattle.bundle_link_index.proofs.own.locals_of.Given as goal

abbrev pub invariant-loop-import : goal.invariant-loop-import
invariant-loop-import l = Finds l.locals (map import_entry_of (take l.import-index l.tables.imports.items))
