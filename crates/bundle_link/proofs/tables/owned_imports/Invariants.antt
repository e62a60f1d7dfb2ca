-- The imports so far are those that were passed.
use Rattle.std.proofs.Common.{◌≡◌, map, take}
use Rattle.bundle_link_tables.specs.TablesOf.{import_entry_of}
use Rattle.bundle_link.specs.Owned.{import_says}
use Rattle.bundle_link.proofs.tables.owned_imports.Given as goal

abbrev pub invariant-loop-import : goal.invariant-loop-import
invariant-loop-import l = map import_says l.owned.items ≡ map import_entry_of (take l.import-index l.imports)
