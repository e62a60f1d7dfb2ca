-- What the imports ask for that were passed.
use Rattle.std.proofs.Common.{◌≡◌, ◌++◌, map, take}
use Rattle.std.specs.List.{flat_map}
use Rattle.bundle_rules.specs.Faults.{asked_by_import}
use Rattle.bundle_link_tables.specs.TablesOf.{asked_name_of, import_entry_of}
use Rattle.bundle_link_tables.proofs.asked.add_all.Given as goal

abbrev pub invariant-loop-import : goal.invariant-loop-import
invariant-loop-import l =
    map asked_name_of l.asked.items
    ≡ map asked_name_of l.fn.asked.items ++ flat_map asked_by_import (map import_entry_of (take l.import-index l.imports))
