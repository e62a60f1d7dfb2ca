-- What the exports ask for that were passed.
use Rattle.std.proofs.Common.{◌≡◌, ◌++◌, map, take}
use Rattle.std.specs.List.{flat_map}
use Rattle.bundle_rules.specs.Faults.{asked_by_export}
use Rattle.bundle_link_tables.specs.TablesOf.{asked_name_of, export_entry_of}
use Rattle.bundle_link_tables.proofs.asked.add_exported.Given as goal

abbrev pub invariant-loop-export : goal.invariant-loop-export
invariant-loop-export l =
    map asked_name_of l.asked.items
    ≡ map asked_name_of l.fn.asked.items ++ flat_map asked_by_export (map export_entry_of (take l.export-index l.export-items))
