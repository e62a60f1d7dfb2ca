-- Where no name is doubled, none was met that follows, and those that were passed are there.
use Rattle.std.proofs.Common.{◌≡◌, [], None, drop, map, take}
use Rattle.bundle_link_tables.specs.Judged.{doubled_entry_name}
use Rattle.bundle_link_tables.specs.TablesOf.{export_entry_of}
use Rattle.bundle_link.specs.Owned.{entry_key, entry_says}
use Rattle.bundle_link.proofs.tables.owned_items.Given as goal

abbrev pub invariant-loop-export : goal.invariant-loop-export
invariant-loop-export l =
    doubled_entry_name [] (map export_entry_of l.exports) ≡ None →
    (doubled_entry_name (map entry_key l.items.entries) (map export_entry_of (drop l.export-index l.exports)) ≡ None)
    × (map entry_says l.items.entries ≡ map export_entry_of (take l.export-index l.exports))
