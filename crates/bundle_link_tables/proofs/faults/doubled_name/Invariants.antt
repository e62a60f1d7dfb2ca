-- What is found is found among the exports that follow, beside the names that were met.
use Rattle.std.proofs.Common.{◌≡◌, [], drop, map}
use Rattle.bundle_link_tables.specs.Judged.{doubled_entry_name}
use Rattle.bundle_link_tables.specs.TablesOf.{export_entry_of}
use Rattle.bundle_link_tables.proofs.faults.doubled_name.Given as goal

abbrev pub invariant-loop-export : goal.invariant-loop-export
invariant-loop-export l = doubled_entry_name [] (map export_entry_of l.exports) ≡ doubled_entry_name (map (λ key. key.now) l.met.keys) (map export_entry_of (drop l.export-index l.exports))
