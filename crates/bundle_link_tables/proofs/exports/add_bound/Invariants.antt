-- The names that were found, and those that are ahead.
use Rattle.std.proofs.Common.{◌≡◌, ◌++◌, ◌≤◌, zero, map, drop}
use Rattle.bundle_syntax.specs.Item.{item_of}
use Rattle.bundle_rules.specs.Entries.{names_bound}
use Rattle.bundle_link_tables.specs.Exported.{locals_named}
use Rattle.bundle_link_tables.specs.TablesOf.{export_entry_of}
use Rattle.bundle_link_tables.proofs.exports.add_bound.Given as goal

abbrev pub invariant-loop-place : goal.invariant-loop-place
invariant-loop-place l =
    record {
      low : l.depth ≤ l.place;
      names : map export_entry_of l.exports.items ++ locals_named (names_bound l.depth (drop l.place (map item_of l.declarator.pieces.now))) ≡ map export_entry_of l.fn.exports.items ++ locals_named (names_bound zero (map item_of l.declarator.pieces.now));
    }
