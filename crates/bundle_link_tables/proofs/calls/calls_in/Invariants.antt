-- The calls that were found, and those from the place on, are all.
use Rattle.std.proofs.Common.{◌≡◌, ◌++◌, drop, map}
use Rattle.bundle_syntax.specs.Item.{item_of}
use Rattle.bundle_rules.specs.Entries.{require_calls, require_calls_from}
use Rattle.bundle_link_tables.specs.Free.{is_place_marked}
use Rattle.bundle_link_tables.specs.TablesOf.{call_entry_of}
use Rattle.bundle_link_tables.proofs.calls.calls_in.Given as goal

abbrev pub invariant-loop-place : goal.invariant-loop-place
invariant-loop-place l = map call_entry_of l.calls.items ++ require_calls_from (is_place_marked l.free) l.place (map item_of (drop l.place l.pieces)) ≡ require_calls (is_place_marked l.free) (map item_of l.pieces)
