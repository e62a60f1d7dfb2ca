-- The uses that were found are those of the names that were passed.
use Rattle.std.proofs.Common.{map, take}
use Rattle.std.specs.List.{flat_map}
use Rattle.bundle_link_tables.specs.Used.{name_read, place_read}
use Rattle.bundle_link_tables.specs.Walked.{Begin, SaysUses, uses_of_name}
use Rattle.bundle_link_tables.proofs.walk.found_in.Given as goal

abbrev pub invariant-loop-name : goal.invariant-loop-name
invariant-loop-name l =
    SaysUses (map name_read l.found.reads.items) l.found.uses.items (flat_map (uses_of_name l.stated.items l.told.items) (take l.name-index l.name-items))
    × Begin (map place_read l.found.reads.items) l.found.uses.items
