-- The names that were found are those of the entries that were passed.
use Rattle.std.proofs.Common.{◌≡◌, map, take}
use Rattle.std.specs.List.{flat_map}
use Rattle.bundle_syntax.specs.Item.{item_of}
use Rattle.bundle_link_tables.specs.Walked.{has_import, named_at, placed_names}
use Rattle.bundle_link_tables.proofs.walk.names_in.Given as goal

abbrev pub invariant-loop-entry : goal.invariant-loop-entry
invariant-loop-entry l =
    map named_at l.names.items
    ≡ flat_map (placed_names l.denotations (has_import l.imports) (map item_of l.pieces)) (take l.entry-index l.denotations.occurrences.items)
