-- The entries so far are those of the pairs so far.
use Rattle.std.proofs.Common.{map, take}
use Rattle.std.specs.List.{AllZip}
use Rattle.json.specs.Value.{value_view}
use Rattle.gutsirava_c.specs.Request.{IsEntryPair}
use Rattle.gutsirava_c.proofs.request.entries_of.Given as goal

abbrev pub invariant-loop-pair : goal.invariant-loop-pair
invariant-loop-pair l = AllZip IsEntryPair (map value_view (take l.pair-index l.pairs)) l.entries.items
