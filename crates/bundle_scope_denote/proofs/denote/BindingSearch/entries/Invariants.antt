-- The entries so far say what the occurrences passed denote.
use Rattle.std.proofs.Common.{take}
use Rattle.bundle_scope_denote.specs.Kinds.{reading_as}
use Rattle.bundle_scope_denote.specs.Searched.{Searches}
use Rattle.bundle_scope_denote.proofs.denote.BindingSearch.entries.Given as goal

abbrev pub invariant-loop-occurrence : goal.invariant-loop-occurrence
invariant-loop-occurrence l = Searches (reading_as l.reading) l.walk l.of l.initial.self l.self l.occurrences.items (take l.occurrence-index l.walk.occurrences.items)
