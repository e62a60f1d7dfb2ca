-- The occurrences that were passed have their contexts.
use Rattle.std.proofs.Common.{take}
use Rattle.bundle_scope_names.specs.Numbering.{IsNumberedTo}
use Rattle.bundle_scope_names.proofs.contexts.numbered.Given as goal

abbrev pub invariant-loop-occurrence : goal.invariant-loop-occurrence
invariant-loop-occurrence l = IsNumberedTo l.table l.local l.next l.numbers l.contexts.items (take l.occurrence-index l.table.occurrences.items)
