-- The scopes of what was gone over are marked.
use Rattle.std.proofs.Common.{length, take}
use Rattle.bundle_merge_names.specs.Scoped.{AreMarks}
use Rattle.bundle_merge_names.proofs.given.marks_of.Given as goal

abbrev pub invariant-loop-occurrence : goal.invariant-loop-occurrence
invariant-loop-occurrence l =
    AreMarks l.denotations.bindings.items (take l.occurrence-index l.denotations.occurrences.items) (length l.denotations.scopes.items) l.marks.items
