-- The scopes that were gone over have their contexts.
use Rattle.bundle_merge_names.proofs.ScopeLemmas.{IsGoneOver}
use Rattle.bundle_merge_names.proofs.given.scope_contexts.Given as goal

abbrev pub invariant-loop-scope : goal.invariant-loop-scope
invariant-loop-scope l =
    IsGoneOver l.denotations l.marks.items l.local l.initial.names l.names l.contexts.items l.scope-index
