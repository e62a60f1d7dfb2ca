-- The occurrences gone over are linked.
use Rattle.bundle_scope_names.proofs.KnowsLemmas.{AreLinked}
use Rattle.bundle_scope_names.proofs.uses.Uses.of.Given as goal

abbrev pub invariant-loop-number : goal.invariant-loop-number
invariant-loop-number l = AreLinked l.occurrences l.count l.number l.last.items l.before.items
