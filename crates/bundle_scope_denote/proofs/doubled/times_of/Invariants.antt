-- The declarations gone over were counted.
use Rattle.bundle_scope_denote.proofs.TimesLemmas.{CountedTo}
use Rattle.bundle_scope_denote.proofs.doubled.times_of.Given as goal

abbrev pub invariant-loop-declared : goal.invariant-loop-declared
invariant-loop-declared l = CountedTo l.walk.declarations.items l.declared-index l.times.items
