-- The steps of this renaming are put in from the last to the first, each followed by the next renaming.
use Rattle.bundle_marks.proofs.RenamingLemmas.{Followed}
use Rattle.bundle_marks.proofs.renaming.Renaming.then.Given as goal

abbrev pub invariant-loop-from : goal.invariant-loop-from
invariant-loop-from l = Followed l.self-inside.steps.entries l.from-iterator.iter l.next l.steps
