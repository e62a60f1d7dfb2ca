-- The pairs that were passed are said.
use Rattle.bundle_merge_modules.specs.Pairs.{AreRenamingSteps}
use Rattle.bundle_merge_modules.proofs.ends.renaming_by.Given as goal

abbrev pub invariant-loop-number : goal.invariant-loop-number
invariant-loop-number l = AreRenamingSteps l.pairs l.ends l.number l.renaming
