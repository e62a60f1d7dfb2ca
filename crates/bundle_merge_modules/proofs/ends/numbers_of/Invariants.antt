-- The pairs that were passed have their numbers.
use Rattle.bundle_merge_modules.specs.Pairs.{AreAliasNumbers}
use Rattle.bundle_merge_modules.proofs.ends.numbers_of.Given as goal

abbrev pub invariant-loop-number : goal.invariant-loop-number
invariant-loop-number l = AreAliasNumbers l.pairs l.number l.numbers
