use Rattle.std.proofs.Common.{◌-◌}
use Rattle.gutsirava_package.proofs.BestLemmas.{NoneFrom}
use Rattle.gutsirava_package.proofs.patterns.EntryKeys.best_pattern.Given as goal

abbrev pub invariant-loop-tried : goal.invariant-loop-tried
invariant-loop-tried l = NoneFrom l.self l.text (l.count - l.tried)
