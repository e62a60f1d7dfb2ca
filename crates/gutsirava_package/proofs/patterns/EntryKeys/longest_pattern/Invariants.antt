use Rattle.gutsirava_package.proofs.BestLemmas.{IsSoFar}
use Rattle.gutsirava_package.proofs.patterns.EntryKeys.longest_pattern.Given as goal

abbrev pub invariant-loop-trailer : goal.invariant-loop-trailer
invariant-loop-trailer l = IsSoFar l.self l.text l.base l.trailer-items l.trailer-index l.longest
