use Rattle.gutsirava_watch.specs.States.{MayBeAs}
use Rattle.gutsirava_watch.proofs.StateLemmas.{IsPassed}
use Rattle.gutsirava_watch.proofs.watching.changed_path.Given as goal

abbrev pub invariant-loop-path : goal.invariant-loop-path
invariant-loop-path g l = IsPassed (MayBeAs (g.S.PathStamps.may_be l.stamps)) l.paths.entries l.path-iterator
