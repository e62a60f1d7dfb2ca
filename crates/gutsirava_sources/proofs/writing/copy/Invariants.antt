-- What is left to copy is put down behind what stands there, as all is from the start.
use Rattle.std.proofs.Common.{◌≡◌, ◌-◌}
use Rattle.gutsirava_sources.specs.Written.{written_of}
use Rattle.gutsirava_sources.specs.Rewritten.{copied, copied_on, source_of}
use Rattle.gutsirava_sources.proofs.writing.copy.Given as goal

abbrev pub invariant-loop-at : goal.invariant-loop-at
invariant-loop-at l =
    copied (source_of l.it l.pieces) l.from l.to (written_of l.initial.made)
    ≡ copied_on (source_of l.it l.pieces) (l.to - l.at) l.at l.next (written_of l.made)
