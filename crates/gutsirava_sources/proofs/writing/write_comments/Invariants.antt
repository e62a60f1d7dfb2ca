-- The comments that are left are put down behind those that stand there, as all are from the start.
use Rattle.std.proofs.Common.{◌≡◌, drop}
use Rattle.gutsirava_sources.specs.Written.{written_of}
use Rattle.gutsirava_sources.specs.Rewritten.{commented_all, told_to}
use Rattle.gutsirava_sources.proofs.writing.write_comments.Given as goal

abbrev pub invariant-loop-number : goal.invariant-loop-number
invariant-loop-number l =
    (l.number ≡ l.made.told)
    × (told_to l.it.comments.now l.at (written_of l.initial.made)
    ≡ commented_all l.at (drop l.number l.it.comments.now) (written_of l.made))
