-- The specifiers that are left are put down behind those that stand there, as all are from the start.
use Rattle.std.proofs.Common.{◌≡◌, ◌-◌}
use Rattle.gutsirava_sources.specs.Written.{written_of}
use Rattle.gutsirava_sources.specs.Rewritten.{specified_on, source_of}
use Rattle.gutsirava_sources.proofs.writing.write_specifiers.Given as goal

abbrev pub invariant-loop-at : goal.invariant-loop-at
invariant-loop-at l =
    specified_on (source_of l.it l.pieces) l.part (l.place - l.begin) l.begin (written_of l.initial.made)
    ≡ specified_on (source_of l.it l.pieces) l.part (l.place - l.at) l.at (written_of l.made)
