-- The declarations of the functions so far stand there.
use Rattle.std.proofs.Common.{◌≡◌, fold, take}
use Rattle.gutsirava_sources.specs.Written.{written_of}
use Rattle.gutsirava_sources.specs.Rewritten.{loaded}
use Rattle.gutsirava_sources.proofs.writing.write_loads.Given as goal

abbrev pub invariant-loop-stand : goal.invariant-loop-stand
invariant-loop-stand l =
    written_of l.made
    ≡ fold (loaded l.it.seat.notes.now) (written_of l.initial.made) (take l.stand-index l.stands)
