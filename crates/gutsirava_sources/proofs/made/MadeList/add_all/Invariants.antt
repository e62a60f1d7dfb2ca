-- The parts so far stand there.
use Rattle.std.proofs.Common.{◌≡◌, fold, take}
use Rattle.gutsirava_sources.specs.Written.{added_part, written_of}
use Rattle.gutsirava_sources.proofs.made.MadeList.add_all.Given as goal

abbrev pub invariant-loop-part : goal.invariant-loop-part
invariant-loop-part l =
    written_of l.self
    ≡ fold added_part (written_of l.initial.self) (take l.part-index l.parts)
