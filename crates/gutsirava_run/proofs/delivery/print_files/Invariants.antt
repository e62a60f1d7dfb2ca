use Rattle.std.proofs.Common.{map, take}
use Rattle.std.specs.Io.KnownBytes.{Appends}
use Rattle.gutsirava_run.specs.Delivery.{stored_file}
use Rattle.gutsirava_run.specs.Ending.{texts_of}
use Rattle.gutsirava_run.proofs.delivery.print_files.Given as goal

abbrev pub invariant-loop-file : goal.invariant-loop-file
invariant-loop-file g l =
    Appends (g.O.Write.contents l.initial.printed) (g.O.Write.contents l.printed)
    (texts_of (map stored_file (take l.file-index l.files)))
