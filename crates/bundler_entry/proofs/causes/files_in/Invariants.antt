-- The files of the modules that were gone over.
use Rattle.std.proofs.Common.{length}
use Rattle.bundler_entry.specs.Caused.{AreFilesOfAll}
use Rattle.bundler_entry.specs.Linked.{HasFiles}
use Rattle.bundler_entry.proofs.causes.files_in.Given as goal

abbrev pub invariant-loop-which : goal.invariant-loop-which
invariant-loop-which l =
    HasFiles l.call l.reached (length l.reached.places.items) →
    AreFilesOfAll l.call l.reached l.which l.files.items
