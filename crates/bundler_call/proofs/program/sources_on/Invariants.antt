-- The files that are left are kept, and not at fault by themselves; the others are read.
use Rattle.std.proofs.Common.{drop}
use Rattle.bundler_call.specs.Kept.{kept_of, settings_of}
use Rattle.bundler_call.specs.Loading.{AreFilesNumbered, AreFilesSound}
use Rattle.bundler_call.proofs.Leading.{names_of_entries}
use Rattle.bundler_call.proofs.Sources.{AreReadSoFar}
use Rattle.bundler_call.proofs.program.sources_on.Given as goal

abbrev pub invariant-loop-file : goal.invariant-loop-file
invariant-loop-file l =
    AreFilesSound (kept_of l.kept) (names_of_entries (drop l.file-index l.list.files))
    × (AreFilesNumbered (kept_of l.kept) l.list → AreReadSoFar (kept_of l.kept) (settings_of l.config) l.list.files (drop l.file-index l.list.files) l.sources.items)
