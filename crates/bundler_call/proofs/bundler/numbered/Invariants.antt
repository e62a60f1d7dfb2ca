-- What was kept is still kept, the files before the index have these numbers and stand on the list, if they are apart, those on
-- the list were met, and what is numbered from the index on is numbered of the whole; each file on the list has its number there, and
-- none was worked on; where one was passed there are no more than numbers.
use Rattle.std.proofs.Common.{◌≡◌, ◌<◌, [], drop, map, take}
use Rattle.std.specs.List.{AllZip}
use Rattle.bundle_rules.specs.Entries.{Settings}
use Rattle.bundler_call.specs.Bundler.{entry_files, HasFileNumber}
use Rattle.bundler_call.specs.Judged.{AreEntriesApart}
use Rattle.bundler_call.specs.Kept.{entry_of, kept_of, Advances, IsBounded}
use Rattle.bundler_call.specs.Loading.{files_on, AreMet, AreFilesNumbered}
use Rattle.bundler_call.proofs.Leading.{NumbersOn}
use Rattle.bundler_call.proofs.bundler.numbered.Given as goal

abbrev pub invariant-loop-file : goal.invariant-loop-file
invariant-loop-file g l =
    ((settings : Settings) → Advances g.L.Load.may_load g.R.Resolve.may_resolve settings (entry_files l.entries) l.initial.library.loader l.library.loader l.initial.library.resolver l.library.resolver (kept_of l.initial.library.kept) (kept_of l.library.kept))
    × AllZip (HasFileNumber (kept_of l.library.kept)) (take l.file-index l.entries) l.ids.items
    × AreMet (kept_of l.library.kept) (files_on l.list)
    × NumbersOn (entry_files l.entries) (drop l.file-index (entry_files l.entries)) (kept_of l.initial.library.kept) (kept_of l.library.kept)
    × (AreEntriesApart (map entry_of l.entries) → files_on l.list ≡ take l.file-index (entry_files l.entries))
    × AreFilesNumbered (kept_of l.library.kept) l.list
    × (l.list.deps.items ≡ [])
    × (0 < l.file-index → IsBounded (kept_of l.library.kept))
