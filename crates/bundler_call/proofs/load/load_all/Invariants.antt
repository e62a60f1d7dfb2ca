-- What was kept before the loop is still kept, the files on the list were met, those before the place are kept and not at fault, and what is
-- judged from that place on is judged of the whole; the list begins with what stood on it, its files have their numbers if they had, and the
-- requests of those before the place are noted. The loader stands for the first one, and is that where it is lent.
use Rattle.std.proofs.Common.{◌≡◌, ◌≤◌, List, [], length}
use Rattle.bundle_tree_names.specs.FileName.{Name}
use Rattle.bundler_call.specs.Judged.{parties_asked}
use Rattle.bundler_call.specs.Kept.{kept_of, settings_of, Proceeds, LoadsAlike}
use Rattle.bundler_call.specs.declared.library.Asking.TheVariants.{Lent}
use Rattle.bundler_call.specs.Loading.{files_on, AreMet, AreFilesNumbered, BeginsList}
use Rattle.bundler_call.proofs.Leading.{AreAskedTo, AreSoundBefore}
use Rattle.bundler_call.proofs.Programs.{LoadsOn}
use Rattle.bundler_call.proofs.load.load_all.Given as goal

abbrev pub invariant-loop-place : goal.invariant-loop-place
invariant-loop-place g l =
    ((entries : List Name) → Proceeds g.L.Load.may_load g.R.Resolve.may_resolve (settings_of l.config) entries l.initial.library.loader l.initial.library.resolver l.library.resolver (kept_of l.initial.library.kept) (kept_of l.library.kept))
    × AreMet (kept_of l.library.kept) (files_on l.list)
    × AreSoundBefore (kept_of l.library.kept) (files_on l.list) l.place
    × (l.place ≤ length (files_on l.list))
    × LoadsOn (parties_asked g.L.Load.may_load g.L.Load.may_fail_load g.R.Resolve.may_resolve g.R.Resolve.may_fail_resolve l.initial.library.loader l.initial.library.resolver)
    (settings_of l.config) (files_on l.fn.list) (files_on l.list) l.place (kept_of l.initial.library.kept) (kept_of l.library.kept)
    × BeginsList (files_on l.fn.list) (files_on l.list)
    × (AreFilesNumbered (kept_of l.initial.library.kept) l.fn.list → AreFilesNumbered (kept_of l.library.kept) l.list)
    × (l.fn.list.deps.items ≡ [] → AreFilesNumbered (kept_of l.initial.library.kept) l.fn.list → AreAskedTo (settings_of l.config) (kept_of l.library.kept) l.list.files l.list.deps.items l.place)
    × LoadsAlike g.L.Load.may_load g.L.Load.may_fail_load l.initial.library.loader l.library.loader (kept_of l.library.kept)
    × (l.asking ≡ Lent → l.library.loader ≡ l.initial.library.loader)
