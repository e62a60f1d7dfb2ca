-- What was kept before the loop is still kept, the files on the list, which begins with what stood on it, were met, and have their
-- numbers if they had; what is asked from here on is asked of the whole, and each request so far leads to the number of its file.
-- Where the file requests all specifiers, it requests those that are left, and what is kept has grown by answers to such requests.
use Rattle.std.proofs.Common.{◌≡◌, ◌++◌, List, map}
use Rattle.std.specs.String.{string_bytes}
use Rattle.bundle_tree_names.specs.FileName.{Name, name_of}
use Rattle.bundle_rules.specs.Entries.{Settings}
use Rattle.bundler_call.specs.Judged.{parties_asked}
use Rattle.bundler_call.specs.Kept.{kept_of, Advances, AreRequested, IsKept, Remains}
use Rattle.bundler_call.specs.Loading.{files_on, ids_on, AllLead, AreMet, AreFilesNumbered, BeginsList}
use Rattle.bundler_call.proofs.Leading.{texts_of}
use Rattle.bundler_call.proofs.Growing.{AsksOn}
use Rattle.bundler_call.proofs.load.ask_each.Given as goal

abbrev pub invariant-loop-specifier : goal.invariant-loop-specifier
invariant-loop-specifier g l =
    Remains l.initial.library.loader l.library.loader l.initial.library.resolver l.library.resolver (kept_of l.initial.library.kept) (kept_of l.library.kept)
    × AreMet (kept_of l.library.kept) (files_on l.list)
    × BeginsList (files_on l.initial.list) (files_on l.list)
    × IsKept (kept_of l.library.kept) (name_of l.file)
    × AsksOn (parties_asked g.L.Load.may_load g.L.Load.may_fail_load g.R.Resolve.may_resolve g.R.Resolve.may_fail_resolve l.initial.library.loader l.initial.library.resolver)
    (name_of l.file) (map string_bytes l.fn.specifiers.items) (map string_bytes l.specifier-iterator.rest.items) (kept_of l.initial.library.kept) (kept_of l.library.kept) (files_on l.initial.list) (files_on l.list)
    × (AreFilesNumbered (kept_of l.initial.library.kept) l.initial.list → AreFilesNumbered (kept_of l.library.kept) l.list × AllLead (kept_of l.library.kept) (ids_on l.list) (name_of l.file) l.deps.items)
    × (map string_bytes l.fn.specifiers.items ≡ texts_of l.deps.items ++ map string_bytes l.specifier-iterator.rest.items)
    × (l.list.deps ≡ l.initial.list.deps)
    × ((settings : Settings) → AreRequested settings (kept_of l.initial.library.kept) (name_of l.file) (map string_bytes l.fn.specifiers.items)
    → AreRequested settings (kept_of l.library.kept) (name_of l.file) (map string_bytes l.specifier-iterator.rest.items)
    × ((entries : List Name) → Advances g.L.Load.may_load g.R.Resolve.may_resolve settings entries l.initial.library.loader l.library.loader l.initial.library.resolver l.library.resolver (kept_of l.initial.library.kept) (kept_of l.library.kept)))
