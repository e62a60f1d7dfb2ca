-- The sets have the names and the files of the entries before the index, no two of which have one name or one file.
use Rattle.std.proofs.Common.{◌≡◌, map, take}
use Rattle.bundler_call.specs.Held.{file_named}
use Rattle.bundler_call.specs.Kept.{entry_of}
use Rattle.bundler_call.proofs.Leading.{AreApartBefore}
use Rattle.bundler_call.proofs.bundler.refuse_doubled_entry.Given as goal

abbrev pub invariant-loop-name : goal.invariant-loop-name
invariant-loop-name l =
    (map (λ key. key.now) l.names.keys ≡ map (λ entry. entry.name) (take l.name-index (map entry_of l.entries)))
    × (map file_named l.files ≡ map (λ entry. entry.file) (take l.name-index (map entry_of l.entries)))
    × AreApartBefore (map entry_of l.entries) l.name-index
