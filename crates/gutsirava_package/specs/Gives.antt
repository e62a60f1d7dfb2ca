-- What a table of entries gives, where there is one.
use Rattle.std.specs.Prelude.{ℕ, List, Option, Some, None}
use Rattle.gutsirava_path.specs.declared.specifier.Loader.{Loader}
use Rattle.gutsirava_package.specs.Entries.{IsFoundIn}
use Rattle.gutsirava_package.specs.declared.entries.EntryTable.{EntryTable}
use Rattle.gutsirava_package.specs.declared.lookup.Located.{Located}

-- there is a table, and the entry that it has for a name gives this
abbrev pub Gives : Option EntryTable → List ℕ → Loader → Located → Type 0
Gives None name loader located = ⊥
Gives (Some table) name loader located = IsFoundIn table.entries name loader (Some located)
