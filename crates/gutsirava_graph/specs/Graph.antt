-- What is found of entries.
use Rattle.std.specs.Prelude.{◌≡◌}
use Rattle.gutsirava_graph.specs.declared.entries.Root.{Root}
use Rattle.gutsirava_graph.specs.declared.settings.BundleEntry.{BundleEntry}

-- the entry that was found has the name that was given
abbrev pub IsRootOf : BundleEntry → Root → Type 0
IsRootOf entry root = root.name ≡ entry.name
