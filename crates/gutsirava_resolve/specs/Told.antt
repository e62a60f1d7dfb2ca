-- What a file system has told of paths; `has_file` says that a file is at a path.
use Rattle.std.specs.Prelude.{ℕ, List, All, string_bytes}
use Rattle.std.specs.BTreeMap.{BTreeMap, values}
use Rattle.gutsirava_resolve.specs.declared.known.KnownPath.{KnownPath}
use Rattle.gutsirava_resolve.specs.declared.known.KnownPath.TheVariants.{File, Folder, Missing}

-- a file was told
abbrev pub IsTold : (List ℕ → Type 0) → KnownPath → Type 0
IsTold has_file (File real) = has_file (string_bytes real)
IsTold has_file Folder = Unit {0}
IsTold has_file Missing = Unit {0}

-- each file of a map was told
abbrev pub AreTold : {K : Type 0} → (List ℕ → Type 0) → BTreeMap K KnownPath → Type 0
AreTold has_file standings = All (IsTold has_file) (values standings)
