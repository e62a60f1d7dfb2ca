-- That what is found is a file; `has_file` says that a file is at a path.
use Rattle.std.specs.Prelude.{ℕ, List, string_bytes}
use Rattle.gutsirava_resolve.specs.declared.packages.Internal.{Internal}
use Rattle.gutsirava_resolve.specs.declared.packages.Internal.TheVariants.{Undefined, Inside, Package}
use Rattle.gutsirava_resolve.specs.declared.resolver.Resolved.{Resolved}
use Rattle.gutsirava_resolve.specs.declared.resolver.Resolved.TheVariants.{File, Builtin, External, ExternalFile, Empty}

-- a file that an entry of `imports` names is one
abbrev pub IsInternalFile : (List ℕ → Type 0) → Internal → Type 0
IsInternalFile has_file Undefined = Unit {0}
IsInternalFile has_file (Inside found) = has_file (string_bytes found.path)
IsInternalFile has_file (Package folder specifier) = Unit {0}

-- a file that a specifier names is one
abbrev pub IsFileOf : (List ℕ → Type 0) → Resolved → Type 0
IsFileOf has_file (File path suffix) = has_file (string_bytes path)
IsFileOf has_file (Builtin name) = Unit {0}
IsFileOf has_file (External name) = Unit {0}
IsFileOf has_file (ExternalFile path) = Unit {0}
IsFileOf has_file (Empty name) = Unit {0}
