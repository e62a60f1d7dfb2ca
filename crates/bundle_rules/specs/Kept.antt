-- What a bundler keeps from call to call: the files that were met, the trees that were loaded, and
-- which file each pair of a file and a specifier is (ECMA-262, 16.2.1.7 HostResolveImportedModule:
-- the same pair gives the same module each time).
use Rattle.std.specs.Prelude.{◌≡◌, ℕ, ◌+◌, ◌*◌, ◌&&◌, Bool, List, [], ◌∷◌, ◌++◌, Option, Some, length, position, slice_get, bytes_eq, option_and_then}
use Rattle.std.specs.Map.{lookup}
use Rattle.bundle_tree_names.specs.FileName.{Name, name_eq}
use Rattle.bundle_rules.specs.Nodes.{Text}
use Rattle.bundle_rules.specs.Entries.{Settings}
use Rattle.bundle_rules.specs.Program.{Loaded, Program}
pub use Rattle.bundle_rules.specs.Cleared.{cleared_head, cleared_item, cleared}

-- a specifier, and the file that asks for it
pub record Asked : Type 0 where
  pub file : Name
  pub specifier : Text

-- whether two are the same
abbrev pub asked_eq : Asked → Asked → Bool
asked_eq a b = name_eq a.file b.file && bytes_eq a.specifier b.specifier

-- what is kept: the files that were met, in the order of meeting, where the number of a file is its
-- place; the trees by file; the files by pair
pub record Kept : Type 0 where
  pub names : List Name
  pub trees : List (Name × Loaded)
  pub resolved : List (Asked × Name)

-- nothing is kept
abbrev pub nothing_kept : Kept
nothing_kept = record { names = []; trees = []; resolved = [] }

-- the number of a file that was met
abbrev pub number_in : Kept → Name → Option ℕ
number_in kept file = position (name_eq file) kept.names

-- the module that is kept of a file
abbrev pub kept_module : Kept → Name → Option Loaded
kept_module kept file = lookup (name_eq file) kept.trees

-- the file that is kept for a pair
abbrev pub kept_file : Kept → Asked → Option Name
kept_file kept asked = lookup (asked_eq asked) kept.resolved

-- How what is kept grows.

-- what a loader and a resolver may answer to a request
pub record Answers : Type 1 where
  pub may_load : Name → Loaded → Type 0
  pub may_resolve : Asked → Name → Type 0

-- what is kept only grows: numbers, trees and files by pair stay
pub record Stays (old new : Kept) : Type 0 where
  pub names : (more : List Name) × (new.names ≡ old.names ++ more)
  pub trees : (more : List (Name × Loaded)) × (new.trees ≡ old.trees ++ more)
  pub resolved : (more : List (Asked × Name)) × (new.resolved ≡ old.resolved ++ more)

-- Numbers of files.

-- a file gets its number, and nothing else changes; one that was met keeps it, and another gets the
-- next
pub record IsNumbered (old : List Name) (file : Name) (n : ℕ) (new : List Name) : Type 0 where
  pub there : slice_get new n ≡ Some file
  pub known : (m : ℕ) → slice_get old m ≡ Some file → (new ≡ old) × (n ≡ m)
  pub next : ((m : ℕ) → slice_get old m ≡ Some file → ⊥) →
      (new ≡ old ++ file ∷ []) × (n ≡ length old)

-- the contexts of a module: the local one and that of its exports
abbrev pub local_context : ℕ → ℕ
local_context n = 2 * n + 2

-- the context of what a module exports
abbrev pub export_context : ℕ → ℕ
export_context n = 2 * n + 3

-- What is kept, as a program.

-- the number of the file that a specifier leads to, in the file with this number
abbrev pub led_to : Kept → ℕ → Text → Option ℕ
led_to kept m s =
    option_and_then
    (λ file.
    option_and_then (number_in kept) (kept_file kept (record { file = file; specifier = s })))
    (slice_get kept.names m)

-- the program of an entry over what is kept
abbrev pub program_of : Kept → Settings → ℕ → Program
program_of kept settings entry = record {
  settings = settings;
  entry = entry;
  count = length kept.names;
  files = slice_get kept.names;
  modules = λ m. option_and_then (kept_module kept) (slice_get kept.names m);
  leads = led_to kept;
}
