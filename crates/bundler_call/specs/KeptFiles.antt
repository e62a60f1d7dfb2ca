-- What a `Kept` holds, as plain data but for the trees.
use Rattle.std.specs.Prelude.{ℕ, ◌<◌, Contains, IsSome, List}
use Rattle.std.specs.Map.{lookup}
use Rattle.std.specs.String.{string_bytes}
use Rattle.bundle_tree_names.specs.FileName.{Name, name_eq, name_of}
use Rattle.bundle_rules.specs.Kept.{Asked}
use Rattle.bundler_call.specs.declared.kept.Kept.{Kept}
use Rattle.bundler_call.specs.declared.kept.Request.{Request}

-- what a request says: a specifier, and the file that asks for it
abbrev pub asked_of : Request → Asked
asked_of request =
    record { file = name_of request.file; specifier = string_bytes request.specifier }

module _ {M : Type 0} where
  -- the files that were met, in the order of meeting
  abbrev pub names_in : Kept M → List Name
  names_in kept = kept.names

  -- the trees in the order of loading, each with its file
  abbrev pub trees_in : Kept M → List (Name × M)
  trees_in kept = kept.trees

  -- the files that requests lead to
  abbrev pub resolved_in : Kept M → List (Asked × Name)
  resolved_in kept = kept.resolved

  -- the requests that have a number
  abbrev pub asked_in : Kept M → List Asked
  asked_in kept = kept.asked

  -- for how many more trees there is room
  abbrev pub tree_room : Kept M → ℕ
  tree_room kept = kept.tree_room

  -- there is room for the file that this request leads to
  abbrev pub HasRoomFor : Kept M → Asked → Type 0
  HasRoomFor kept asked = (0 < kept.target_room) × Contains (asked_in kept) asked

  -- each file whose tree is kept was met
  abbrev pub LoadedAreMet : Kept M → Type 0
  LoadedAreMet kept = (file : Name) → IsSome (lookup (name_eq file) (trees_in kept)) →
      Contains (names_in kept) file
