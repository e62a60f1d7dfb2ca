-- The numbering of file names: a list of names, in which the number of a name is its place.
use Rattle.std.specs.Prelude.{◌≡◌, ℕ, List, length, slice_get, map, Some}
use Rattle.bundle_tree_names.specs.FileName.{Name, name_of}
use Rattle.bundle_tree_names.specs.declared.file_name.FileName.{FileName}
use Rattle.bundle_tree_names.specs.declared.error.Error.{Error}
use Rattle.bundle_tree_names.specs.declared.error.Error.TheVariants.{ContextsUsedUp, OutOfMemory}

-- no name stands at two places
pub record IsDistinct (names : List Name) : Type 0 where
  pub one_place : (i j : ℕ) (name : Name) →
      slice_get names i ≡ Some name →
      slice_get names j ≡ Some name →
      i ≡ j

-- what the files are named, in their order
abbrev pub names_of : List FileName → List Name
names_of files = map name_of files

-- why a name that is not among the known ones gets no number: there is no memory, or each number
-- that has its two contexts below 2 ^ 32 is another name's
abbrev pub IsRefusal : List Name → Name → Error → Type 0
IsRefusal known name OutOfMemory = Unit {0}
IsRefusal known name (ContextsUsedUp file) = (length known ≡ 2147483647) × (name_of file ≡ name)
IsRefusal known name _ = ⊥
