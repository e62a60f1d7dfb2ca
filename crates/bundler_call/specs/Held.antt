-- What a bundler keeps, read of its tables by numbers.
use Rattle.std.specs.Prelude.{◌≡◌, ℕ, ◌<◌, ◌≤◌, Bool, List, [], Some, get_or, if◌then◌else◌, length, map, slice_get}
use Rattle.bundle_tree_names.specs.FileName.{Name, real, custom, name_of}
use Rattle.bundle_tree_names.specs.declared.file_name.FileName.{FileName}
use Rattle.bundle_rules.specs.Kept.{Asked}
use Rattle.bundle_rules.specs.Nodes.{Text}

-- the files that were met, in the order of meeting; the trees in the order of loading, each with
-- its file; the requests that have a number; the files that requests lead to; and for how many more
-- trees and requests there is room
pub record HeldFiles (M : Type 0) : Type 0 where
  pub names : List Name
  pub trees : List (Name × M)
  pub asked : List Asked
  pub resolved : List (Asked × Name)
  pub tree_room : ℕ
  pub target_room : ℕ

-- a file, by whether it is one of the file system
abbrev pub file_named : Bool × Text → Name
file_named file = if file.0 then real file.1 else custom file.1

-- the file with this number
abbrev pub name_at : List Name → ℕ → Name
name_at names number = get_or names number (custom [])

-- a request, by the number of the file that asks
abbrev pub asked_by : List Name → ℕ × Text → Asked
asked_by names request = record { file = name_at names request.0; specifier = request.1 }

-- the request with this number
abbrev pub asked_at : List Asked → ℕ → Asked
asked_at asked number = get_or asked number (record { file = custom []; specifier = [] })

-- the trees, each with its file
abbrev pub trees_by : {M : Type 0} → List Name → List (ℕ × M) → List (Name × M)
trees_by names trees = map (λ e. (name_at names e.0, e.1)) trees

-- the files that requests lead to, each with its request
abbrev pub resolved_by : List Asked → List (ℕ × FileName) → List (Asked × Name)
resolved_by asked targets = map (λ e. (asked_at asked e.0, name_of e.1)) targets

-- each number is one of so many
abbrev pub AreBelow : {X : Type 0} → ℕ → List (ℕ × X) → Type 0
AreBelow {X} count list = (i : ℕ) (e : ℕ × X) → slice_get list i ≡ Some e → e.0 < count

-- requests and trees are of files that have a number, and a file that is led to is that of a
-- request that has one; no more files were met than there are numbers
pub record AreNumbered {M : Type 0} (files : List (Bool × Text)) (trees : List (ℕ × M))
    (requests : List (ℕ × Text)) (targets : List (ℕ × FileName)) : Type 0 where
  pub bounded : length files ≤ 2147483647
  pub loaded : AreBelow (length files) trees
  pub asking : AreBelow (length files) requests
  pub led : AreBelow (length requests) targets
