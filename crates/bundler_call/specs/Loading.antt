-- The load list: which files stand on it, that they were met and are kept, which numbers they have,
-- and where their requests lead.
use Rattle.std.specs.Prelude.{◌≡◌, ◌⊎◌, ℕ, List, [], ◌∷◌, ◌++◌, Some, Contains, map, slice_get, string_bytes}
use Rattle.std.specs.declared.alloc.Global.{Global}
use Rattle.std.specs.declared.string.String.{String}
use Rattle.std.specs.declared.vec.Vec.{Vec}
use Rattle.bundle_tree_names.specs.FileName.{Name, name_of}
use Rattle.bundle_tree_names.specs.declared.file_name.FileName.{FileName}
use Rattle.bundle_rules.specs.Entries.{Settings}
use Rattle.bundle_rules.specs.Kept.{Kept, kept_file, kept_module, number_in}
use Rattle.bundle_rules.specs.Judging.{requests_in}
use Rattle.bundle_rules.specs.Program.{Loaded}
use Rattle.bundle_rules.specs.Faults.{IsFaultless}
use Rattle.bundler_call.specs.Kept.{IsFileMet}
use Rattle.bundler_call.specs.declared.load.LoadList.{LoadList}

-- the files on a load list, in their order
abbrev pub files_on : LoadList → List Name
files_on list = map (λ e. name_of e.0) list.files

-- their numbers
abbrev pub ids_on : LoadList → List ℕ
ids_on list = map (λ e. e.1) list.files

-- a file has gone last, unless it was there
abbrev pub GoesLast : List Name → Name → List Name → Type 0
GoesLast old file new =
    (Contains old file × (new ≡ old)) ⊎ ((Contains old file → ⊥) × (new ≡ old ++ file ∷ []))

-- a list with something behind it, or nothing
abbrev pub BeginsList : List Name → List Name → Type 0
BeginsList old new = (more : List Name) × (new ≡ old ++ more)

-- each of these files was met
abbrev pub AreMet : Kept → List Name → Type 0
AreMet kept files = (place : ℕ) (file : Name) → slice_get files place ≡ Some file →
    IsFileMet kept file

-- a file is kept, and is not at fault by itself
abbrev pub IsFileSound : Kept → Name → Type 0
IsFileSound kept file =
    (loaded : Loaded) × (kept_module kept file ≡ Some loaded) × IsFaultless file loaded.items

-- each of these files is
abbrev pub AreFilesSound : Kept → List Name → Type 0
AreFilesSound kept files = (place : ℕ) (file : Name) → slice_get files place ≡ Some file →
    IsFileSound kept file

-- the files on a load list have the numbers that are noted
abbrev pub AreFilesNumbered : Kept → LoadList → Type 0
AreFilesNumbered kept list = (place : ℕ) (e : FileName × ℕ) → slice_get list.files place ≡ Some e →
    number_in kept (name_of e.0) ≡ Some e.1

-- a request of a file leads to the number of the file that is kept for it, which is one of these
abbrev pub RequestLeads : Kept → List ℕ → Name → String Global × ℕ → Type 0
RequestLeads kept numbers file dep =
    (found : Name)
    × (kept_file kept (record { file = file; specifier = string_bytes dep.0 }) ≡ Some found)
    × (number_in kept found ≡ Some dep.1) × Contains numbers dep.1

-- each of these does
abbrev pub AllLead : Kept → List ℕ → Name → List (String Global × ℕ) → Type 0
AllLead kept numbers file deps = (dep : String Global × ℕ) → Contains deps dep →
    RequestLeads kept numbers file dep

-- these are the requests of a kept file, in their order, and each leads to the number of the file
-- that is kept for it, which is one of these
pub record IsAsked (settings : Settings) (kept : Kept) (numbers : List ℕ) (file : Name)
    (deps : List (String Global × ℕ)) : Type 0 where
  pub asked : (loaded : Loaded) ×
      (kept_module kept file ≡ Some loaded) ×
      (map (λ dep. string_bytes dep.0) deps ≡ requests_in settings loaded.items)
  pub leads : AllLead kept numbers file deps

-- the requests of a file were noted last
abbrev pub AreRequestsNoted : Settings → Kept → Name → (old new : LoadList) → Type 0
AreRequestsNoted settings kept file old new =
    (its : Vec (String Global × ℕ) Global) × (new.deps.items ≡ old.deps.items ++ its ∷ [])
    × IsAsked settings kept (ids_on new) file its.items

-- the requests of the files on a list that were worked on are noted
abbrev pub AreAsked : Settings → Kept → LoadList → Type 0
AreAsked settings kept list =
    (place : ℕ) (file : Name) (its : Vec (String Global × ℕ) Global) →
    slice_get (files_on list) place ≡ Some file → slice_get list.deps.items place ≡ Some its →
    IsAsked settings kept (ids_on list) file its.items
