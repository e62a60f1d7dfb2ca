-- What a bundler keeps, its parties and its settings, in the words of the definitions.
use Rattle.std.specs.Prelude.{◌≡◌, ◌⊎◌, ℕ, ◌+◌, ◌≤◌, Bool, not, List, Some, None, Contains, IsSome, length, map}
use Rattle.std.specs.String.{string_bytes}
use Rattle.std.specs.declared.alloc.Global.{Global}
use Rattle.std.specs.declared.string.String.{String}
use Rattle.bundle_tree_ast.specs.declared.expr.Expr.{Expr}
use Rattle.bundle_tree_ast.specs.declared.prop.KeyValueProp.{KeyValueProp}
use Rattle.bundle_tree_listed.specs.Tree.{module_items}
use Rattle.bundle_tree_names.specs.FileName.{Name, name_of}
use Rattle.bundle_tree_names.specs.declared.file_name.FileName.{FileName}
use Rattle.bundle_tree.specs.declared.load.ModuleData.{ModuleData}
use Rattle.bundle_rules.specs.Nodes.{Text}
use Rattle.bundle_rules.specs.Entries.{Settings}
use Rattle.bundle_rules.specs.Program.{Loaded}
use Rattle.bundle_rules.specs.Kept.{Asked, Answers, Kept, Stays, kept_file, kept_module}
use Rattle.bundle_rules.specs.Faults.{Parties, IsFaultless, last_number}
use Rattle.bundle_rules.specs.Judging.{Entry, Grows, requests_in}
use Rattle.bundler_call.specs.KeptFiles.{names_in, trees_in, resolved_in}
use Rattle.bundler_call.specs.declared.kept.Kept as store
use Rattle.bundle_link.specs.Programs.{is_one_call}
use Rattle.bundler_entry.specs.declared.call.OrderedConfig.{OrderedConfig}
pub use Rattle.bundler_entry.specs.Source.{kept_as}
pub use Rattle.bundler_entry.specs.Hook.{HoldsProperties}

-- a module as its loader hands it in
abbrev pub handed_in : ModuleData → Loaded
handed_in given =
    record { file_name = name_of given.file_name; items = module_items 0 given.module }

-- what is kept
abbrev pub kept_of : store.Kept ModuleData → Kept
kept_of kept =
    record {
      names = names_in kept;
      trees = map (λ e. (e.0, kept_as e.1)) (trees_in kept);
      resolved = resolved_in kept;
    }

-- a loader that may give a module hands in its list
pub record HandsIn (may_load : Name → ModuleData → Type 0) (file : Name)
    (loaded : Loaded) : Type 0 where
  pub given : ModuleData
  pub may : may_load file given
  pub is : loaded ≡ handed_in given

-- what a loader and a resolver may answer
abbrev pub answers_of : (Name → ModuleData → Type 0) → (Name → List ℕ → Name → Type 0) → Answers
answers_of may_load may_resolve =
    record
    { may_load = HandsIn may_load; may_resolve = λ asked. may_resolve asked.file asked.specifier }

-- what loader, resolver and hook may answer, and where they may fail
abbrev pub parties_of : (Name → ModuleData → Type 0) → (Name → Type 0) →
    (Name → List ℕ → Name → Type 0) → (Name → List ℕ → Type 0) →
    (Name → Bool → List (KeyValueProp Expr) → Type 0) → (Name → Bool → Type 0) → Parties
parties_of may_load may_fail_load may_resolve may_fail_resolve may_give may_fail_hook = record {
  answers = answers_of may_load may_resolve;
  hooks = record { may_answer = HoldsProperties may_give };
  may_fail_to_load = may_fail_load;
  may_fail_to_resolve = λ asked. may_fail_resolve asked.file asked.specifier;
  may_fail_to_answer = may_fail_hook;
}

-- the settings
abbrev pub settings_of : OrderedConfig → Settings
settings_of config = record {
  require = config.base.require;
  external = map string_bytes config.base.external_modules.items;
  iife = is_one_call config.base.module;
  renames = not config.base.disable_hygiene;
  most_modules = config.base.max_modules;
  in_standard_order = config.in_standard_order;
}

-- an entry: the name of its bundle, and its file
abbrev pub entry_of : String Global × FileName → Entry
entry_of entry = record { name = string_bytes entry.0; file = name_of entry.1 }

-- The way of a call.

-- a file may be met: it is that of an entry, or a request leads to it
abbrev pub MayBeMet : Kept → Name → List Name → Type 0
MayBeMet kept file entries =
    Contains entries file ⊎ ((asked : Asked) × (kept_file kept asked ≡ Some file))

-- a file was met
abbrev pub IsFileMet : Kept → Name → Type 0
IsFileMet kept file = Contains kept.names file

-- no more files were met than there are numbers
abbrev pub IsBounded : Kept → Type 0
IsBounded kept = length kept.names ≤ last_number + 1

-- the module of a file is kept
abbrev pub IsKept : Kept → Name → Type 0
IsKept kept file = IsSome (kept_module kept file)

-- a kept file that has no fault of its own requests this
pub record IsRequested (settings : Settings) (kept : Kept) (asked : Asked) : Type 0 where
  pub asking : Loaded
  pub there : kept_module kept asked.file ≡ Some asking
  pub faultless : IsFaultless asked.file asking.items
  pub requested : Contains (requests_in settings asking.items) asked.specifier

-- such a file requests each of these specifiers
abbrev pub AreRequested : Settings → Kept → Name → List Text → Type 0
AreRequested settings kept file specifiers =
    (specifier : Text) → Contains specifiers specifier →
    IsRequested settings kept (record { file = file; specifier = specifier })

-- the parties stay what they are, and what is kept stays so
pub record Remains {L R : Type 0} (old_loader new_loader : L) (old_resolver new_resolver : R)
    (old new : Kept) : Type 0 where
  pub loader : new_loader ≡ old_loader
  pub resolver : new_resolver ≡ old_resolver
  pub stays : Stays old new

-- the parties stay what they are, and what is kept grows by their answers to what has to be asked,
-- where these are the settings and the files of the entries
pub record Advances
    {L R : Type 0} (may_load : L → Name → ModuleData → Type 0)
    (may_resolve : R → Name → List ℕ → Name → Type 0) (settings : Settings) (entries : List Name)
    (old_loader new_loader : L) (old_resolver new_resolver : R) (old new : Kept) : Type 0 where
  pub loader : new_loader ≡ old_loader
  pub resolver : new_resolver ≡ old_resolver
  pub grows :
      Grows (answers_of (may_load old_loader) (may_resolve old_resolver)) settings entries old new

-- the resolver stays what it is, and what is kept grows by the answers of both parties, as they
-- were, to what has to be asked, where these are the settings and the files of the entries
pub record Proceeds
    {L R : Type 0} (may_load : L → Name → ModuleData → Type 0)
    (may_resolve : R → Name → List ℕ → Name → Type 0) (settings : Settings) (entries : List Name)
    (old_loader : L) (old_resolver new_resolver : R) (old new : Kept) : Type 0 where
  pub resolver : new_resolver ≡ old_resolver
  pub grows :
      Grows (answers_of (may_load old_loader) (may_resolve old_resolver)) settings entries old new

-- for a file of which nothing is kept, a loader may give what another may, and fail where that may
pub record LoadsAlike {L : Type 0} (may_load : L → Name → ModuleData → Type 0)
    (may_fail_load : L → Name → Type 0) (first later : L) (kept : Kept) : Type 0 where
  pub gives : (file : Name) (given : ModuleData) → kept_module kept file ≡ None →
      may_load later file given → may_load first file given
  pub fails : (file : Name) → kept_module kept file ≡ None → may_fail_load later file →
      may_fail_load first file
