-- How the entries are linked over a load list: what is read of it, and what is told of each entry
-- and of all.
use Rattle.std.specs.Prelude.{◌≡◌, ◌⊎◌, ℕ, ◌<◌, Bool, IfSome, List, Some, Contains, length, slice_get}
use Rattle.std.specs.declared.alloc.Global.{Global}
use Rattle.std.specs.declared.string.String.{String}
use Rattle.bundle_tree_ast.specs.declared.expr.Expr.{Expr}
use Rattle.bundle_tree_ast.specs.declared.prop.KeyValueProp.{KeyValueProp}
use Rattle.bundle_tree_ast.specs.declared.module.Module.{Module}
use Rattle.bundle_tree_listed.specs.Tree.{module_items}
use Rattle.bundle_tree_names.specs.FileName.{Name, name_of}
use Rattle.bundle_tree_names.specs.ModuleIdGenerator.{IsDistinct}
use Rattle.bundle_tree_names.specs.declared.file_name.FileName.{FileName}
use Rattle.bundle_rules.specs.Entries.{Settings}
use Rattle.bundle_rules.specs.Faults.{Fault, Parties, fault_of}
use Rattle.bundle_rules.specs.Judging.{Entry, AcceptsProgram, IsProgramOf, RefusesEntries, RefusesProgram}
use Rattle.bundle_rules.specs.Kept.{Kept, number_in, program_of}
use Rattle.bundle_rules.specs.Program.{Program}
use Rattle.bundler_entry.specs.Finished.{IsFinished}
use Rattle.bundler_entry.specs.Made.{IsContextsFaultOf, IsEntryBundle}
use Rattle.bundler_entry.specs.Source.{IsReadProgram as IsReadAs}
use Rattle.bundler_entry.specs.Unlinked.{error_of}
use Rattle.bundler_entry.specs.declared.call.OrderedConfig.{OrderedConfig}
use Rattle.bundler_entry.specs.declared.source.ReadFiles.{ReadFiles as Read}
use Rattle.bundler_entry.specs.declared.unlinked.EntryError.{EntryError}
use Rattle.bundler_call.specs.Kept.{parties_of, IsBounded}
use Rattle.bundler_call.specs.Loading.{files_on, ids_on, AreAsked, AreFilesNumbered}
use Rattle.bundler_call.specs.declared.load.LoadList.{LoadList}

-- a list is loaded: no file stands twice on it, its files have the numbers that are noted, which
-- are numbers that a file can have, and the requests of each are noted
pub record IsListLoaded (settings : Settings) (kept : Kept) (list : LoadList) : Type 0 where
  pub once : IsDistinct (files_on list)
  pub numbered : AreFilesNumbered kept list
  pub bounded : IsBounded kept
  pub asked : AreAsked settings kept list
  pub long : length list.deps.items ≡ length (files_on list)

-- what was read of a list is the program of each entry, and has the numbers of its files
pub record IsReadListOf (settings : Settings) (kept : Kept) (list : LoadList)
    (read : Read) : Type 0 where
  pub loaded : IsListLoaded settings kept list
  pub program : (entry : ℕ) → IsReadAs (program_of kept settings entry) read
  pub ids : read.files.ids.keys ≡ ids_on list

-- the number of a file, which is on the list
abbrev pub IsFileOn : Kept → LoadList → Name → ℕ → Type 0
IsFileOn kept list file id = (number_in kept file ≡ Some id) × Contains (ids_on list) id

-- the number of an entry's file, which is on the list
abbrev pub IsNumberedOn : Kept → LoadList → String Global × FileName → ℕ → Type 0
IsNumberedOn kept list entry id = IsFileOn kept list (name_of entry.1) id

-- what this hook may answer, and where it may fail; nobody else is asked
abbrev pub answered_by : (Name → Bool → List (KeyValueProp Expr) → Type 0) →
    (Name → Bool → Type 0) → Parties
answered_by may_give may_fail_hook =
    parties_of (λ file given. ⊥) (λ file. ⊥) (λ file specifier found. ⊥) (λ file specifier. ⊥)
    may_give may_fail_hook

-- a module is what is merged of a program that is accepted: finished, it is the program's bundle
pub record IsMergedFor (parties : Parties) (config : OrderedConfig) (p : Program)
    (merged : Module) : Type 0 where
  pub accepted : AcceptsProgram p parties
  pub bundle : (made : Module) →
      IsFinished config.base (module_items 0 merged) (module_items 0 made) →
      IsEntryBundle p parties.hooks (module_items 0 made)

-- why a program makes no module: its first fault or the first of the hook's answers, or want of
-- memory; or contexts do not suffice, and it is accepted
abbrev pub IsRefusalOfProgram : Parties → Program → EntryError → Type 0
IsRefusalOfProgram parties p unlinked =
    IfSome (fault_of (error_of unlinked)) (λ fault.
    RefusesProgram p parties fault
    ⊎ (AcceptsProgram p parties × IsContextsFaultOf p parties.hooks fault))

-- contexts do not suffice for the program of one of the entries: those before it are accepted, and
-- so is its own
pub record LacksEntryContexts (kept : Kept) (settings : Settings) (parties : Parties)
    (entries : List Entry) (fault : Fault) : Type 0 where
  pub i : ℕ
  pub entry : Entry
  pub there : slice_get entries i ≡ Some entry
  pub accepted_before : (j : ℕ) (other : Entry) (its : Program) →
      j < i →
      slice_get entries j ≡ Some other →
      IsProgramOf kept settings other its →
      AcceptsProgram its parties
  pub p : Program
  pub its_program : IsProgramOf kept settings entry p
  pub accepted : AcceptsProgram p parties
  pub contexts : IsContextsFaultOf p parties.hooks fault

-- why the entries make no bundles: the fault of the first that is refused, or want of memory; or
-- contexts do not suffice
abbrev pub IsRefusalOfEntries : Parties → Settings → Kept → List Entry → EntryError → Type 0
IsRefusalOfEntries parties settings kept entries unlinked =
    IfSome (fault_of (error_of unlinked)) (λ fault.
    RefusesEntries kept settings parties entries fault
    ⊎ LacksEntryContexts kept settings parties entries fault)
