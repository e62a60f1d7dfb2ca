-- When the modules that an entry reaches are those of a program, and linked.
use Rattle.std.specs.Prelude.{◌≡◌, ℕ, ◌<◌, ◌≤◌, List, Option, Some, Contains, length, slice_get}
use Rattle.std.specs.Option.{option_and_then}
use Rattle.std.specs.declared.alloc.Global.{Global}
use Rattle.std.specs.declared.string.String.{String}
use Rattle.std.specs.BTreeMap.{BTreeMap, get_by_text}
use Rattle.bundle_tree_names.specs.FileName.{name_of}
use Rattle.bundle_tree_names.specs.declared.file_name.FileName.{FileName}
use Rattle.bundle_rules.specs.Nodes.{Text}
use Rattle.bundle_rules.specs.Program.{Program, file_of, module_of}
use Rattle.bundle_rules.specs.Faults.{IsFaultlessProgram, fault_of, last_number}
use Rattle.bundle_link_index.specs.declared.target.LinkModule.{LinkModule}
use Rattle.bundle_link.specs.Programs.{is_one_call}
use Rattle.bundle_link.specs.Refusals.{Links}
use Rattle.bundle_link_targets.specs.Linked.{HandsOver, IsLinkingOf}
use Rattle.bundle_link_targets.specs.Meant.{AreModules}
use Rattle.bundle_link_targets.specs.declared.linking.Linking.{Linking}
use Rattle.bundle_link.specs.Alike.{IsAlike, IsModuleAt}
use Rattle.bundle_link.specs.Judged.{fault_place as module_of_fault, numbers_below, says}
use Rattle.bundle_link.specs.Reached.{IsReachedOf}
use Rattle.bundle_link.specs.declared.judging.DoubledNames.{DoubledNames}
use Rattle.bundle_link.specs.declared.judging.ModuleFault.{ModuleFault}
use Rattle.bundle_link.specs.declared.reached.Reached.{Reached}
use Rattle.bundle_order_sort.specs.Plan.{IsPlanAsked}
use Rattle.bundler_entry.specs.Finished.{is_renaming}
use Rattle.bundler_entry.specs.Source.{IsReadProgram, IsSourceOf}
use Rattle.bundler_entry.specs.Unlinked.{error_of}
use Rattle.bundler_entry.specs.declared.call.EntryCall.{EntryCall}
use Rattle.bundler_entry.specs.declared.linked.LinkedEntry.{LinkedEntry}
use Rattle.bundler_entry.specs.declared.source.ReadFile.{ReadFile}
use Rattle.bundler_entry.specs.declared.unlinked.EntryError.{EntryError}

-- the numbers of the files of a call
abbrev pub ids_of : EntryCall → List ℕ
ids_of call = call.program.now.files.ids.keys

-- the files and the settings of a call are those of a program, whose entry is this; their numbers
-- have contexts of their own, and there are as many as the program knows
pub record IsCallOf (p : Program) (entry : ℕ) (call : EntryCall) : Type 0 where
  pub program : IsReadProgram p call.program.now
  pub links : Links call.config.now.base p.settings
  pub iife : p.settings.iife ≡ is_one_call call.config.now.base.module
  pub renames : p.settings.renames ≡ is_renaming call.config.now.base
  pub in_standard_order : p.settings.in_standard_order ≡ call.config.now.in_standard_order
  pub begins : p.entry ≡ entry
  pub there : Contains (ids_of call) entry
  pub named : file_of p entry ≡ Some (name_of call.entry.now)
  pub bounded : (m : ℕ) → Contains (ids_of call) m → m ≤ last_number
  pub counted : call.program.now.count ≤ p.count

-- the modules are those that the entry reaches
abbrev pub IsReachedIn : Program → EntryCall → Reached → Type 0
IsReachedIn p call reached = IsReachedOf p (ids_of call) reached

-- what was read of module k
abbrev pub source_in : EntryCall → Reached → ℕ → Option ReadFile
source_in call reached k =
    option_and_then (slice_get call.program.now.sources.items) (slice_get reached.places.items k)

-- the modules by their places on the list are the second program: the modules of the first stand
-- there with what was read of them, and its texts lead as it is noted
pub record AreByPlaces (p q : Program) (call : EntryCall) (reached : Reached) : Type 0 where
  pub alike : IsAlike p q (IsModuleAt reached.list.items)
  pub modules : (m k : ℕ) → IsModuleAt reached.list.items m k → module_of p m ≡ module_of q k
  pub sources : (k : ℕ) (source : ReadFile) →
      source_in call reached k ≡ Some source →
      IsSourceOf q k source
  pub leads : (k : ℕ) (its : BTreeMap (String Global) ℕ) (s : Text) →
      slice_get reached.leads.items k ≡ Some its →
      q.leads k s ≡ get_by_text its s

-- no module of a program has a fault, and this is what its modules, by their places on the list,
-- are linked to
pub record AreEntryLinks (p : Program) (call : EntryCall) (reached : Reached)
    (linking : Linking) : Type 0 where
  pub faultless : IsFaultlessProgram p
  pub places : Program
  pub by_places : AreByPlaces p places call reached
  pub modules : AreModules places
  pub linked : IsLinkingOf places linking
  pub handed : HandsOver places (numbers_below (length reached.list.items)) linking

-- the modules that the entry reaches are linked, and the blocks are those that the program asks for
pub record IsLinkedEntry (p : Program) (call : EntryCall) (linked : LinkedEntry) : Type 0 where
  pub reached : IsReachedIn p call linked.reached
  pub links : AreEntryLinks p call linked.reached linked.linking
  pub planned : IsPlanAsked p.settings.in_standard_order call.program.now.files.graph p.entry
      linked.reached.list.items linked.plan

-- of module k there is what was read
pub record HasPlace (sources : List ReadFile) (reached : Reached) (k : ℕ) : Type 0 where
  pub place : ℕ
  pub source : ReadFile
  pub its_place : slice_get reached.places.items k ≡ Some place
  pub its_source : slice_get sources place ≡ Some source
  pub within : k < length reached.leads.items

-- the same of the first n modules
abbrev pub HasPlaces : List ReadFile → Reached → ℕ → Type 0
HasPlaces sources reached n = (k : ℕ) → k < n → HasPlace sources reached k

-- it is module k as it is linked
pub record IsPartAt (sources : List ReadFile) (reached : Reached) (k : ℕ)
    (part : LinkModule) : Type 0 where
  pub place : ℕ
  pub source : ReadFile
  pub its_place : slice_get reached.places.items k ≡ Some place
  pub its_source : slice_get sources place ≡ Some source
  pub tables : part.tables.now ≡ source.tables
  pub leads : slice_get reached.leads.items k ≡ Some part.leads.now

-- these are the first n modules as they are linked
pub record AreLinkModules (sources : List ReadFile) (reached : Reached) (n : ℕ)
    (parts : List LinkModule) : Type 0 where
  pub long : length parts ≡ n
  pub each : (k : ℕ) (part : LinkModule) → slice_get parts k ≡ Some part →
      IsPartAt sources reached k part

-- it is what is noted of module k
pub record IsNotedAt (sources : List ReadFile) (reached : Reached) (k : ℕ)
    (noted : DoubledNames) : Type 0 where
  pub place : ℕ
  pub source : ReadFile
  pub its_place : slice_get reached.places.items k ≡ Some place
  pub its_source : slice_get sources place ≡ Some source
  pub same : noted ≡ source.noted

-- this is what is noted of the first n modules
pub record AreNotes (sources : List ReadFile) (reached : Reached) (n : ℕ)
    (notes : List DoubledNames) : Type 0 where
  pub long : length notes ≡ n
  pub each : (k : ℕ) (noted : DoubledNames) →
      slice_get notes k ≡ Some noted →
      IsNotedAt sources reached k noted

-- the file of a call at a place
abbrev pub IsFileAt : EntryCall → Reached → ℕ → FileName × ℕ → Type 0
IsFileAt call reached k file =
    (place : ℕ) × (slice_get reached.places.items k ≡ Some place)
    × (slice_get call.program.now.files.files.now place ≡ Some file)

-- the files of the first n modules are there
abbrev pub HasFiles : EntryCall → Reached → ℕ → Type 0
HasFiles call reached n =
    (k : ℕ) → k < n → (file : FileName × ℕ) × IsFileAt call reached k file

-- the refusal tells what is told of the file of its module
abbrev pub TellsFileAt : EntryCall → Reached → ModuleFault → EntryError → Type 0
TellsFileAt call reached told refusal = (file : FileName × ℕ) →
    IsFileAt call reached (module_of_fault told) file →
    fault_of (error_of refusal) ≡ Some (says told (name_of file.0))
