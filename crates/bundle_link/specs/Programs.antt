-- When modules that a linker is handed are those of a program.
use Rattle.std.specs.Prelude.{◌≡◌, ◌⊎◌, ℕ, Bool, true, false, List, [], Some, Contains, map, slice_get, take}
use Rattle.bundle_tree_names.specs.FileName.{name_of}
use Rattle.bundle_tree_names.specs.declared.config.Config.{Config}
use Rattle.bundle_tree_names.specs.declared.config.ModuleType.{ModuleType}
use Rattle.bundle_tree_names.specs.declared.config.ModuleType.TheVariants.{Es, Iife}
use Rattle.bundle_tree_names.specs.declared.error.Error.{Error}
use Rattle.bundle_tree_names.specs.declared.error.Error.TheVariants.{OutOfMemory}
use Rattle.bundle_tree_listed.specs.Tree.{module_items}
use Rattle.bundle_link_tables.specs.declared.table.Tables.{Tables}
use Rattle.bundle_rules.specs.Faults.{IsFaultless}
use Rattle.bundle_rules.specs.Nodes.{Text}
use Rattle.bundle_rules.specs.Program.{Program, file_of, tree_of}
use Rattle.bundle_link_index.specs.Numbered.{HasNoDoubles}
use Rattle.bundle_link.specs.Alike.{IsModuleAt}
use Rattle.bundle_link.specs.Leads.{led}
use Rattle.bundle_link.specs.Linked.{IsLinkedOf}
use Rattle.bundle_link_targets.specs.Meant.{DeclaresDefaultOnce, IsModuleTree}
use Rattle.bundle_link.specs.Read.{AreTablesOf}
use Rattle.bundle_link.specs.Refusals.{IsTreeRefusal, Links}
use Rattle.bundle_link.specs.declared.link.Linker.{Linker}
use Rattle.bundle_link.specs.declared.transformed.TransformedModule.{TransformedModule}

-- whether a bundle is one function's call
abbrev pub is_one_call : ModuleType → Bool
is_one_call Es = false
is_one_call Iife = true

-- the numbers of modules
abbrev pub module_numbers : List TransformedModule → List ℕ
module_numbers modules = map (λ its. its.id) modules

-- the file and the tree of the module are those of the program, and its texts lead where they lead
-- in the program
pub record IsTransformedOf (p : Program) (its : TransformedModule) : Type 0 where
  pub file : file_of p its.id ≡ Some (name_of its.file_name)
  pub tree : tree_of p its.id ≡ module_items 0 its.tree.now
  pub leads : (s : Text) → p.leads its.id s ≡ led its.deps.items s

-- the modules, the settings and the entry are those of the program: the numbers of the modules
-- differ, the entry and all that specifiers lead to are among them, and no other number has a tree
pub record AreTransformedOf
    (p : Program) (modules : List TransformedModule) (config : Config) (entry : ℕ) : Type 0 where
  pub links : Links config p.settings
  pub iife : p.settings.iife ≡ is_one_call config.module
  pub each : (i : ℕ) (its : TransformedModule) → slice_get modules i ≡ Some its →
      IsTransformedOf p its
  pub apart : HasNoDoubles (module_numbers modules)
  pub others : (m : ℕ) → (Contains (module_numbers modules) m → ⊥) → tree_of p m ≡ []
  pub there : (m d : ℕ) (s : Text) → p.leads m s ≡ Some d → Contains (module_numbers modules) d
  pub begins : p.entry ≡ entry
  pub entry_there : Contains (module_numbers modules) entry

-- the tables are those of the tree of the module
abbrev pub HasTables : Config → TransformedModule → Tables → Type 0
HasTables config its tables =
    AreTablesOf config (name_of its.file_name) (module_items 0 its.tree.now) tables

-- none of these modules has a fault by itself
abbrev pub AreModulesFaultless : List TransformedModule → Type 0
AreModulesFaultless modules =
    (its : TransformedModule) →
    Contains modules its →
    IsFaultless (name_of its.file_name) (module_items 0 its.tree.now)

-- the refusal tells of the first fault of a module's tree, where no module in front of it has one
pub record HasFirstFaulty (modules : List TransformedModule) (error : Error) : Type 0 where
  pub place : ℕ
  pub its : TransformedModule
  pub there : slice_get modules place ≡ Some its
  pub told : IsTreeRefusal (name_of its.file_name) (module_items 0 its.tree.now) error
  pub before : AreModulesFaultless (take place modules)

-- it does so, or is for memory
abbrev pub IsRefusalOfFirst : List TransformedModule → Error → Type 0
IsRefusalOfFirst modules error = (error ≡ OutOfMemory) ⊎ HasFirstFaulty modules error

-- what the linker tells is of the program, whose trees are those of modules; its modules and
-- settings are those of the program, none of them has a fault by itself, they stand at the places
-- of their numbers, and their files are those of the program
pub record IsLinkerOf (p : Program) (linker : Linker) : Type 0 where
  pub modules : AreTransformedOf p linker.modules.items linker.config linker.entry
  pub faultless : AreModulesFaultless linker.modules.items
  pub numbered : linker.linked.ids.keys ≡ module_numbers linker.modules.items
  pub linked : IsLinkedOf p linker.linked
  pub trees : (m : ℕ) → IsModuleTree (tree_of p m)
  pub files : (place m : ℕ) →
      IsModuleAt linker.linked.ids.keys m place →
      (its : TransformedModule) × (slice_get linker.modules.items place ≡ Some its)
      × (file_of p m ≡ Some (name_of its.file_name))

-- the same, where no module has a default without a name beside an import that binds `default`
pub record IsSoundLinkerOf (p : Program) (linker : Linker) : Type 0 where
  pub of : IsLinkerOf p linker
  pub once : DeclaresDefaultOnce p
