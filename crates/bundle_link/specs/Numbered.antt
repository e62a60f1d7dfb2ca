-- When modules that are handed in by their numbers are those of a program.
use Rattle.std.specs.Prelude.{◌≡◌, ℕ, Bool, List, [], Some, String, Contains, map, slice_get}
use Rattle.std.specs.declared.alloc.Global.{Global}
use Rattle.std.specs.BTreeMap.{BTreeMap, get_by_text}
use Rattle.bundle_rules.specs.Nodes.{Text}
use Rattle.bundle_rules.specs.Bound.{is_free}
use Rattle.bundle_rules.specs.Entries.{requests_of}
use Rattle.bundle_rules.specs.Program.{Program, tree_of}
use Rattle.bundle_link_index.specs.Numbered.{HasNoDoubles}
use Rattle.bundle_link_index.specs.Programs.{IsTableOf}
use Rattle.bundle_link_index.specs.Said.{HasEachOnce}
use Rattle.bundle_link.specs.Leads.{led, module_place, last_told}
use Rattle.bundle_link.specs.declared.module.NumberedModule.{NumberedModule}

-- the numbers of modules
abbrev pub numbers : List NumberedModule → List ℕ
numbers modules = map (λ its. its.id) modules

-- at these places the texts of a module lead to the modules of these numbers
abbrev pub IsPlacedBy : List ℕ → NumberedModule → BTreeMap (String Global) ℕ → Type 0
IsPlacedBy ids its leads = (s : Text) →
    get_by_text leads s ≡ last_told (module_place ids) its.deps.now s

-- the table of a module is that of its tree, its requests too, and its texts lead where they lead
-- in the program
pub record IsNumberedOf (p : Program) (its : NumberedModule) : Type 0 where
  pub table : IsTableOf p its.id its.tables.now
  pub requests :
      map (λ text. text.now) its.tables.now.requests.items
      ≡ requests_of p.settings (is_free (tree_of p its.id)) (tree_of p its.id)
  pub leads : (s : Text) → p.leads its.id s ≡ led its.deps.now s

-- the modules are those of the program: their numbers differ, the entry and all that specifiers
-- lead to are among them, and no other number has a tree
pub record AreNumberedOf
    (p : Program) (modules : List NumberedModule) (entry : ℕ) (require : Bool) : Type 0 where
  pub each : (i : ℕ) (its : NumberedModule) → slice_get modules i ≡ Some its → IsNumberedOf p its
  pub apart : HasNoDoubles (numbers modules)
  pub others : (m : ℕ) → (Contains (numbers modules) m → ⊥) → tree_of p m ≡ []
  pub there : (m d : ℕ) (s : Text) → p.leads m s ≡ Some d → Contains (numbers modules) d
  pub begins : p.entry ≡ entry
  pub entry_there : Contains (numbers modules) entry
  pub requires : p.settings.require ≡ require
  pub once : HasEachOnce p
