-- The program of which each tree is cleared, and modules that are the same once their trees are.
use Rattle.std.specs.Prelude.{◌≡◌, ℕ, List, [], Option, option_map, unwrap_or}
use Rattle.bundle_tree_names.specs.FileName.{Name}
use Rattle.bundle_syntax.specs.Item.{Item}
use Rattle.bundle_rules.specs.Cleared.{cleared}
use Rattle.bundle_rules.specs.Program.{Loaded, Program}

-- a module with a cleared tree
abbrev pub cleared_module : Loaded → Loaded
cleared_module loaded = record { file_name = loaded.file_name; items = cleared loaded.items }

-- modules by their numbers
abbrev pub ModulesByNumber : Type 0
ModulesByNumber = ℕ → Option Loaded

-- the program with these modules
abbrev pub with_modules : Program → ModulesByNumber → Program
with_modules p modules = record p { modules = modules }

-- the program with cleared trees, and the same files
abbrev pub cleared_program : Program → Program
cleared_program p = with_modules p (λ m. option_map cleared_module (p.modules m))

-- the name that a loader gave a module
abbrev pub name_in : ModulesByNumber → ℕ → Option Name
name_in modules m = option_map (λ loaded. loaded.file_name) (modules m)

-- the tree of a module; the empty list where there is none
abbrev pub tree_in : ModulesByNumber → ℕ → List Item
tree_in modules m = unwrap_or (option_map (λ loaded. loaded.items) (modules m)) []

-- modules that are the same once their trees are cleared
pub record AreSameCleared (f g : ModulesByNumber) : Type 0 where
  pub names : (m : ℕ) → name_in f m ≡ name_in g m
  pub trees : (m : ℕ) → cleared (tree_in f m) ≡ cleared (tree_in g m)
