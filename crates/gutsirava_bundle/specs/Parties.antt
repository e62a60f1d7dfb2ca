-- What the command's loader, resolver and hook may answer.
use Rattle.std.specs.Prelude.{◌≡◌, ℕ, Bool, List, [], Option, Some, slice_get}
use Rattle.bundle_tree_ast.specs.declared.expr.Expr.{Expr}
use Rattle.bundle_tree_ast.specs.declared.module.Module.{Module}
use Rattle.bundle_tree_ast.specs.declared.prop.KeyValueProp.{KeyValueProp}
use Rattle.bundle_tree_names.specs.FileName.{Name, name_of}
use Rattle.bundle_tree.specs.declared.load.ModuleData.{ModuleData}
use Rattle.gutsirava_graph.specs.Numbers.{unit_name, IsKeyOf, IsNameOf}

-- of these trees, that of the module which the name is of may be given for it
pub record HandsOver (trees : List (Option Module)) (file : Name) (given : ModuleData) : Type 0
  where
    pub unit : ℕ
    pub its_name : IsNameOf file unit
    pub there : slice_get trees unit ≡ Some (Some given.module)
    pub its_file : name_of given.file_name ≡ unit_name unit

-- a key leads to the module that it asks for
pub record LeadsTo (specifier : List ℕ) (file : Name) : Type 0 where
  pub unit : ℕ
  pub its_key : IsKeyOf specifier unit
  pub its_file : file ≡ unit_name unit

-- `import.meta` has no properties
abbrev pub gives_nothing : Name → Bool → List (KeyValueProp Expr) → Type 0
gives_nothing file is_entry properties = properties ≡ []

-- that never fails
abbrev pub fails_nowhere : Name → Bool → Type 0
fails_nowhere file is_entry = ⊥

-- loading may fail for any file
abbrev pub may_fail_to_load : Name → Type 0
may_fail_to_load file = Unit {0}

-- and so may resolving
abbrev pub may_fail_to_resolve : Name → List ℕ → Type 0
may_fail_to_resolve base specifier = Unit {0}
