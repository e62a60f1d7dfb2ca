-- What the program's loader, its resolver and its hook answer.
use Rattle.std.specs.Prelude.{◌≡◌, ◌≢◌, List, [], ◌++◌, if◌then◌else◌, ℕ, eqb, codes, Option, None, IsSomeAnd, MatchOption, String, Vec, flat_map}
use Rattle.std.specs.BTreeMap.{get_by_text, BTreeMap}
use Rattle.std.specs.declared.alloc.Global.{Global}
use Rattle.std.specs.List.{ends_with}
use Rattle.bundle_tree_ast.specs.declared.expr.Expr.{Expr}
use Rattle.bundle_tree_ast.specs.declared.module.Module.{Module}
use Rattle.bundle_tree_ast.specs.declared.prop.KeyValueProp.{KeyValueProp}
use Rattle.bundle_tree_listed.specs.Tree.{key_value_prop_items, module_items}
use Rattle.bundle_tree_names.specs.FileName.{Name, real, custom, name_of}
use Rattle.bundle_tree.specs.declared.load.ModuleData.{ModuleData}
use Rattle.bundle_json_document.specs.declared.parties.MetaHook.{MetaHook}

-- the module of a file; only a real file has one
abbrev pub file_module : BTreeMap (String Global) Module → Name → Option Module
file_module files (real path) = get_by_text files path
file_module files (custom text) = None

-- a tree with the list of the file's module is given, under the name of the file
pub record GivesModule (files : BTreeMap (String Global) Module) (file : Name)
    (given : ModuleData) : Type 0 where
  pub name : name_of given.file_name ≡ file
  pub tree :
      IsSomeAnd (file_module files file) (λ its. module_items 0 given.module ≡ module_items 0 its)

-- there is no module for the file
pub record LacksModule (files : BTreeMap (String Global) Module) (file : Name) : Type 0 where
  pub none : file_module files file ≡ None

-- a path, with `.js` behind it where it does not end so
abbrev pub script_path : List ℕ → List ℕ
script_path path = if ends_with eqb path (codes ".js") then path else path ++ codes ".js"

-- the specifier `./r` leads to the file `r`, if there is an `r`
pub record SpecifierLeads (specifier : List ℕ) (file : Name) : Type 0 where
  pub path : List ℕ
  pub is_there : path ≢ []
  pub split : specifier ≡ codes "./" ++ path
  pub found : file ≡ real (script_path path)

-- the lists of a hook, by the names of their files
abbrev pub hook_lists : MetaHook → List (String Global × Vec (KeyValueProp Expr) Global)
hook_lists hook = hook.lists.entries

-- the list of a hook for a file; only a real file has one
abbrev pub hook_list_of : MetaHook → Name → Option (Vec (KeyValueProp Expr) Global)
hook_list_of hook (real path) = get_by_text hook.lists path
hook_list_of hook (custom text) = None

-- these are trees as in the hook's list for the file, and none where it has no list
abbrev pub GivesList : MetaHook → Name → List (KeyValueProp Expr) → Type 0
GivesList hook file given =
    MatchOption (hook_list_of hook file) (given ≡ [])
    (λ list.
    flat_map (key_value_prop_items 0) given ≡ flat_map (key_value_prop_items 0) list.items)
