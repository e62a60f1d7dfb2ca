-- What the hook is asked for the modules of a program.
use Rattle.std.specs.Prelude.{◌≡◌, ℕ, ◌==◌, ◌<◌, Bool, false, Contains, IsTrue, List, Option, Some, None, slice_get}
use Rattle.std.specs.List.{flat_map}
use Rattle.bundle_tree_ast.specs.declared.expr.Expr.{Expr}
use Rattle.bundle_tree_ast.specs.declared.prop.KeyValueProp.{KeyValueProp}
use Rattle.bundle_tree_listed.specs.Tree.{key_value_prop_items}
use Rattle.bundle_tree_names.specs.FileName.{Name}
use Rattle.bundle_syntax.specs.Item.{Item}
use Rattle.bundle_rules.specs.Entries.{has_import_meta}
use Rattle.bundle_rules.specs.Faults.{Fault}
use Rattle.bundle_rules.specs.Bundle.{AreFaultless}
use Rattle.bundle_rules.specs.Cleared.{cleared}
use Rattle.bundle_rules.specs.Program.{Loaded, Program, file_of, module_of, tree_of, IsReached}
use Rattle.bundler_entry.specs.Hook.{IsAnswered, IsAskedFault, IsRightAnswer}
use Rattle.bundler_entry.specs.declared.entry.MetaAnswer.{MetaAnswer}

-- the hook may answer without a fault for module m of a program
pub record IsAnsweredFor (may_give : Name → Bool → List (KeyValueProp Expr) → Type 0) (p : Program)
    (m : ℕ) : Type 0 where
  pub loaded : Loaded
  pub there : module_of p m ≡ Some loaded
  pub answer : List Item
  pub right : IsAnswered may_give loaded.file_name (m == p.entry) p.settings.iife answer

-- it may for each module before place i of the list that has `import.meta`
abbrev pub AreAnsweredBefore : (Name → Bool → List (KeyValueProp Expr) → Type 0) → Program →
    List ℕ → ℕ → Type 0
AreAnsweredBefore may_give p list i = (j m : ℕ) → j < i → slice_get list j ≡ Some m →
    IsTrue (has_import_meta (tree_of p m)) → IsAnsweredFor may_give p m

-- the first module at which what the hook is asked for has a fault
pub record IsRefusedAt (may_give : Name → Bool → List (KeyValueProp Expr) → Type 0)
    (may_fail : Name → Bool → Type 0) (p : Program) (list : List ℕ) (fault : Fault) : Type 0 where
  pub i : ℕ
  pub m : ℕ
  pub file : Name
  pub loaded : Loaded
  pub listed : slice_get list i ≡ Some m
  pub its_file : file_of p m ≡ Some file
  pub there : module_of p m ≡ Some loaded
  pub asked : IsTrue (has_import_meta (tree_of p m))
  pub wrong :
      IsAskedFault may_give may_fail loaded.file_name (m == p.entry) p.settings.iife file fault
  pub before : AreAnsweredBefore may_give p list i

-- module m has `import.meta`; this is its file, and this the name that its loader gave
pub record IsAskedModule (p : Program) (m : ℕ) (file given : Name) : Type 0 where
  pub loaded : Loaded
  pub there : module_of p m ≡ Some loaded
  pub named : given ≡ loaded.file_name
  pub its_file : file_of p m ≡ Some file
  pub asked : IsTrue (has_import_meta (tree_of p m))

-- what the hook is asked for module m has a fault
pub record IsRefusedFor (may_give : Name → Bool → List (KeyValueProp Expr) → Type 0)
    (may_fail : Name → Bool → Type 0) (p : Program) (m : ℕ) (fault : Fault) : Type 0 where
  pub file : Name
  pub given : Name
  pub its : IsAskedModule p m file given
  pub wrong : IsAskedFault may_give may_fail given (m == p.entry) p.settings.iife file fault

-- what the hook answered for module m of a program: nothing where it has no `import.meta`, and else
-- properties that it may give, without a fault
abbrev pub IsHookAnswer : (Name → Bool → List (KeyValueProp Expr) → Type 0) → Program → ℕ →
    Option (List (KeyValueProp Expr)) → Type 0
IsHookAnswer may_give p m None = has_import_meta (tree_of p m) ≡ false
IsHookAnswer may_give p m (Some given) =
    IsTrue (has_import_meta (tree_of p m)) × ((loaded : Loaded) × (module_of p m ≡ Some loaded)
    × may_give loaded.file_name (m == p.entry) given
    × IsRightAnswer p.settings.iife (flat_map (key_value_prop_items 0) given))

-- the answers for the modules before place i of the list: each is of one of them, and each of them
-- that has an `import.meta` has one
pub record AreAnswersBefore (may_give : Name → Bool → List (KeyValueProp Expr) → Type 0)
    (p : Program) (list : List ℕ) (i : ℕ) (answers : List MetaAnswer) : Type 0 where
  pub each : (answer : MetaAnswer) → Contains answers answer →
      (answer.which < i) × ((m : ℕ) × (slice_get list answer.which ≡ Some m)
      × IsHookAnswer may_give p m (Some answer.properties.items))
  pub all : (j m : ℕ) → j < i → slice_get list j ≡ Some m →
      IsTrue (has_import_meta (tree_of p m)) →
      (answer : MetaAnswer) × Contains answers answer × (answer.which ≡ j)

-- answers for modules that stand at their places: each is of a reached module that has an
-- `import.meta`, and has no fault; each such module has one
pub record AreAskedAnswers (q : Program) (answers : List MetaAnswer) : Type 0 where
  pub each : (answer : MetaAnswer) → Contains answers answer → IsReached q answer.which
      × IsTrue (has_import_meta (tree_of q answer.which))
      × AreFaultless q (cleared (flat_map (key_value_prop_items 0) answer.properties.items))
  pub all : (k : ℕ) → IsReached q k → IsTrue (has_import_meta (tree_of q k)) →
      (answer : MetaAnswer) × Contains answers answer × (answer.which ≡ k)
