-- What the hook is asked for, and what may be wrong there.
use Rattle.std.specs.Prelude.{◌≡◌, ℕ, Bool, List, Option, Some, flat_map, map, slice_get}
use Rattle.bundle_syntax.specs.Item.{Item, item_of}
use Rattle.bundle_tree_ast.specs.declared.expr.Expr.{Expr}
use Rattle.bundle_tree_ast.specs.declared.prop.KeyValueProp.{KeyValueProp}
use Rattle.bundle_tree_listed.specs.Tree.{key_value_prop_items}
use Rattle.bundle_tree_names.specs.FileName.{Name}
use Rattle.bundle_rules.specs.Declarations.{BySymbol}
use Rattle.bundle_rules.specs.Scopes.{Es}
use Rattle.bundle_scope_denote.specs.Listed.{IsDenotationTable}
use Rattle.bundle_rules.specs.Program.{Program}
use Rattle.bundle_rules.specs.Cleared.{cleared}
use Rattle.bundle_rules.specs.Bundle.{AreFaultless, properties_tree}
use Rattle.bundle_rules.specs.Faults.{Fault, HookFails, PropertiesFault}
use Rattle.bundler_entry.specs.declared.meta.ReadMeta.{ReadMeta}

-- a hook that may give properties answers their list
pub record HoldsProperties (may_give : Name → Bool → List (KeyValueProp Expr) → Type 0)
    (file : Name) (is_entry : Bool) (items : List Item) : Type 0 where
  pub given : List (KeyValueProp Expr)
  pub may : may_give file is_entry given
  pub is : items ≡ flat_map (key_value_prop_items 0) given

-- an answer, cleared, has the fault, whatever the program is
abbrev pub IsFaultOfAnswer : Bool → Name → List Item → Fault → Type 0
IsFaultOfAnswer iife file answer f = (p : Program) → p.settings.iife ≡ iife →
    PropertiesFault p file (cleared answer) f

-- an answer, cleared, has no fault, whatever the program is
abbrev pub IsRightAnswer : Bool → List Item → Type 0
IsRightAnswer iife answer = (p : Program) → p.settings.iife ≡ iife → AreFaultless p (cleared answer)

-- what may be wrong where the hook is asked for a file to which its loader gave this name: it may
-- fail, or an answer that it may give has a fault
pub data IsAskedFault
    (may_give : Name → Bool → List (KeyValueProp Expr) → Type 0) (may_fail : Name → Bool → Type 0)
    (given : Name) (is_entry iife : Bool) (file : Name) :
    Fault → Type 0 where
  fails : may_fail given is_entry →
      IsAskedFault may_give may_fail given is_entry iife file (HookFails file)
  answers : {f : Fault} (answer : List Item) →
      HoldsProperties may_give given is_entry answer →
      IsFaultOfAnswer iife file answer f →
      IsAskedFault may_give may_fail given is_entry iife file f

-- the hook may give these properties, which have no fault
pub record IsAnswered (may_give : Name → Bool → List (KeyValueProp Expr) → Type 0) (given : Name)
    (is_entry iife : Bool) (answer : List Item) : Type 0 where
  pub held : HoldsProperties may_give given is_entry answer
  pub right : IsRightAnswer iife answer

-- what was read is this answer: its properties, the list of a module of one statement, an object
-- that has them, and what the names in that denote
pub record IsMetaRead (given : List (KeyValueProp Expr)) (meta : ReadMeta) : Type 0 where
  pub properties : meta.properties.now ≡ given
  pub list :
      map item_of meta.pieces.items ≡ properties_tree (flat_map (key_value_prop_items 0) given)
  pub names : IsDenotationTable BySymbol Es (map item_of meta.pieces.items) meta.names

-- what was read of answers is these answers
abbrev pub AreRead : List (Option ReadMeta) → Type 0
AreRead metas = (k : ℕ) (meta : ReadMeta) →
    slice_get metas k ≡ Some (Some meta) →
    IsMetaRead meta.properties.now meta
