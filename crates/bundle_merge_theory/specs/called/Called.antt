-- What a module has to be so that it can be one function's call.
use Rattle.std.specs.Prelude.{◌≡◌, ℕ, zero, suc, ◌+◌, ◌<◌, Bool, false, List, [], ◌∷◌, ◌++◌, fold}
use Rattle.bundle_syntax.specs.Item as h
use Rattle.bundle_syntax.specs.Item.{Item, Head}
use Rattle.bundle_rules.specs.Places.{Around, Spot, past}
use Rattle.bundle_rules.specs.Scopes.{Es}
use Rattle.bundle_rules.specs.Declarations.{Reading, declared, declared_from}
use Rattle.bundle_rules.specs.Bundle.{function_front}
use Rattle.bundle_rules.specs.Callable.{Every, IsTaken, is_module_head, AreStatements, module_with}

-- a node that is open
abbrev pub around_place : Head → ℕ → ℕ → Around
around_place head begins field = record { head = head; begins = begins; field = field }

-- the nodes around the body of the function, in this field of the body
abbrev pub called_path : Bool → ℕ → List Around
called_path is_async field =
    around_place h.BlockStmt 6 field ∷ around_place (h.Function false is_async) 5 1
    ∷ around_place h.FnExpr 4 1 ∷ around_place h.ParenExpr 3 0 ∷ around_place h.CallExpr 2 0
    ∷ around_place h.ExprStmt 1 0 ∷ around_place h.Module 0 0 ∷ []

-- a node that begins 6 places later
abbrev pub moved_around : Around → Around
moved_around node = record { head = node.head; begins = node.begins + 6; field = node.field }

-- a node of a statement
pub record IsInner (node : Around) : Type 0 where
  pub begins : 0 < node.begins
  pub head : is_module_head node.head ≡ false

-- `IsMoved is_async depth old new`: the nodes around a place of the module, `depth` of them in it,
-- and around the same place in the function
pub data IsPathMoved (is_async : Bool) : ℕ → List Around → List Around → Type 0 where
  outside : (field : ℕ) →
      IsPathMoved is_async zero (around_place h.Module 0 field ∷ []) (called_path is_async field)
  within : {depth : ℕ} {old new : List Around} (node : Around) → IsInner node →
      IsPathMoved is_async depth old new →
      IsPathMoved is_async (suc depth) (node ∷ old) (moved_around node ∷ new)

-- a spot of the module, with `depth` nodes of statements around it, and the same spot in the
-- function
pub record IsMovedSpot (is_async : Bool) (depth : ℕ) (s t : Spot) : Type 0 where
  pub at : t.place ≡ s.place + 6
  pub positive : 0 < s.place
  pub path : IsPathMoved is_async depth s.path t.path

-- the call of a function with these statements, with what follows them and ends it
abbrev pub call_with : Bool → List Item → List Item → List Item
call_with is_async stmts its = function_front is_async ++ (stmts ++ its)

-- where the statements begin
abbrev pub statements_start : Spot
statements_start = record { place = 1; path = around_place h.Module 0 0 ∷ [] }

abbrev pub call_start : Bool → Spot
call_start is_async = record { place = 7; path = called_path is_async 0 }

-- a module and a call with the same statements: what follows them declares nothing, and some scope
-- takes each declaration
pub record AreTwins
    (reading : Reading) (is_async : Bool) (stmts after its : List Item) : Type 0 where
  pub statements : AreStatements zero stmts
  pub taken : Every IsTaken (declared reading Es (module_with stmts after))
  pub none_after : declared_from reading Es (fold past statements_start stmts) after ≡ []
  pub none_its : declared_from reading Es (fold past (call_start is_async) stmts) its ≡ []

-- what is written on the nodes of a path that lie in statements
pub data Roots (P : Head → ℕ → Type 0) : ℕ → List Around → Type 0 where
  rooted : (field : ℕ) → Roots P zero (around_place h.Module 0 field ∷ [])
  deeper : {depth : ℕ} {path : List Around} (node : Around) → P node.head node.begins →
      Roots P depth path → Roots P (suc depth) (node ∷ path)
