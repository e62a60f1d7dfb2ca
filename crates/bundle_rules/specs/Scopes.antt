-- Scopes: which nodes make one, and what it covers (ECMA-262, 9.1 on environments; 10.2.11 and 15
-- on functions, 14.2 blocks, 14.7 loops, 14.12 switches, 14.15 catch, 15.7 classes, 16.2 modules).
-- A node makes a scope whether it declares a name there or not; a loop whose head declares nothing,
-- or a function without a name of its own, binds nothing in it.
use Rattle.std.specs.Prelude.{ℕ, ◌+◌, Bool as Truth, true, false, cond, ◌==◌, List, [], ◌∷◌, ◌++◌, Option, Some, None}
use Rattle.bundle_syntax.specs.Item as h
use Rattle.bundle_syntax.specs.Item.{Head}
use Rattle.bundle_rules.specs.Places.{Around}

-- what a tree is read as: the code of an ECMAScript module, or that of `function (module, exports)
-- { .. }`
pub data ModuleKind : Type 0 where
  Es : ModuleKind
  Cjs : ModuleKind

-- what makes a scope
pub data ScopeKind : Type 0 where
  -- the parameters of a function, method, accessor or constructor, and those of an arrow
  Parameters : ScopeKind
  ArrowParameters : ScopeKind
  -- the body of any of these, and that of a static block
  FunctionBody : ScopeKind
  StaticBody : ScopeKind
  -- any other block, or the cases of a switch; and the block of a catch
  Block : ScopeKind
  CatchBlock : ScopeKind
  -- a loop with its head, and a catch with its parameter
  Loop : ScopeKind
  Catch : ScopeKind
  -- a function expression or a class expression, for its own name
  FunctionName : ScopeKind
  ClassName : ScopeKind

-- a scope: the parameters `module` and `exports` of a CommonJS module, the top of a module, or that
-- of the node which begins at a position; no node makes two
pub data Scope : Type 0 where
  Wrapper : Scope
  Top : Scope
  Inner : ScopeKind → ℕ → Scope

-- the scopes in the order of their nodes, an outer one before those inside
abbrev pub scope_order : Scope → ℕ
scope_order Wrapper = 0
scope_order Top = 1
scope_order (Inner kind begins) = begins + 2

-- whether two scopes of one tree are the same
abbrev pub same_scope : Scope → Scope → Truth
same_scope a b = scope_order a == scope_order b

-- whether a block right inside such a node is the body of a function
abbrev pub has_function_body : Head → Truth
has_function_body (h.Function is_generator is_async) = true
has_function_body (h.ArrowExpr is_async) = true
has_function_body h.Constructor = true
has_function_body h.GetterProp = true
has_function_body h.SetterProp = true
has_function_body _ = false

-- which scope a block makes that stands right inside such a node
abbrev pub block_in : Head → ScopeKind
block_in h.StaticBlock = StaticBody
block_in h.CatchClause = CatchBlock
block_in head = cond (has_function_body head) FunctionBody Block

-- which scope a block makes, by the nodes around it
abbrev pub block_kind : List Around → ScopeKind
block_kind [] = Block
block_kind (node ∷ outer) = block_in node.head

-- whether such a node is a default declaration
abbrev pub exports_default : Head → Truth
exports_default h.ExportDefaultDecl = true
exports_default _ = false

-- whether a function or class with these nodes around it is a default declaration, whose name is
-- one of the module's top
abbrev pub is_default : List Around → Truth
is_default [] = false
is_default (node ∷ outer) = exports_default node.head

-- which scope a node makes at the places in this field of it, with these nodes around it
abbrev pub kind_of_scope : Head → ℕ → List Around → Option ScopeKind
kind_of_scope (h.Function is_generator is_async) field outer = Some Parameters
kind_of_scope h.Constructor field outer = Some Parameters
kind_of_scope h.GetterProp field outer = cond (field == 0) None (Some Parameters)
kind_of_scope h.SetterProp field outer = cond (field == 0) None (Some Parameters)
kind_of_scope (h.ArrowExpr is_async) field outer = Some ArrowParameters
kind_of_scope h.BlockStmt field outer = Some (block_kind outer)
kind_of_scope h.SwitchStmt field outer = cond (field == 0) None (Some Block)
kind_of_scope h.ForStmt field outer = Some Loop
kind_of_scope h.ForInStmt field outer = Some Loop
kind_of_scope (h.ForOfStmt is_await) field outer = Some Loop
kind_of_scope h.CatchClause field outer = Some Catch
kind_of_scope h.FnExpr field outer = cond (is_default outer) None (Some FunctionName)
kind_of_scope h.ClassExpr field outer = cond (is_default outer) None (Some ClassName)
kind_of_scope _ field outer = None

-- the scope of this kind at this position, where there is one
abbrev pub scope_at : ℕ → Option ScopeKind → List Scope
scope_at begins None = []
scope_at begins (Some kind) = Inner kind begins ∷ []

-- the scopes outside all nodes
abbrev pub outermost : ModuleKind → List Scope
outermost Es = Top ∷ []
outermost Cjs = Top ∷ Wrapper ∷ []

-- the scopes around a place, innermost first
abbrev pub scopes_around : ModuleKind → List Around → List Scope
scopes_around kind [] = outermost kind
scopes_around kind (node ∷ outer) =
    scope_at node.begins (kind_of_scope node.head node.field outer) ++ scopes_around kind outer
