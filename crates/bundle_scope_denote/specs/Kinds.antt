-- What the kinds of scopes and the ways of the code stand for, and what a node means for the names
-- in it, by what the code knows of the nodes around it.
use Rattle.std.specs.Prelude.{ℕ, ◌==◌, Bool as Truth, true, false, cond, Option, Some, None}
use Rattle.bundle_syntax.specs.declared.kind.VarDeclKind.{VarDeclKind}
use Rattle.bundle_syntax.specs.declared.kind.VarDeclKind.TheVariants as v
use Rattle.bundle_syntax.specs.Item as h
use Rattle.bundle_syntax.specs.Item.{Head}
use Rattle.bundle_rules.specs.Scopes as s
use Rattle.bundle_rules.specs.Declarations as d
use Rattle.bundle_rules.specs.Homes as o
use Rattle.bundle_scope_denote.specs.declared.table.ModuleKind.{ModuleKind}
use Rattle.bundle_scope_denote.specs.declared.table.ModuleKind.TheVariants as m
use Rattle.bundle_scope_denote.specs.declared.table.Reading.{Reading}
use Rattle.bundle_scope_denote.specs.declared.table.Reading.TheVariants as r
use Rattle.bundle_scope_denote.specs.declared.table.ScopeKind.{ScopeKind}
use Rattle.bundle_scope_denote.specs.declared.table.ScopeKind.TheVariants as k
use Rattle.bundle_scope_denote.specs.declared.table.Way.{Way}
use Rattle.bundle_scope_denote.specs.declared.table.Way.TheVariants as w

-- what a tree is read as
abbrev pub kind_as : ModuleKind → s.ModuleKind
kind_as m.Es = s.Es
kind_as m.Cjs = s.Cjs

-- how names are read
abbrev pub reading_as : Reading → d.Reading
reading_as r.BySymbol = d.BySymbol
reading_as r.ByContext = d.ByContext

-- the scope of this kind whose node begins there
abbrev pub scope_as : ScopeKind → ℕ → s.Scope
scope_as k.Wrapper begins = s.Wrapper
scope_as k.Top begins = s.Top
scope_as k.Parameters begins = s.Inner s.Parameters begins
scope_as k.ArrowParameters begins = s.Inner s.ArrowParameters begins
scope_as k.FunctionBody begins = s.Inner s.FunctionBody begins
scope_as k.StaticBody begins = s.Inner s.StaticBody begins
scope_as k.Block begins = s.Inner s.Block begins
scope_as k.CatchBlock begins = s.Inner s.CatchBlock begins
scope_as k.Loop begins = s.Inner s.Loop begins
scope_as k.Catch begins = s.Inner s.Catch begins
scope_as k.FunctionName begins = s.Inner s.FunctionName begins
scope_as k.ClassName begins = s.Inner s.ClassName begins

-- what the code calls a kind of scope
abbrev pub kind_named : s.ScopeKind → ScopeKind
kind_named s.Parameters = k.Parameters
kind_named s.ArrowParameters = k.ArrowParameters
kind_named s.FunctionBody = k.FunctionBody
kind_named s.StaticBody = k.StaticBody
kind_named s.Block = k.Block
kind_named s.CatchBlock = k.CatchBlock
kind_named s.Loop = k.Loop
kind_named s.Catch = k.Catch
kind_named s.FunctionName = k.FunctionName
kind_named s.ClassName = k.ClassName

-- what the code calls a way
abbrev pub way_named : d.Way → Way
way_named d.ByImport = w.Import
way_named d.ByVar = w.Var
way_named d.ByLet = w.Let
way_named d.ByConst = w.Const
way_named d.ByFunction = w.Function
way_named d.ByClass = w.Class
way_named d.ByDefault = w.Default
way_named d.ByParameter = w.Parameter
way_named d.ByCatch = w.Catch
way_named d.ByLoop = w.Loop
way_named d.ByFunctionName = w.FunctionName
way_named d.ByClassName = w.ClassName
way_named d.ByWrapper = w.Wrapper

-- how `var`, `let` and `const` declare, in the head of a loop or elsewhere
abbrev pub kind_way : VarDeclKind → (heads_loop : Truth) → Way
kind_way v.Var heads_loop = w.Var
kind_way v.Let heads_loop = cond heads_loop w.Loop w.Let
kind_way v.Const heads_loop = cond heads_loop w.Loop w.Const

-- how a node declares the names of the declarators in it
abbrev pub variable_way : Head → (heads_loop : Truth) → Option Way
variable_way (h.VarDecl kind meta) heads_loop = Some (kind_way kind heads_loop)
variable_way _ heads_loop = None

-- how a node declares a name that stands in it, if a declarator there declares by `variable`
abbrev pub head_way_in : Head → (variable : Option Way) → (is_default : Truth) → Option Way
head_way_in h.ImportNamedSpecifier variable is_default = Some w.Import
head_way_in h.ImportDefaultSpecifier variable is_default = Some w.Import
head_way_in h.ImportStarAsSpecifier variable is_default = Some w.Import
head_way_in h.VarDeclarator variable is_default = variable
head_way_in h.FnDecl variable is_default = Some w.Function
head_way_in h.ClassDecl variable is_default = Some w.Class
head_way_in h.FnExpr variable is_default = Some (cond is_default w.Function w.FunctionName)
head_way_in h.ClassExpr variable is_default = Some (cond is_default w.Class w.ClassName)
head_way_in h.Param variable is_default = Some w.Parameter
head_way_in (h.ArrowExpr is_async) variable is_default = Some w.Parameter
head_way_in h.SetterProp variable is_default = Some w.Parameter
head_way_in h.CatchClause variable is_default = Some w.Catch
head_way_in _ variable is_default = None

-- which scope a node makes, if as a block it makes that of the kind `own_kind`
abbrev pub kind_made : Head → (own_kind : ScopeKind) → (is_default : Truth) → Option ScopeKind
kind_made (h.Function is_generator is_async) own_kind is_default = Some k.Parameters
kind_made h.Constructor own_kind is_default = Some k.Parameters
kind_made h.GetterProp own_kind is_default = Some k.Parameters
kind_made h.SetterProp own_kind is_default = Some k.Parameters
kind_made (h.ArrowExpr is_async) own_kind is_default = Some k.ArrowParameters
kind_made h.BlockStmt own_kind is_default = Some own_kind
kind_made h.SwitchStmt own_kind is_default = Some k.Block
kind_made h.ForStmt own_kind is_default = Some k.Loop
kind_made h.ForInStmt own_kind is_default = Some k.Loop
kind_made (h.ForOfStmt is_await) own_kind is_default = Some k.Loop
kind_made h.CatchClause own_kind is_default = Some k.Catch
kind_made h.FnExpr own_kind is_default = cond is_default None (Some k.FunctionName)
kind_made h.ClassExpr own_kind is_default = cond is_default None (Some k.ClassName)
kind_made _ own_kind is_default = None

-- whether the scope of such a node leaves its first field out
abbrev pub leaves_first_out : Head → Truth
leaves_first_out h.GetterProp = true
leaves_first_out h.SetterProp = true
leaves_first_out h.SwitchStmt = true
leaves_first_out _ = false

-- whether such a node makes no scope and says nothing of what stands in it, but for the nodes of
-- patterns how it is declared by what stands around
abbrev pub is_quiet : Head → Truth
is_quiet h.ImportNamedSpecifier = false
is_quiet h.ImportDefaultSpecifier = false
is_quiet h.ImportStarAsSpecifier = false
is_quiet h.ExportDefaultDecl = false
is_quiet h.ExportDefaultExpr = false
is_quiet h.BlockStmt = false
is_quiet h.SwitchStmt = false
is_quiet h.CatchClause = false
is_quiet h.ForStmt = false
is_quiet h.ForInStmt = false
is_quiet (h.ForOfStmt is_await) = false
is_quiet h.ClassDecl = false
is_quiet h.FnDecl = false
is_quiet (h.VarDecl kind meta) = false
is_quiet h.VarDeclarator = false
is_quiet h.FnExpr = false
is_quiet (h.ArrowExpr is_async) = false
is_quiet h.ClassExpr = false
is_quiet h.GetterProp = false
is_quiet h.SetterProp = false
is_quiet (h.Function is_generator is_async) = false
is_quiet h.Param = false
is_quiet h.Constructor = false
is_quiet h.StaticBlock = false
is_quiet _ = true

-- whether a field is this one
abbrev pub is_in_field : Option ℕ → ℕ → Truth
is_in_field None field = false
is_in_field (Some own) field = field == own

-- whether a name that is declared in this way belongs to the scope, if it is the nearest such one
abbrev pub takes_by : Way → s.Scope → Truth
takes_by w.Import scope = o.is_top scope
takes_by w.Var scope = o.is_body scope
takes_by w.Let scope = o.is_block scope
takes_by w.Const scope = o.is_block scope
takes_by w.Function scope = o.is_block scope
takes_by w.Class scope = o.is_block scope
takes_by w.Default scope = o.is_top scope
takes_by w.Parameter scope = o.is_parameters scope
takes_by w.Catch scope = o.is_catch scope
takes_by w.Loop scope = o.is_loop scope
takes_by w.FunctionName scope = o.is_function_name scope
takes_by w.ClassName scope = o.is_class_name scope
takes_by w.Wrapper scope = o.is_wrapper scope

-- whether a name is declared by `var`
abbrev pub is_var_by : Way → Truth
is_var_by w.Var = true
is_var_by _ = false

-- whether a name that is declared in this way is the parameter of that name, where the body's
-- function has one
abbrev pub joins_by : Way → Truth
joins_by w.Var = true
joins_by w.Function = true
joins_by _ = false
