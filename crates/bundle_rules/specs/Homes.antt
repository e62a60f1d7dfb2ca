-- Homes: to which scope each declared name belongs, what a scope binds, and which scopes keep their
-- names apart (ECMA-262, 8.2.4 to 8.2.11 on declared names, 10.2.11 on parameters, bodies and
-- `arguments`). All code is strict. Two readings are this linker's own: a `var` or function of a
-- body with the name of a parameter is that parameter, also where a parameter has an expression;
-- and a class declaration has one binding, seen inside the class too. A declaration that stands as
-- the body of an `if`, a loop or a label belongs to the block around it.
use Rattle.std.specs.Prelude.{Bool as Truth, true, false, cond, not, ◌&&◌, ◌||◌, ℕ, List, [], ◌∷◌, Option, Some, None, codes, bytes_eq, filter, unwrap_or}
use Rattle.std.specs.List.{list_any}
use Rattle.bundle_syntax.specs.Item.{Item}
use Rattle.bundle_rules.specs.Scopes.{ModuleKind, Scope, Wrapper, Top, Inner, Parameters, ArrowParameters, FunctionBody, StaticBody, Block, CatchBlock, Loop, Catch, FunctionName, ClassName, same_scope}
use Rattle.bundle_rules.specs.Declarations.{Way, ByImport, ByVar, ByLet, ByConst, ByFunction, ByClass, ByDefault, ByParameter, ByCatch, ByLoop, ByFunctionName, ByClassName, ByWrapper, Reading, Name, names_agree, Declared, declared}

-- whether a scope is the top of a module or the body of a function or a static block, where a `var`
-- belongs
abbrev pub is_body : Scope → Truth
is_body Top = true
is_body (Inner FunctionBody begins) = true
is_body (Inner StaticBody begins) = true
is_body _ = false

-- whether a scope is one of these or a block, where a `let`, `const`, class or function belongs
abbrev pub is_block : Scope → Truth
is_block (Inner Block begins) = true
is_block (Inner CatchBlock begins) = true
is_block scope = is_body scope

-- whether a scope is that of the parameters of a function or an arrow
abbrev pub is_parameters : Scope → Truth
is_parameters (Inner Parameters begins) = true
is_parameters (Inner ArrowParameters begins) = true
is_parameters _ = false

-- whether a scope is the top of a module
abbrev pub is_top : Scope → Truth
is_top Top = true
is_top _ = false

-- whether a scope is that of the parameters of a CommonJS module
abbrev pub is_wrapper : Scope → Truth
is_wrapper Wrapper = true
is_wrapper _ = false

-- whether a scope is that of a loop
abbrev pub is_loop : Scope → Truth
is_loop (Inner Loop begins) = true
is_loop _ = false

-- whether a scope is that of a catch parameter
abbrev pub is_catch : Scope → Truth
is_catch (Inner Catch begins) = true
is_catch _ = false

-- whether a scope is that of the own name of a function expression
abbrev pub is_function_name : Scope → Truth
is_function_name (Inner FunctionName begins) = true
is_function_name _ = false

-- whether a scope is that of the own name of a class expression
abbrev pub is_class_name : Scope → Truth
is_class_name (Inner ClassName begins) = true
is_class_name _ = false

-- whether a name that is declared in this way belongs to the scope, if it is the nearest such one
abbrev pub takes : Way → Scope → Truth
takes ByImport scope = is_top scope
takes ByVar scope = is_body scope
takes ByLet scope = is_block scope
takes ByConst scope = is_block scope
takes ByFunction scope = is_block scope
takes ByClass scope = is_block scope
takes ByDefault scope = is_top scope
takes ByParameter scope = is_parameters scope
takes ByCatch scope = is_catch scope
takes ByLoop scope = is_loop scope
takes ByFunctionName scope = is_function_name scope
takes ByClassName scope = is_class_name scope
takes ByWrapper scope = is_wrapper scope

-- the nearest scope that takes a name declared in this way, and the scopes around it
abbrev pub from_taker : Way → List Scope → List Scope
from_taker way [] = []
from_taker way (scope ∷ outer) = cond (takes way scope) (scope ∷ outer) (from_taker way outer)

-- the first of these scopes
abbrev pub nearest : List Scope → Option Scope
nearest [] = None
nearest (scope ∷ outer) = Some scope

-- the scope that takes a declared name
abbrev pub taker : Declared → Scope
taker d = unwrap_or (nearest (from_taker d.by d.scopes)) Top

-- the parameters of the function of which the first of these scopes is the body
abbrev pub parameters_of : List Scope → Option Scope
parameters_of (Top ∷ outer) = nearest outer
parameters_of (Inner FunctionBody begins ∷ outer) = nearest outer
parameters_of _ = None

-- whether a name declared in this way is the parameter of that name, where the body's function has
-- one
abbrev pub joins_parameter : Way → Truth
joins_parameter ByVar = true
joins_parameter ByFunction = true
joins_parameter _ = false

-- whether a declaration is a parameter of this name in this scope
abbrev pub is_parameter : Scope → Name → Declared → Truth
is_parameter scope name d =
    (is_parameters (taker d) || is_wrapper (taker d)) && same_scope (taker d) scope
    && names_agree d.name name

-- the parameters' scope, if it has this name, and else the body's
abbrev pub home_beside : List Declared → Declared → Option Scope → Scope
home_beside all d None = taker d
home_beside all d (Some scope) = cond (list_any (is_parameter scope d.name) all) scope (taker d)

-- the scope to which a declared name belongs, among all declarations of its tree
abbrev pub home_of : List Declared → Declared → Scope
home_of all d =
    cond (joins_parameter d.by) (home_beside all d (parameters_of (from_taker d.by d.scopes)))
    (taker d)

-- whether a declared name belongs to the scope and agrees with the name
abbrev pub is_declared_in : List Declared → Scope → Name → Declared → Truth
is_declared_in all scope name d = same_scope (home_of all d) scope && names_agree d.name name

-- whether some declaration binds the name in the scope
abbrev pub declares : List Declared → Scope → Name → Truth
declares all scope name = list_any (is_declared_in all scope name) all

-- whether a symbol is `arguments`
abbrev pub is_arguments : List ℕ → Truth
is_arguments sym = bytes_eq sym (codes "arguments")

-- whether a scope is that of the parameters of a function that is no arrow
abbrev pub is_function : Scope → Truth
is_function Wrapper = true
is_function (Inner Parameters begins) = true
is_function _ = false

-- whether a scope binds `arguments` without a declaration: one of a function that is no arrow,
-- beside no parameter of that name
abbrev pub has_implicit_arguments : List Declared → Scope → Truth
has_implicit_arguments all scope =
    is_function scope && not (declares all scope (record { sym = codes "arguments"; ctxt = None }))

-- whether a scope binds the name, by a declaration or as the implicit `arguments`
abbrev pub binds : List Declared → Scope → Name → Truth
binds all scope name =
    declares all scope name || (is_arguments name.sym && has_implicit_arguments all scope)

-- the scope whose bindings keep apart in symbol from those of the first of these scopes: parameters
-- and body are one group, a catch parameter and its block too, and any other scope stands alone
abbrev pub group_of : List Scope → Scope
group_of [] = Top
group_of (Inner CatchBlock begins ∷ outer) = unwrap_or (nearest outer) (Inner CatchBlock begins)
group_of (scope ∷ outer) = unwrap_or (parameters_of (scope ∷ outer)) scope

-- the declarations that belong to the top of a module, or to the parameters that a CommonJS module
-- has there
abbrev pub top_declared : Reading → ModuleKind → List Item → List Declared
top_declared reading kind items =
    let all : List Declared = declared reading kind items in
    filter (λ d. is_top (home_of all d) || is_wrapper (home_of all d)) all
