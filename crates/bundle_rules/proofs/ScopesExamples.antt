-- What the names of small modules denote, by their symbols.
use Rattle.std.specs.Prelude.{◌≡◌, ℕ, false, List, [], ◌∷◌, ◌++◌, None, codes}
use mathlib.Core.Path.{refl}
use Rattle.bundle_syntax.specs.declared.kind.VarDeclKind.TheVariants as v
use Rattle.bundle_syntax.specs.Item as h
use Rattle.bundle_syntax.specs.Item.{Item}
use Rattle.bundle_rules.specs.Scopes.{Es, Cjs, ScopeKind, Parameters, ArrowParameters, FunctionBody, StaticBody, Block, CatchBlock, Loop, Catch, FunctionName, ClassName, Top, Wrapper, Inner}
use Rattle.bundle_rules.specs.Declarations.{BySymbol, Name}
use Rattle.bundle_rules.specs.Denotes.{Denoted, Bound, Global, denotations}
use Rattle.bundle_rules.proofs.SmallTrees.{node, binding, reference, pattern_of, reads, declares_in, block_of, parameter, function_of, declares_function}

abbrev named : List ℕ → Name
named sym = record { sym = sym; ctxt = None }

-- the binding of this symbol at the top of the module
abbrev top : List ℕ → Denoted
top sym = Bound Top (named sym)

-- the binding of this symbol in the scope of the node at this place
abbrev inner : ScopeKind → ℕ → List ℕ → Denoted
inner kind begins sym = Bound (Inner kind begins) (named sym)

-- `function f(a) { var a; let b; a; b; arguments; c; }`
abbrev function_with_parameter : List Item
function_with_parameter = declares_function (codes "f") 0 (parameter (codes "a") 0)
    (declares_in 0 v.Var (codes "a") 0 ++ declares_in 0 v.Let (codes "b") 0 ++ reads (codes "a") 0 ++ reads (codes "b") 0 ++ reads (codes "arguments") 0 ++ reads (codes "c") 0)

-- the `var` is the parameter, `b` is the body's, `arguments` the function's, and `c` a global
in_a_function : denotations BySymbol Es function_with_parameter ≡ top (codes "f")
    ∷ inner Parameters 2 (codes "a")
    ∷ inner Parameters 2 (codes "a")
    ∷ inner FunctionBody 8 (codes "b")
    ∷ inner Parameters 2 (codes "a")
    ∷ inner FunctionBody 8 (codes "b")
    ∷ inner Parameters 2 (codes "arguments")
    ∷ Global (codes "c")
    ∷ []
in_a_function = refl

-- `function f(a = x) { var x; x; }`
abbrev function_with_default : List Item
function_with_default = declares_function (codes "f") 0 (node 0 h.Param (node 0 h.AssignPat (pattern_of 0 (codes "a") 0 ++ reference 1 (codes "x") 0)))
    (declares_in 0 v.Var (codes "x") 0 ++ reads (codes "x") 0)

-- names of the body are not seen by the parameters
in_a_default : denotations BySymbol Es function_with_default ≡ top (codes "f")
    ∷ inner Parameters 2 (codes "a")
    ∷ Global (codes "x")
    ∷ inner FunctionBody 11 (codes "x")
    ∷ inner FunctionBody 11 (codes "x")
    ∷ []
in_a_default = refl

-- `{ let a; { var b; } a; b; } a; b;`
abbrev blocks : List Item
blocks = block_of 0 (declares_in 0 v.Let (codes "a") 0 ++ block_of 0 (declares_in 0 v.Var (codes "b") 0) ++ reads (codes "a") 0 ++ reads (codes "b") 0)
    ++ reads (codes "a") 0
    ++ reads (codes "b") 0

-- the `let` ends with its block, and the `var` is one of the module's top
in_blocks : denotations BySymbol Es blocks ≡ inner Block 0 (codes "a") ∷ top (codes "b") ∷ inner Block 0 (codes "a") ∷ top (codes "b") ∷ Global (codes "a") ∷ top (codes "b") ∷ []
in_blocks = refl

-- `switch (x) { case: let x; x; }`
abbrev switch : List Item
switch = node 0 h.SwitchStmt (reference 0 (codes "x") 0 ++ node 1 h.SwitchCase (declares_in 1 v.Let (codes "x") 0 ++ node 1 h.ExprStmt (reference 0 (codes "x") 0)))

-- the cases are a block, and the value that they are compared with stands outside it
in_a_switch : denotations BySymbol Es switch ≡ Global (codes "x") ∷ inner Block 0 (codes "x") ∷ inner Block 0 (codes "x") ∷ []
in_a_switch = refl

-- `for (let i;;) { i; } i;`
abbrev loop : List Item
loop = node 0 h.ForStmt (declares_in 0 v.Let (codes "i") 0 ++ block_of 3 (reads (codes "i") 0)) ++ reads (codes "i") 0

in_a_loop : denotations BySymbol Es loop ≡ inner Loop 0 (codes "i") ∷ inner Loop 0 (codes "i") ∷ Global (codes "i") ∷ []
in_a_loop = refl

-- `for (const i of i) i;`
abbrev loop_over : List Item
loop_over = node 0 (h.ForOfStmt false) (declares_in 1 v.Const (codes "i") 0 ++ reference 2 (codes "i") 0 ++ node 3 h.ExprStmt (reference 0 (codes "i") 0))

-- the loop's names are seen by what it goes over
in_a_loop_over : denotations BySymbol Es loop_over ≡ inner Loop 0 (codes "i") ∷ inner Loop 0 (codes "i") ∷ inner Loop 0 (codes "i") ∷ []
in_a_loop_over = refl

-- `try {} catch (e) { let b; e; } e;`
abbrev try_and_catch : List Item
try_and_catch = node 0 h.TryStmt (block_of 0 [] ++ node 1 h.CatchClause (pattern_of 0 (codes "e") 0 ++ block_of 1 (declares_in 0 v.Let (codes "b") 0 ++ reads (codes "e") 0)))
    ++ reads (codes "e") 0

in_a_catch : denotations BySymbol Es try_and_catch ≡ inner Catch 3 (codes "e") ∷ inner CatchBlock 7 (codes "b") ∷ inner Catch 3 (codes "e") ∷ Global (codes "e") ∷ []
in_a_catch = refl

-- `(class C extends C {}); class D extends D {} C;`
abbrev classes : List Item
classes = node 0 h.ExprStmt (node 0 h.ClassExpr (binding 0 (codes "C") 0 ++ node 1 h.Class (reference 0 (codes "C") 0)))
    ++ node 0 h.ClassDecl (binding 0 (codes "D") 0 ++ node 1 h.Class (reference 0 (codes "D") 0))
    ++ reads (codes "C") 0

-- the name of a class expression is seen in the class alone, and that of a class declaration is one of the top
in_classes : denotations BySymbol Es classes ≡ inner ClassName 1 (codes "C") ∷ inner ClassName 1 (codes "C") ∷ top (codes "D") ∷ top (codes "D") ∷ Global (codes "C") ∷ []
in_classes = refl

-- `class A { x = v; static { var v; v; } } v;`
abbrev members : List Item
members = node 0 h.ClassDecl (binding 0 (codes "A") 0
    ++ node 1 h.Class (node 1 (h.ClassProp false) (node 0 (h.IdentName (codes "x")) [] ++ reference 1 (codes "v") 0)
    ++ node 1 h.StaticBlock (block_of 0 (declares_in 0 v.Var (codes "v") 0 ++ reads (codes "v") 0))))
    ++ reads (codes "v") 0

-- a static block keeps its `var`, and a field makes no scope
in_members : denotations BySymbol Es members ≡ top (codes "A") ∷ Global (codes "v") ∷ inner StaticBody 9 (codes "v") ∷ inner StaticBody 9 (codes "v") ∷ Global (codes "v") ∷ []
in_members = refl

-- `(function g() { g; }); g;`
abbrev named_function : List Item
named_function = node 0 h.ExprStmt (node 0 h.FnExpr (binding 0 (codes "g") 0 ++ function_of [] (reads (codes "g") 0))) ++ reads (codes "g") 0

in_a_named_function : denotations BySymbol Es named_function ≡ inner FunctionName 1 (codes "g") ∷ inner FunctionName 1 (codes "g") ∷ Global (codes "g") ∷ []
in_a_named_function = refl

-- `export default function g() { g; }`
abbrev default_function : List Item
default_function = node 0 h.ExportDefaultDecl (node 0 h.FnExpr (binding 0 (codes "g") 0 ++ function_of [] (reads (codes "g") 0)))

-- the name of a default declaration is one of the module's top
in_a_default_function : denotations BySymbol Es default_function ≡ top (codes "g") ∷ top (codes "g") ∷ []
in_a_default_function = refl

-- `function f() { a => arguments; } a => arguments;`
abbrev arrows : List Item
arrows = declares_function (codes "f") 0 [] (node 0 h.ExprStmt (node 0 (h.ArrowExpr false) (pattern_of 0 (codes "a") 0 ++ reference 1 (codes "arguments") 0)))
    ++ node 0 h.ExprStmt (node 0 (h.ArrowExpr false) (pattern_of 0 (codes "a") 0 ++ reference 1 (codes "arguments") 0))

-- an arrow has parameters, and no `arguments` of its own
in_arrows : denotations BySymbol Es arrows ≡ top (codes "f")
    ∷ inner ArrowParameters 5 (codes "a")
    ∷ inner Parameters 2 (codes "arguments")
    ∷ inner ArrowParameters 16 (codes "a")
    ∷ Global (codes "arguments")
    ∷ []
in_arrows = refl

-- `({ set [k](k) { k; } });`
abbrev setter : List Item
setter = node 0 h.ExprStmt (node 0 h.ObjectLit (node 0 h.SetterProp (node 0 h.ComputedPropName (reference 0 (codes "k") 0) ++ pattern_of 1 (codes "k") 0 ++ block_of 2 (reads (codes "k") 0))))

-- a key stands outside the parameters
in_a_setter : denotations BySymbol Es setter ≡ Global (codes "k") ∷ inner Parameters 2 (codes "k") ∷ inner Parameters 2 (codes "k") ∷ []
in_a_setter = refl

-- `{ if (x) function g() {} }`
abbrev function_under_if : List Item
function_under_if = block_of 0 (node 0 h.IfStmt (reference 0 (codes "x") 0 ++ node 1 h.FnDecl (binding 0 (codes "g") 0 ++ function_of [] [])))

-- a function that stands as a statement belongs to the block around it
under_an_if : denotations BySymbol Es function_under_if ≡ Global (codes "x") ∷ inner Block 0 (codes "g") ∷ []
under_an_if = refl

-- `var exports; module; arguments; var other;`
abbrev script : List Item
script = declares_in 0 v.Var (codes "exports") 0 ++ reads (codes "module") 0 ++ reads (codes "arguments") 0 ++ declares_in 0 v.Var (codes "other") 0

-- in a CommonJS module these are a function's parameters and its `arguments`
in_a_script : denotations BySymbol Cjs script ≡ Bound Wrapper (named (codes "exports")) ∷ Bound Wrapper (named (codes "module")) ∷ Bound Wrapper (named (codes "arguments")) ∷ top (codes "other") ∷ []
in_a_script = refl

-- in a module they are not
in_a_module : denotations BySymbol Es script ≡ top (codes "exports") ∷ Global (codes "module") ∷ Global (codes "arguments") ∷ top (codes "other") ∷ []
in_a_module = refl
