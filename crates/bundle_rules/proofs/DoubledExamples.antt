-- Names that are declared twice, where only one may be, and where both may.
use Rattle.std.specs.Prelude.{◌≡◌, ℕ, List, [], ◌++◌, Option, Some, None, codes, option_map}
use mathlib.Core.Path.{refl}
use Rattle.bundle_syntax.specs.declared.kind.VarDeclKind.TheVariants as v
use Rattle.bundle_syntax.specs.Item as h
use Rattle.bundle_syntax.specs.Item.{Item}
use Rattle.bundle_rules.specs.Scopes.{ModuleKind, Es, Cjs}
use Rattle.bundle_rules.specs.Declarations.{Declared}
use Rattle.bundle_rules.specs.Doubled.{first_doubled}
use Rattle.bundle_rules.proofs.SmallTrees.{node, binding, reference, pattern_of, declares_in, block_of, parameter, declares_function}

-- where the first doubled name stands
abbrev place_of_doubled : ModuleKind → List Item → Option ℕ
place_of_doubled kind items = option_map (λ (d : Declared). d.place) (first_doubled kind items)

-- `let a; var a;`
let_and_var : place_of_doubled Es (declares_in 0 v.Let (codes "a") 0 ++ declares_in 0 v.Var (codes "a") 0) ≡ Some 10
let_and_var = refl

-- `var a; var a;`
two_vars : place_of_doubled Es (declares_in 0 v.Var (codes "a") 0 ++ declares_in 0 v.Var (codes "a") 0) ≡ None
two_vars = refl

-- `{ let a; { var a; } }`
var_in_a_block : place_of_doubled Es (block_of 0 (declares_in 0 v.Let (codes "a") 0 ++ block_of 0 (declares_in 0 v.Var (codes "a") 0))) ≡ Some 12
var_in_a_block = refl

-- `{ { var a; } let a; }`: the later of the two is named
var_before_let : place_of_doubled Es (block_of 0 (block_of 0 (declares_in 0 v.Var (codes "a") 0) ++ declares_in 0 v.Let (codes "a") 0)) ≡ Some 13
var_before_let = refl

-- `let a; { let a; }`
let_in_a_block : place_of_doubled Es (declares_in 0 v.Let (codes "a") 0 ++ block_of 0 (declares_in 0 v.Let (codes "a") 0)) ≡ None
let_in_a_block = refl

-- `try {} catch (e) { var e; }`
var_of_a_catch : place_of_doubled Es (node 0 h.TryStmt (block_of 0 [] ++ node 1 h.CatchClause (pattern_of 0 (codes "e") 0 ++ block_of 1 (declares_in 0 v.Var (codes "e") 0)))) ≡ Some 11
var_of_a_catch = refl

-- `try {} catch (e) { function e() {} }`
function_of_a_catch : place_of_doubled Es (node 0 h.TryStmt (block_of 0 [] ++ node 1 h.CatchClause (pattern_of 0 (codes "e") 0 ++ block_of 1 (declares_function (codes "e") 0 [] [])))) ≡ Some 9
function_of_a_catch = refl

-- `try {} catch ([e, e]) {}`: one binding
doubled_catch : place_of_doubled Es (node 0 h.TryStmt (block_of 0 [] ++ node 1 h.CatchClause (node 0 h.ArrayPat (pattern_of 0 (codes "e") 0 ++ pattern_of 0 (codes "e") 0) ++ block_of 1 []))) ≡ None
doubled_catch = refl

-- `for (let i;;) { var i; }`
var_in_a_loop : place_of_doubled Es (node 0 h.ForStmt (declares_in 0 v.Let (codes "i") 0 ++ block_of 3 (declares_in 0 v.Var (codes "i") 0))) ≡ Some 12
var_in_a_loop = refl

-- `for (let i;;) { let i; }`: two bindings
let_in_a_loop : place_of_doubled Es (node 0 h.ForStmt (declares_in 0 v.Let (codes "i") 0 ++ block_of 3 (declares_in 0 v.Let (codes "i") 0))) ≡ None
let_in_a_loop = refl

-- `function f(a) { let a; }`
let_of_a_parameter : place_of_doubled Es (declares_function (codes "f") 0 (parameter (codes "a") 0) (declares_in 0 v.Let (codes "a") 0)) ≡ Some 12
let_of_a_parameter = refl

-- `function f(a) { var a; }`: one binding
var_of_a_parameter : place_of_doubled Es (declares_function (codes "f") 0 (parameter (codes "a") 0) (declares_in 0 v.Var (codes "a") 0)) ≡ None
var_of_a_parameter = refl

-- `function g() {} function g() {}`, at the top of a body, in a block, at the top of a module and at that of a CommonJS module
abbrev two_functions : List Item
two_functions = declares_function (codes "g") 0 [] [] ++ declares_function (codes "g") 0 [] []

functions_of_a_body : place_of_doubled Es (declares_function (codes "f") 0 [] two_functions) ≡ None
functions_of_a_body = refl

functions_of_a_block : place_of_doubled Es (block_of 0 two_functions) ≡ Some 9
functions_of_a_block = refl

functions_of_a_module : place_of_doubled Es two_functions ≡ Some 8
functions_of_a_module = refl

functions_of_a_script : place_of_doubled Cjs two_functions ≡ None
functions_of_a_script = refl

-- `let exports;` and `var exports;` of a CommonJS module
let_of_exports : place_of_doubled Cjs (declares_in 0 v.Let (codes "exports") 0) ≡ Some 3
let_of_exports = refl

var_of_exports : place_of_doubled Cjs (declares_in 0 v.Var (codes "exports") 0) ≡ None
var_of_exports = refl

-- `export default x; export default y;`: the second begins at the fourth item
two_defaults : place_of_doubled Es (node 0 h.ExportDefaultExpr (reference 0 (codes "x") 0) ++ node 0 h.ExportDefaultExpr (reference 0 (codes "y") 0)) ≡ Some 3
two_defaults = refl

-- `export default function f() {} let f;`
default_and_let : place_of_doubled Es (node 0 h.ExportDefaultDecl (node 0 h.FnExpr (binding 0 (codes "f") 0 ++ node 1 h.BlockStmt [])) ++ declares_in 0 v.Let (codes "f") 0) ≡ Some 10
default_and_let = refl
