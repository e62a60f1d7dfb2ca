-- The numbers of scopes and bindings of small trees.
use Rattle.std.specs.Prelude.{◌≡◌, List, [], ◌++◌, codes}
use mathlib.Core.Path.{refl}
use Rattle.bundle_syntax.specs.declared.kind.VarDeclKind.TheVariants as v
use Rattle.bundle_syntax.specs.Item as h
use Rattle.bundle_syntax.specs.Item.{Item}
use Rattle.bundle_rules.specs.Scopes.{Es, Cjs}
use Rattle.bundle_rules.specs.Counts.{scope_count, binding_count}
use Rattle.bundle_rules.proofs.SmallTrees.{node, declares_in, block_of, parameter, declares_function}

-- `function f(a) { var a; let b; }`
abbrev small : List Item
small = declares_function (codes "f") 0 (parameter (codes "a") 0) (declares_in 0 v.Var (codes "a") 0 ++ declares_in 0 v.Let (codes "b") 0)

-- the top, the parameters and the body
three_scopes : scope_count Es small ≡ 3
three_scopes = refl

-- `f`, `a`, `b` and `arguments`
four_bindings : binding_count Es small ≡ 4
four_bindings = refl

-- as a CommonJS module it has one scope more, and the bindings `module`, `exports` and one more `arguments`
four_scopes : scope_count Cjs small ≡ 4
four_scopes = refl

seven_bindings : binding_count Cjs small ≡ 7
seven_bindings = refl

-- `for (let i;;) {}` has three scopes, and `for (var i;;) {}` two
let_loop : scope_count Es (node 0 h.ForStmt (declares_in 0 v.Let (codes "i") 0 ++ block_of 3 [])) ≡ 3
let_loop = refl

var_loop : scope_count Es (node 0 h.ForStmt (declares_in 0 v.Var (codes "i") 0 ++ block_of 3 [])) ≡ 2
var_loop = refl
