-- Examples of own statements.
use Rattle.std.specs.Prelude.{◌≡◌, false, [], ◌∷◌, ◌++◌, codes, refl}
use Rattle.bundle_syntax.specs.declared.piece.Role.TheVariants.{Binding}
use Rattle.bundle_syntax.specs.Item as h
use Rattle.bundle_rules.specs.Statements.{taken, written, own_statements, taken_from, no_notes, default_name}
use Rattle.bundle_syntax.specs.declared.kind.VarDeclKind.TheVariants.{Const}
use Rattle.bundle_rules.proofs.Trees.{node, module_of, number, declares, exports_const, imports, exports_all, exports_default, exports_default_function, calls}

-- `import { x } from './a'; export * from './b'; ; f(1);` states the call alone
call_alone : own_statements (module_of (imports (codes "x") (codes "x") (codes "./a") ++ exports_all (codes "./b") ++ node 0 h.EmptyStmt [] ++ calls (codes "f") (number 1 (codes "1")))) ≡ taken_from 15 (calls (codes "f") (number 1 (codes "1"))) ∷ []
call_alone = refl

-- `export const x = 1;` states `const x = 1;`
exported_constant : own_statements (module_of (exports_const (codes "x") (number 1 (codes "1")))) ≡ taken_from 2 (declares Const (codes "x") (number 1 (codes "1"))) ∷ []
exported_constant = refl

-- `export default 1;` states `const default = 1;`
default_value : own_statements (module_of (exports_default (number 0 (codes "1")))) ≡ (written (h.Open 0 (h.VarDecl Const no_notes)) ∷ written (h.Open 1 h.VarDeclarator) ∷ written (h.Open 0 h.BindingIdent) ∷ written (h.Ident 0 default_name 0 Binding) ∷ written h.Close ∷ taken 2 (h.Open 1 (h.Number (codes "1"))) ∷ taken 3 h.Close ∷ written h.Close ∷ written h.Close ∷ []) ∷ []
default_value = refl

-- `export default function () {}` states `function default() {}`
default_function : own_statements (module_of (exports_default_function [])) ≡ (taken 2 (h.Open 0 h.FnDecl) ∷ written (h.Ident 0 default_name 0 Binding) ∷ taken 3 (h.Open 1 (h.Function false false)) ∷ taken 4 (h.Open 1 h.BlockStmt) ∷ taken 5 h.Close ∷ taken 6 h.Close ∷ taken 7 h.Close ∷ []) ∷ []
default_function = refl
