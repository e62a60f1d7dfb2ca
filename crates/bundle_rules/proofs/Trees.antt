-- Small trees, from which the examples are built.
use Rattle.std.specs.Prelude.{ℕ, false, List, [], ◌∷◌, ◌++◌, None, codes}
use Rattle.bundle_syntax.specs.declared.kind.VarDeclKind.{VarDeclKind}
use Rattle.bundle_syntax.specs.declared.kind.VarDeclKind.TheVariants.{Const}
use Rattle.bundle_syntax.specs.declared.piece.Role.TheVariants.{Binding, Reference, Word}
use Rattle.bundle_syntax.specs.Item as h
use Rattle.bundle_syntax.specs.Item.{Item, Head}
use Rattle.bundle_rules.specs.Nodes.{Text}
use Rattle.bundle_rules.specs.Statements.{no_notes}

-- a node in a field, with what stands in it
abbrev pub node : ℕ → Head → List Item → List Item
node field head inside = h.Open field head ∷ (inside ++ h.Close ∷ [])

-- a module
abbrev pub module_of : List Item → List Item
module_of items = node 0 h.Module items

-- a name that is declared, one that is used, and a plain word
abbrev pub binds : ℕ → Text → List Item
binds field x = h.Ident field x 0 Binding ∷ []

abbrev pub uses : ℕ → Text → List Item
uses field x = h.Ident field x 0 Reference ∷ []

abbrev pub names : ℕ → Text → List Item
names field x = h.Ident field x 0 Word ∷ []

abbrev pub word : ℕ → Text → List Item
word field x = node field (h.IdentName x) []

abbrev pub string : ℕ → Text → List Item
string field x = node field (h.Str x None) []

abbrev pub number : ℕ → Text → List Item
number field x = node field (h.Number x) []

-- `const x = e;`, `var x = e;`, with the value in field 1, or with none
abbrev pub declares : VarDeclKind → Text → List Item → List Item
declares kind x e = node 0 (h.VarDecl kind no_notes) (node 1 h.VarDeclarator (node 0 h.BindingIdent (binds 0 x) ++ e))

-- `export const x = e;`
abbrev pub exports_const : Text → List Item → List Item
exports_const x e = node 0 h.ExportDecl (declares Const x e)

-- `import { x as y } from 's';`
abbrev pub imports : Text → Text → Text → List Item
imports x y s = node 0 (h.ImportDecl no_notes) (node 0 h.ImportNamedSpecifier (binds 0 y ++ names 1 x) ++ string 1 s)

-- `import * as n from 's';`
abbrev pub imports_all : Text → Text → List Item
imports_all n s = node 0 (h.ImportDecl no_notes) (node 0 h.ImportStarAsSpecifier (binds 0 n) ++ string 1 s)

-- `import 's';`
abbrev pub imports_bare : Text → List Item
imports_bare s = node 0 (h.ImportDecl no_notes) (string 1 s)

-- `export * from 's';`
abbrev pub exports_all : Text → List Item
exports_all s = node 0 (h.ExportAll no_notes) (string 0 s)

-- `export { x as y } from 's';`
abbrev pub exports_from : Text → Text → Text → List Item
exports_from x y s = node 0 (h.NamedExport no_notes) (node 0 h.ExportNamedSpecifier (names 0 x ++ names 1 y) ++ string 1 s)

-- `export * as n from 's';`
abbrev pub exports_all_as : Text → Text → List Item
exports_all_as n s = node 0 (h.NamedExport no_notes) (node 0 h.ExportNamespaceSpecifier (names 0 n) ++ string 1 s)

-- `export { x as y };`
abbrev pub exports_name : Text → Text → List Item
exports_name x y = node 0 (h.NamedExport no_notes) (node 0 h.ExportNamedSpecifier (uses 0 x ++ names 1 y))

-- `export default e;`
abbrev pub exports_default : List Item → List Item
exports_default e = node 0 h.ExportDefaultExpr e

-- a function without parameters, in a field, with these statements
abbrev pub function : ℕ → List Item → List Item
function field stmts = node field (h.Function false false) (node 1 h.BlockStmt stmts)

-- `export default function () { .. }`
abbrev pub exports_default_function : List Item → List Item
exports_default_function stmts = node 0 h.ExportDefaultDecl (node 0 h.FnExpr (function 1 stmts))

-- `e;`
abbrev pub runs : List Item → List Item
runs e = node 0 h.ExprStmt e

-- an argument in a call
abbrev pub argument : List Item → List Item
argument e = node 1 (h.ExprOrSpread false) e

-- `f(e);`, with the argument in field 1
abbrev pub calls : Text → List Item → List Item
calls f e = runs (node 0 h.CallExpr (uses 0 f ++ argument e))

-- `require('s');`
abbrev pub requires : Text → List Item
requires s = calls (codes "require") (string 1 s)

-- `p.x` in a field, with p in field 0
abbrev pub member : ℕ → List Item → Text → List Item
member field p x = node field h.MemberExpr (p ++ word 1 x)
