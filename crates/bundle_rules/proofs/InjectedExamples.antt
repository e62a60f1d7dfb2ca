-- The injected forms, against trees that are written out.
use Rattle.std.proofs.Common.{◌≡◌, ℕ, true, false, List, [], ◌∷◌, ◌++◌, Option, Some, None, refl}
use Rattle.std.specs.Prelude.{codes, bytes_eq, if◌then◌else◌, drop, take}
use Rattle.bundle_syntax.specs.declared.kind.VarDeclKind.TheVariants.{Const, Var}
use Rattle.bundle_syntax.specs.declared.operator.AssignOp.TheVariants.{Assign}
use Rattle.bundle_syntax.specs.declared.operator.UnaryOp.TheVariants.{Bang}
use Rattle.bundle_syntax.specs.Item as h
use Rattle.bundle_syntax.specs.Item.{Item}
use Rattle.bundle_rules.specs.Scopes.{Es}
use Rattle.bundle_rules.specs.Declarations.{BySymbol}
use Rattle.bundle_rules.specs.Denotes.{Denoted, Bound, Global}
use Rattle.bundle_rules.specs.Nodes.{Text}
use Rattle.bundle_rules.specs.Statements.{taken_from, no_notes}
use Rattle.bundle_rules.specs.Entries.{Named, Whole}
use Rattle.bundle_rules.specs.Linking.{Declared, Namespace, External, CommonJs}
use Rattle.bundle_rules.specs.Meaning.{Label, Of, Parameter, Load, Helper, Mark, View, inner_bindings}
use Rattle.bundle_rules.specs.Injected.{helper_function, namespace_object, import_names, export_list, load_statement, load_front, load_back}
use Rattle.bundle_rules.specs.Bundle.{function_front, function_back}
use Rattle.bundle_syntax.specs.declared.piece.Role.TheVariants.{Binding, Reference}
use Rattle.bundle_rules.specs.Forms.{IsNamespaceItem, IsLoadItem, IsHelperItem}
use Rattle.bundle_rules.proofs.Trees.{node, module_of, binds, uses, names, word, string, number, declares, member, argument, runs, calls}
use Rattle.bundle_rules.proofs.Computed.{computed}

-- names that stand for labels, whatever their scope
abbrev Names : Type 0
Names = List (Text × Label)

abbrev label_named : Names → Text → Option Label
label_named [] x = None
label_named ((y, l) ∷ rest) x = if bytes_eq x y then Some l else label_named rest x

abbrev label_of : Names → Denoted → Option Label
label_of known (Bound scope name) = label_named known name.sym
label_of known (Global x) = None

abbrev view : List Item → View
view tree = record { tree = tree; kind = Es; reading = BySymbol }

-- the meaning of an item that stands alone
abbrev meaning : Names → List Item → Option (List Mark)
meaning known item = computed (view (module_of item)) (label_of known) (inner_bindings (view (module_of item)) 1 (taken_from 1 item)) (taken_from 1 item)

abbrev x : Text
x = codes "x"

abbrev fn : Text
fn = codes "fn"

abbrev its_module : Text
its_module = codes "module"

abbrev its_exports : ℕ → List Item
its_exports field = member field (uses 0 its_module) (codes "exports")

-- `function __swcpack_require__(fn) { var module; return function () { if (!module) { module = { exports: {} }; fn.call(module.exports, module, module.exports); } return module.exports; }; }`
abbrev helper_tree : List Item
helper_tree = node 0 h.FnDecl (binds 0 (codes "__swcpack_require__") ++ node 1 (h.Function false false) (node 0 h.Param (node 0 h.BindingIdent (binds 0 fn)) ++ node 1 h.BlockStmt (
    declares Var its_module [] ++ node 0 h.ReturnStmt (node 0 h.FnExpr (node 1 (h.Function false false) (node 1 h.BlockStmt (
    node 0 h.IfStmt (node 0 (h.UnaryExpr Bang) (uses 1 its_module) ++ node 1 h.BlockStmt (
    runs (node 0 (h.AssignExpr Assign) (node 1 h.BindingIdent (uses 0 its_module) ++ node 2 h.ObjectLit (node 0 h.KeyValueProp (word 0 (codes "exports") ++ node 1 h.ObjectLit []))))
    ++ runs (node 0 h.CallExpr (member 0 (uses 0 fn) (codes "call") ++ argument (its_exports 1) ++ argument (uses 1 its_module) ++ argument (its_exports 1)))))
    ++ node 0 h.ReturnStmt (its_exports 0))))))))

helper_is_the_form : meaning ((codes "__swcpack_require__", Helper) ∷ []) helper_tree ≡ Some helper_function
helper_is_the_form = refl

-- `const mod = function () { return { x: x, ["__proto__"]: p }; }();`, with x and p declared beside it
abbrev namespace_tree : List Item
namespace_tree = declares Const (codes "mod") (node 1 h.CallExpr (node 0 h.FnExpr (node 1 (h.Function false false) (node 1 h.BlockStmt (node 0 h.ReturnStmt (node 0 h.ObjectLit (
    node 0 h.KeyValueProp (node 0 h.ComputedPropName (string 0 (codes "__proto__")) ++ uses 1 (codes "p")) ++ node 0 h.KeyValueProp (word 0 x ++ uses 1 x))))))))

abbrev namespace_view : View
namespace_view = view (module_of (namespace_tree ++ declares Const x [] ++ declares Const (codes "p") []))

namespace_is_the_form : computed namespace_view (label_of ((codes "mod", Of (Namespace 1)) ∷ (x, Of (Declared 1 x)) ∷ (codes "p", Of (Declared 1 (codes "p"))) ∷ [])) [] (taken_from 1 namespace_tree) ≡ Some (namespace_object 1 ((codes "__proto__", Declared 1 (codes "p")) ∷ (x, Declared 1 x) ∷ []))
namespace_is_the_form = refl

-- `import { a as b, "a-b" as name } from 'ext';`
abbrev import_tree : List Item
import_tree = node 0 (h.ImportDecl no_notes) (node 0 h.ImportNamedSpecifier (binds 0 (codes "b") ++ names 1 (codes "a")) ++ node 0 h.ImportNamedSpecifier (binds 0 (codes "name") ++ string 1 (codes "a-b")) ++ string 1 (codes "ext"))

import_is_the_form : meaning ((codes "b", Of (External (codes "ext") (Named (codes "a")))) ∷ (codes "name", Of (External (codes "ext") (Named (codes "a-b")))) ∷ []) import_tree ≡ Some (import_names (codes "ext") (codes "a" ∷ codes "a-b" ∷ []))
import_is_the_form = refl

-- `export { x as default };`, with x declared beside it
abbrev export_tree : List Item
export_tree = node 0 (h.NamedExport no_notes) (node 0 h.ExportNamedSpecifier (uses 0 x ++ names 1 (codes "default")))

export_is_the_form : computed (view (module_of (export_tree ++ declares Const x []))) (label_of ((x, Of (Declared 0 x)) ∷ [])) [] (taken_from 1 export_tree) ≡ Some (export_list ((codes "default", Declared 0 x) ∷ []))
export_is_the_form = refl

-- `var w = load(), { x: x } = w;`, with `load` declared beside it
abbrev load_tree : List Item
load_tree = node 0 (h.VarDecl Var no_notes) (node 1 h.VarDeclarator (node 0 h.BindingIdent (binds 0 (codes "w")) ++ node 1 h.CallExpr (uses 0 (codes "load"))) ++ node 1 h.VarDeclarator (node 0 h.ObjectPat (node 0 h.KeyValuePatProp (word 0 x ++ node 1 h.BindingIdent (binds 0 x))) ++ uses 1 (codes "w")))

load_is_the_form : computed (view (module_of (load_tree ++ declares Var (codes "load") []))) (label_of ((codes "w", Of (CommonJs 0 3 Whole)) ∷ (x, Of (CommonJs 0 3 (Named x))) ∷ (codes "load", Load 3) ∷ [])) [] (taken_from 1 load_tree) ≡ Some (load_statement 0 3 true (x ∷ []))
load_is_the_form = refl

-- the same pattern with a shorthand, `{ x }`, means the same
abbrev short_tree : List Item
short_tree = node 0 (h.VarDecl Var no_notes) (node 1 h.VarDeclarator (node 0 h.ObjectPat (node 0 h.AssignPatProp (node 0 h.BindingIdent (binds 0 x))) ++ node 1 h.CallExpr (uses 0 (codes "load"))))

shorthand_is_the_form : computed (view (module_of (short_tree ++ declares Var (codes "load") []))) (label_of ((x, Of (CommonJs 0 3 (Named x))) ∷ (codes "load", Load 3) ∷ [])) [] (taken_from 1 short_tree) ≡ Some (load_statement 0 3 false (x ∷ []))
shorthand_is_the_form = refl

-- `var load = __swcpack_require__(function (module, exports) { f(1); });`, with the helper declared beside it: its front and its back
abbrev function_tree : List Item → List Item
function_tree stmts = declares Var (codes "load") (node 1 h.CallExpr (uses 0 (codes "__swcpack_require__") ++ argument (node 1 h.FnExpr (node 1 (h.Function false false) (
    node 0 h.Param (node 0 h.BindingIdent (binds 0 its_module)) ++ node 0 h.Param (node 0 h.BindingIdent (binds 0 (codes "exports"))) ++ node 1 h.BlockStmt stmts)))))

abbrev function_view : View
function_view = view (module_of (function_tree (calls (codes "f") (number 1 (codes "1"))) ++ declares Var (codes "__swcpack_require__") []))

abbrev function_names : Names
function_names = (codes "load", Load 3) ∷ (codes "__swcpack_require__", Helper) ∷ (its_module, Parameter 3 its_module) ∷ (codes "exports", Parameter 3 (codes "exports")) ∷ []

front_is_the_form : computed function_view (label_of function_names) [] (take 21 (taken_from 1 (function_tree (calls (codes "f") (number 1 (codes "1")))))) ≡ Some (load_front 3)
front_is_the_form = refl

back_is_the_form : computed function_view (label_of function_names) [] (drop 30 (taken_from 1 (function_tree (calls (codes "f") (number 1 (codes "1")))))) ≡ Some load_back
back_is_the_form = refl

-- `(function () { f(1); })();` is a body between front and back
body_of_function : module_of (runs (node 0 h.CallExpr (node 0 h.ParenExpr (node 0 h.FnExpr (node 1 (h.Function false false) (node 1 h.BlockStmt (calls (codes "f") (number 1 (codes "1"))))))))) ≡ function_front false ++ (calls (codes "f") (number 1 (codes "1")) ++ function_back)
body_of_function = refl

-- The items that are built, with identifiers that are handed in.

abbrev with_contexts : List Item
with_contexts = node 0 (h.VarDecl Const (record { injected = true; export_ctxt = None })) (node 1 h.VarDeclarator (node 0 h.BindingIdent (h.Ident 0 (codes "mod") 7 Binding ∷ []) ++ node 1 h.CallExpr (node 0 h.FnExpr (node 1 (h.Function false false) (node 1 h.BlockStmt (node 0 h.ReturnStmt (node 0 h.ObjectLit (
    node 0 h.KeyValueProp (node 0 h.ComputedPropName (string 0 (codes "__proto__")) ++ h.Ident 1 (codes "p") 4 Reference ∷ []) ++ node 0 h.KeyValueProp (word 0 x ++ h.Ident 1 (codes "y") 6 Reference ∷ [])))))))))

namespace_is_built : IsNamespaceItem (codes "mod", 7) ((codes "__proto__", (codes "p", 4)) ∷ (x, (codes "y", 6)) ∷ []) with_contexts
namespace_is_built = record { built = record { its_shape = refl; names = refl }; noted = refl }

load_is_built : IsLoadItem (codes "load", 0) (codes "__swcpack_require__", 0) (its_module, 0) (codes "exports", 0) (calls (codes "f") (number 1 (codes "1"))) (function_tree (calls (codes "f") (number 1 (codes "1"))))
load_is_built = record { front = take 21 (function_tree []); back = drop 21 (function_tree []); is = refl; built = record { its_shape = refl; names = refl }; unnoted = refl; ends = refl }

helper_is_built : IsHelperItem (codes "__swcpack_require__", 0) (fn, 0) (its_module, 0) helper_tree
helper_is_built = record { built = record { its_shape = refl; names = refl }; unnoted = refl }
