-- What a linker writes into a bundle beside the statements of the modules: each form, with names by
-- what they stand for (ECMA-262, 16.2.2 and 16.2.3 for imports and exports; 10.4.6 for the object
-- of a namespace; and the functions in which CommonJS modules stand).
use Rattle.std.specs.Prelude.{ℕ, ◌&&◌, ◌||◌, ◌==◌, nat_le, Bool, true, false, List, [], ◌∷◌, ◌++◌, None, bytes_eq, codes, flat_map, if◌then◌else◌}
use Rattle.std.specs.List.{list_all}
use Rattle.bundle_syntax.specs.declared.kind.VarDeclKind.{VarDeclKind}
use Rattle.bundle_syntax.specs.declared.kind.VarDeclKind.TheVariants.{Var, Const}
use Rattle.bundle_syntax.specs.declared.operator.AssignOp.TheVariants.{Assign}
use Rattle.bundle_syntax.specs.declared.operator.UnaryOp.TheVariants.{Bang}
use Rattle.bundle_syntax.specs.Item as h
use Rattle.bundle_syntax.specs.Item.{Head}
use Rattle.bundle_rules.specs.Nodes.{Text}
use Rattle.bundle_rules.specs.Statements.{no_notes}
use Rattle.bundle_rules.specs.Entries.{Named, Whole}
use Rattle.bundle_rules.specs.Linking.{Target, Namespace, External, CommonJs}
use Rattle.bundle_rules.specs.Marks.{Begins, Ends, Name, Word, word_key, computed_key}
use Rattle.bundle_rules.specs.Meaning.{Label, Of, Parameter, Load, Meta, Helper, Inside, Known, Mark}

-- a node in a field, with what stands in it
abbrev pub marks_node : ℕ → Head → List Mark → List Mark
marks_node field head inside = Begins field head ∷ (inside ++ Ends ∷ [])

-- How names and keys are written.

-- whether a byte is a letter, `_` or `$`
abbrev pub is_letter : ℕ → Bool
is_letter b =
    (nat_le 97 b && nat_le b 122) || (nat_le 65 b && nat_le b 90) || (b == 95) || (b == 36)

-- whether a byte is one of these or a digit
abbrev pub is_letter_or_digit : ℕ → Bool
is_letter_or_digit b = is_letter b || (nat_le 48 b && nat_le b 57)

-- whether a text is an identifier of ASCII letters and digits, reserved words included
abbrev pub is_ascii_identifier : Text → Bool
is_ascii_identifier [] = false
is_ascii_identifier (b ∷ rest) = is_letter b && list_all is_letter_or_digit rest

-- a string without a source text
abbrev pub string_marks : ℕ → Text → List Mark
string_marks field x = marks_node field (h.Str x None) []

-- the name of an import or an export
abbrev pub export_name : ℕ → Text → List Mark
export_name field x = if is_ascii_identifier x then Word field x ∷ [] else string_marks field x

-- a key of an object or of a pattern of one; `__proto__` is computed
abbrev pub key_marks : Text → List Mark
key_marks x =
    if bytes_eq x (codes "__proto__")
    then computed_key x
    else (if is_ascii_identifier x then word_key x else string_marks 0 x)

-- a name, with what it is to stand for
abbrev pub NamedTarget : Type 0
NamedTarget = Text × Target

-- a name that stands for the label
abbrev pub stands_for : ℕ → Label → List Mark
stands_for field l = Name field (Known l) ∷ []

-- Declarations.

-- a name that is declared, in this field
abbrev pub declares : ℕ → Label → List Mark
declares field l = marks_node field h.BindingIdent (stands_for 0 l)

-- `name = value`, where the marks of the value lie in field 1
abbrev pub declarator : List Mark → List Mark → List Mark
declarator name value = marks_node 1 h.VarDeclarator (name ++ value)

-- a declaration with these declarators
abbrev pub declaration : VarDeclKind → List Mark → List Mark
declaration kind declarators = marks_node 0 (h.VarDecl kind no_notes) declarators

-- Imports and exports of externals.

-- `x as l`, of the external s
abbrev pub import_specifier : Text → Text → List Mark
import_specifier s x =
    marks_node 0 h.ImportNamedSpecifier
    (stands_for 0 (Of (External s (Named x))) ++ export_name 1 x)

-- `import { x as l, .. } from 's';`
abbrev pub import_names : Text → List Text → List Mark
import_names s names =
    marks_node 0 (h.ImportDecl no_notes) (flat_map (import_specifier s) names ++ string_marks 1 s)

-- `import * as l from 's';`
abbrev pub import_whole : Text → List Mark
import_whole s =
    marks_node 0 (h.ImportDecl no_notes)
    (marks_node 0 h.ImportStarAsSpecifier (stands_for 0 (Of (External s Whole)))
    ++ string_marks 1 s)

-- `import 's';`
abbrev pub import_bare : Text → List Mark
import_bare s = marks_node 0 (h.ImportDecl no_notes) (string_marks 1 s)

-- `export * from 's';`
abbrev pub export_star : Text → List Mark
export_star s = marks_node 0 (h.ExportAll no_notes) (string_marks 0 s)

-- `l as x`
abbrev pub export_specifier : NamedTarget → List Mark
export_specifier pair =
    marks_node 0 h.ExportNamedSpecifier (stands_for 0 (Of pair.1) ++ export_name 1 pair.0)

-- `export { l as x, .. };`
abbrev pub export_list : List NamedTarget → List Mark
export_list pairs = marks_node 0 (h.NamedExport no_notes) (flat_map export_specifier pairs)

-- Objects.

-- `x: l`
abbrev pub property : NamedTarget → List Mark
property pair = marks_node 0 h.KeyValueProp (key_marks pair.0 ++ stands_for 1 (Of pair.1))

-- `{ x: l, .. }`
abbrev pub object : ℕ → List NamedTarget → List Mark
object field pairs = marks_node field h.ObjectLit (flat_map property pairs)

-- `return { x: l, .. };`
abbrev pub return_object : List NamedTarget → List Mark
return_object pairs = marks_node 0 h.ReturnStmt (object 0 pairs)

-- `const mod = function () { return { x: l, .. }; }();`
abbrev pub namespace_object : ℕ → List NamedTarget → List Mark
namespace_object d pairs =
    declaration Const (declarator (declares 0 (Of (Namespace d)))
    (marks_node 1 h.CallExpr (marks_node 0 h.FnExpr (marks_node 1 (h.Function false false)
    (marks_node 1 h.BlockStmt (return_object pairs))))))

-- `const importMeta = { .. };`, with these properties
abbrev pub meta_object : ℕ → List Mark → List Mark
meta_object m properties =
    declaration Const (declarator (declares 0 (Meta m)) (marks_node 1 h.ObjectLit properties))

-- CommonJS modules.

-- `load()`
abbrev pub load_call : ℕ → ℕ → List Mark
load_call field c = marks_node field h.CallExpr (stands_for 0 (Load c))

-- `x: l`, where l stands for what the taker takes
abbrev pub load_property : ℕ → ℕ → Text → List Mark
load_property taker c x =
    marks_node 0 h.KeyValuePatProp (key_marks x ++ declares 1 (Of (CommonJs taker c (Named x))))

-- `{ x: l, .. }`, as a pattern
abbrev pub load_pattern : ℕ → ℕ → List Text → List Mark
load_pattern taker c names = marks_node 0 h.ObjectPat (flat_map (load_property taker c) names)

-- the statement by which a module loads a CommonJS module: `load();`, `var { x: l, .. } = load();`,
-- `var w = load();` or `var w = load(), { x: l, .. } = w;`
abbrev pub load_statement : ℕ → ℕ → Bool → List Text → List Mark
load_statement taker c false [] = marks_node 0 h.ExprStmt (load_call 0 c)
load_statement taker c false (x ∷ more) =
    declaration Var (declarator (load_pattern taker c (x ∷ more)) (load_call 1 c))
load_statement taker c true [] =
    declaration Var (declarator (declares 0 (Of (CommonJs taker c Whole))) (load_call 1 c))
load_statement taker c true (x ∷ more) =
    declaration Var
    (declarator (declares 0 (Of (CommonJs taker c Whole))) (load_call 1 c)
    ++ declarator (load_pattern taker c (x ∷ more)) (stands_for 1 (Of (CommonJs taker c Whole))))

-- a parameter
abbrev pub parameter : List Mark → List Mark
parameter name = marks_node 0 h.Param (marks_node 0 h.BindingIdent name)

-- `var load = __swcpack_require__(function (module, exports) {`: what stands before the statements
-- of a CommonJS module
abbrev pub load_front : ℕ → List Mark
load_front c =
    Begins 0 (h.VarDecl Var no_notes) ∷ Begins 1 h.VarDeclarator ∷ (declares 0 (Load c)
    ++ Begins 1 h.CallExpr ∷ (stands_for 0 Helper
    ++ Begins 1 (h.ExprOrSpread false) ∷ Begins 1 h.FnExpr ∷ Begins 1 (h.Function false false)
    ∷ (parameter (stands_for 0 (Parameter c (codes "module")))
    ++ parameter (stands_for 0 (Parameter c (codes "exports"))) ++ Begins 1 h.BlockStmt ∷ [])))

-- `});`: what stands behind them
abbrev pub load_back : List Mark
load_back = Ends ∷ Ends ∷ Ends ∷ Ends ∷ Ends ∷ Ends ∷ Ends ∷ []

-- The helper: `function __swcpack_require__(fn) { var module; return function () { if (!module) {
-- module = { exports: {} }; fn.call(module.exports, module, module.exports); } return
-- module.exports; }; }`

-- the helper's parameter
abbrev pub its_fn : ℕ → List Mark
its_fn field = Name field (Inside 0) ∷ []

-- the helper's variable
abbrev pub its_module : ℕ → List Mark
its_module field = Name field (Inside 1) ∷ []

-- `module.exports`
abbrev pub its_exports : ℕ → List Mark
its_exports field =
    marks_node field h.MemberExpr (its_module 0 ++ marks_node 1 (h.IdentName (codes "exports")) [])

-- an argument of a call
abbrev pub argument : List Mark → List Mark
argument value = marks_node 1 (h.ExprOrSpread false) value

-- `module = { exports: {} };`
abbrev pub makes_module : List Mark
makes_module =
    marks_node 0 h.ExprStmt
    (marks_node 0 (h.AssignExpr Assign)
    (marks_node 1 h.BindingIdent (its_module 0)
    ++ marks_node 2 h.ObjectLit
    (marks_node 0 h.KeyValueProp
    (word_key (codes "exports") ++ marks_node 1 h.ObjectLit []))))

-- `fn.call(module.exports, module, module.exports);`
abbrev pub runs_module : List Mark
runs_module =
    marks_node 0 h.ExprStmt
    (marks_node 0 h.CallExpr
    (marks_node 0 h.MemberExpr (its_fn 0 ++ marks_node 1 (h.IdentName (codes "call")) [])
    ++ argument (its_exports 1) ++ argument (its_module 1) ++ argument (its_exports 1)))

-- the function that loads a module at its first call
abbrev pub loads_once : List Mark
loads_once =
    marks_node 1 (h.Function false false)
    (marks_node 1 h.BlockStmt
    (marks_node 0 h.IfStmt
    (marks_node 0 (h.UnaryExpr Bang) (its_module 1)
    ++ marks_node 1 h.BlockStmt (makes_module ++ runs_module))
    ++ marks_node 0 h.ReturnStmt (its_exports 0)))

-- the helper
abbrev pub helper_function : List Mark
helper_function =
    marks_node 0 h.FnDecl
    (stands_for 0 Helper
    ++ marks_node 1 (h.Function false false)
    (parameter (its_fn 0)
    ++ marks_node 1 h.BlockStmt
    (declaration Var
    (marks_node 1 h.VarDeclarator (marks_node 0 h.BindingIdent (its_module 0)))
    ++ marks_node 0 h.ReturnStmt (marks_node 0 h.FnExpr loads_once))))
