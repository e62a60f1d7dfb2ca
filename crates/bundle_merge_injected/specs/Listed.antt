-- The list of each form that a linker adds, with the identifiers that stand in it (ECMA-262, 13 to
-- 16).
use Rattle.std.specs.Prelude.{ℕ, Bool, false, List, [], ◌∷◌, ◌++◌, Option, Some, None, codes, flat_map, if◌then◌else◌}
use Rattle.bundle_syntax.specs.declared.kind.ExportMetadata.{ExportMetadata}
use Rattle.bundle_syntax.specs.declared.kind.VarDeclKind.TheVariants.{Var, Const}
use Rattle.bundle_syntax.specs.declared.operator.AssignOp.TheVariants.{Assign}
use Rattle.bundle_syntax.specs.declared.operator.UnaryOp.TheVariants.{Bang}
use Rattle.bundle_syntax.specs.declared.piece.Role.{Role}
use Rattle.bundle_syntax.specs.declared.piece.Role.TheVariants.{Binding, Reference, Word}
use Rattle.bundle_syntax.specs.Item as h
use Rattle.bundle_syntax.specs.Item.{Item}
use Rattle.bundle_tree_listed.specs.Tree.{node}
use Rattle.bundle_rules.specs.Nodes.{Text}
use Rattle.bundle_rules.specs.Idents.{Ident}
use Rattle.bundle_rules.specs.Statements.{no_notes}
use Rattle.bundle_rules.specs.Injected.{is_ascii_identifier}
use Rattle.bundle_rules.specs.Forms.{returned_key, returned_object}
use Rattle.bundle_tree_places.specs.Marks.{ident_of}
use Rattle.bundle_merge_injected.specs.declared.name.Pair.{Pair}

-- a name and the identifier that stands for it
abbrev pub pair_of : Pair → Text × Ident
pair_of pair = (pair.name.now, ident_of pair.local)

-- Names and words.

-- an identifier in a field
abbrev pub named : ℕ → Role → Ident → List Item
named field role l = h.Ident field l.0 l.1 role ∷ []

-- a pattern of one name
abbrev pub pattern_of : ℕ → Role → Ident → List Item
pattern_of field role l = node field h.BindingIdent (named 0 role l)

-- a property's name
abbrev pub word_in : ℕ → Text → List Item
word_in field x = node field (h.IdentName x) []

-- a string with no source text
abbrev pub string_in : ℕ → Text → List Item
string_in field x = node field (h.Str x None) []

-- the name of an import or an export
abbrev pub export_name_in : ℕ → Text → List Item
export_name_in field x =
    if is_ascii_identifier x then h.Ident field x 0 Word ∷ [] else string_in field x

-- Functions, calls and declarations.

-- `function (p, ..) { .. }`
abbrev pub function_in : ℕ → List Item → List Item → List Item
function_in field params stmts =
    node field (h.Function false false) (params ++ node 1 h.BlockStmt stmts)

-- a parameter
abbrev pub parameter : Ident → List Item
parameter l = node 0 h.Param (pattern_of 0 Binding l)

-- a call, where the callee lies in field 0 and each argument in field 1
abbrev pub call_in : ℕ → List Item → List Item → List Item
call_in field callee args = node field h.CallExpr (callee ++ args)

-- an argument, which lies in field 1 itself
abbrev pub argument : List Item → List Item
argument value = node 1 (h.ExprOrSpread false) value

-- `name = value`, where the value lies in field 1
abbrev pub declarator : List Item → List Item → List Item
declarator name value = node 1 h.VarDeclarator (name ++ value)

-- `const l = value;`, where the value lies in field 1
abbrev pub constant : ExportMetadata → Ident → List Item → List Item
constant notes l value = node 0 (h.VarDecl Const notes) (declarator (pattern_of 0 Binding l) value)

-- Imports and exports.

-- `x as l`
abbrev pub import_specifier : Text × Ident → List Item
import_specifier pair =
    node 0 h.ImportNamedSpecifier (named 0 Binding pair.1 ++ export_name_in 1 pair.0)

-- `import { x as l, .. } from 's';`
abbrev pub import_names : Text → List (Text × Ident) → List Item
import_names s pairs =
    node 0 (h.ImportDecl no_notes) (flat_map import_specifier pairs ++ string_in 1 s)

-- `import * as l from 's';`
abbrev pub import_whole : Text → Ident → List Item
import_whole s l =
    node 0 (h.ImportDecl no_notes)
    (node 0 h.ImportStarAsSpecifier (named 0 Binding l) ++ string_in 1 s)

-- `import 's';`
abbrev pub import_bare : Text → List Item
import_bare s = node 0 (h.ImportDecl no_notes) (string_in 1 s)

-- `export * from 's';`
abbrev pub export_star : Text → List Item
export_star s = node 0 (h.ExportAll no_notes) (string_in 0 s)

-- `l as x`
abbrev pub export_specifier : Text × Ident → List Item
export_specifier pair =
    node 0 h.ExportNamedSpecifier (named 0 Reference pair.1 ++ export_name_in 1 pair.0)

-- `export { l as x, .. };`
abbrev pub export_list : List (Text × Ident) → List Item
export_list pairs = node 0 (h.NamedExport no_notes) (flat_map export_specifier pairs)

-- `(function () { .. })()`, or the same of an async function
abbrev pub called : Bool → List Item → List Item
called is_async stmts =
    node 0 h.CallExpr
    (node 0 h.ParenExpr
    (node 0 h.FnExpr (node 1 (h.Function false is_async) (node 1 h.BlockStmt stmts))))

-- The object of a namespace.

-- `const object = function () { return { x: l, .. }; }();`
abbrev pub namespace_object : ExportMetadata → Ident → List (Text × Ident) → List Item
namespace_object notes object pairs =
    constant notes object
    (call_in 1 (node 0 h.FnExpr (function_in 1 [] (returned_object pairs))) [])

-- CommonJS modules.

-- `load()`
abbrev pub load_call : ℕ → Ident → List Item
load_call field load = call_in field (named 0 Reference load) []

-- `x: l`, in a pattern
abbrev pub load_property : Text × Ident → List Item
load_property pair = node 0 h.KeyValuePatProp (returned_key pair.0 ++ pattern_of 1 Binding pair.1)

-- `{ x: l, .. }`, as a pattern
abbrev pub load_pattern : List (Text × Ident) → List Item
load_pattern pairs = node 0 h.ObjectPat (flat_map load_property pairs)

-- the statement by which a module loads a CommonJS module: `load();`, `var { x: l, .. } = load();`,
-- `var w = load();` or `var w = load(), { x: l, .. } = w;`
abbrev pub load_statement : Ident → Option Ident → List (Text × Ident) → List Item
load_statement load None [] = node 0 h.ExprStmt (load_call 0 load)
load_statement load None (pair ∷ more) =
    node 0 (h.VarDecl Var no_notes) (declarator (load_pattern (pair ∷ more)) (load_call 1 load))
load_statement load (Some w) [] =
    node 0 (h.VarDecl Var no_notes) (declarator (pattern_of 0 Binding w) (load_call 1 load))
load_statement load (Some w) (pair ∷ more) =
    node 0 (h.VarDecl Var no_notes)
    (declarator (pattern_of 0 Binding w) (load_call 1 load)
    ++ declarator (load_pattern (pair ∷ more)) (named 1 Reference w))

-- `function (m, e) { .. }`, as an argument
abbrev pub load_argument : Ident → Ident → List Item → List Item
load_argument m e stmts =
    argument (node 1 h.FnExpr (function_in 1 (parameter m ++ parameter e) stmts))

-- `var load = helper(function (m, e) { .. });`, with these statements
abbrev pub load_function : Ident → Ident → Ident → Ident → List Item → List Item
load_function load helper m e stmts =
    node 0 (h.VarDecl Var no_notes)
    (declarator (pattern_of 0 Binding load)
    (call_in 1 (named 0 Reference helper) (load_argument m e stmts)))

-- The helper: `function helper(f) { var m; return function () { if (!m) { m = { exports: {} };
-- f.call(m.exports, m, m.exports); } return m.exports; }; }`

-- `l.x`
abbrev pub member : ℕ → Ident → Text → List Item
member field l x = node field h.MemberExpr (named 0 Reference l ++ word_in 1 x)

-- `exports: {}`
abbrev pub exported : List Item
exported = node 0 h.KeyValueProp (word_in 0 (codes "exports") ++ node 1 h.ObjectLit [])

-- `m = { exports: {} };`
abbrev pub makes_module : Ident → List Item
makes_module m =
    node 0 h.ExprStmt
    (node 0 (h.AssignExpr Assign) (pattern_of 1 Reference m ++ node 2 h.ObjectLit exported))

-- `m.exports, m, m.exports`
abbrev pub run_arguments : Ident → List Item
run_arguments m =
    argument (member 1 m (codes "exports")) ++ argument (named 1 Reference m)
    ++ argument (member 1 m (codes "exports"))

-- `f.call(m.exports, m, m.exports);`
abbrev pub runs_module : Ident → Ident → List Item
runs_module f m = node 0 h.ExprStmt (call_in 0 (member 0 f (codes "call")) (run_arguments m))

-- `if (!m) { .. }`
abbrev pub loads_once : Ident → Ident → List Item
loads_once f m =
    node 0 h.IfStmt
    (node 0 (h.UnaryExpr Bang) (named 1 Reference m)
    ++ node 1 h.BlockStmt (makes_module m ++ runs_module f m))

-- `return m.exports;`
abbrev pub returns_exports : Ident → List Item
returns_exports m = node 0 h.ReturnStmt (member 0 m (codes "exports"))

-- `var m;` and `return function () { .. };`
abbrev pub helper_body : Ident → Ident → List Item
helper_body f m =
    node 0 (h.VarDecl Var no_notes) (node 1 h.VarDeclarator (pattern_of 0 Binding m))
    ++ node 0 h.ReturnStmt
    (node 0 h.FnExpr (function_in 1 [] (loads_once f m ++ returns_exports m)))

-- the helper
abbrev pub helper_function : Ident → Ident → Ident → List Item
helper_function helper f m =
    node 0 h.FnDecl (named 0 Binding helper ++ function_in 1 (parameter f) (helper_body f m))
