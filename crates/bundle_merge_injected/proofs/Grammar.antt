-- Each form is a statement, or an item of a module: its list is one of the grammar.
use Rattle.std.proofs.Common.{◌≡◌, ℕ, zero, false, true, refl, sym, subst, ◌∙◌, List, [], ◌∷◌, ◌++◌, append_assoc, append-nil, Option, Some, None, bytes_eq, codes, if◌then◌else◌}
use Rattle.std.specs.List.{flat_map}
use Rattle.bundle_syntax.specs.declared.kind.ExportMetadata.{ExportMetadata}
use Rattle.bundle_syntax.specs.declared.kind.VarDeclKind.{VarDeclKind}
use Rattle.bundle_syntax.specs.declared.kind.VarDeclKind.TheVariants.{Var, Const}
use Rattle.bundle_syntax.specs.declared.operator.AssignOp.TheVariants.{Assign}
use Rattle.bundle_syntax.specs.declared.operator.UnaryOp.TheVariants.{Bang}
use Rattle.bundle_syntax.specs.declared.piece.Role.TheVariants.{Binding, Reference, Word}
use Rattle.bundle_syntax.specs.Item as h
use Rattle.bundle_syntax.specs.Item.{Item}
use Rattle.bundle_tree_listed.specs.Tree.{node}
use Rattle.bundle_rules.specs.Nodes.{Text}
use Rattle.bundle_rules.specs.Idents.{Ident}
use Rattle.bundle_rules.specs.Statements.{no_notes}
use Rattle.bundle_rules.specs.Injected.{is_ascii_identifier}
use Rattle.bundle_rules.specs.Rebuilds.{plain_key}
use Rattle.bundle_rules.specs.Forms.{returned_key, returned_object, returned_property}
use Rattle.bundle_tree_parse.specs.Sorts.{Sort, AnItem, AnImport, AnExport, AModuleName, AStmt, ADeclarator, AnExpr, AnArgument, APropertyOrSpread, AKey, AMemberKey, APattern, APatternProperty, AParameter, AFunction, AString, One, Optional, slot}
use Rattle.bundle_tree_parse.specs.Parse.{has_source}
use Rattle.bundle_tree_parse.specs.Standing.{IsIn, export_list, AreIn, AreEach, ended, next, none, some}
use Rattle.bundle_tree_parse.proofs.Rows.{alone, as_callee, each, in_leaf, in_node, last, last_each, last_maybe, maybe, one}
use Rattle.bundle_merge_injected.specs.Listed as l

-- a list that is another one stands where that one does
pub stands : {sort : Sort} {field : ℕ} (items form : List Item) → items ≡ form → IsIn sort field form → IsIn sort field items
stands {sort} {field} items form is it = subst (IsIn sort field) (sym is) it

-- Rows.

only : {sort : Sort} {field : ℕ} {items : List Item} → IsIn sort field items → AreEach sort field items
only {sort} {field} {items} it = subst (AreEach sort field) (append-nil items) (next it ended)

each_of : {A : Type 0} {sort : Sort} {field : ℕ} (items : A → List Item) → ((it : A) → IsIn sort field (items it)) → (list : List A) → AreEach sort field (flat_map items list)
each_of items is [] = ended
each_of items is (it ∷ list) = next (is it) (each_of items is list)

-- Names and words.

read : (field : ℕ) (x : Ident) → IsIn AnExpr field (l.named field Reference x)
read field x = alone field x.0 x.1 Reference refl

pattern : (field : ℕ) (x : Ident) → IsIn (APattern Binding) field (l.pattern_of field Binding x)
pattern field x = in_node field h.BindingIdent refl (last (alone 0 x.0 x.1 Binding refl))

string : (field : ℕ) (x : Text) → IsIn AString field (l.string_in field x)
string field x = in_leaf field (h.Str x None) refl

export_name : (field : ℕ) (x : Text) → IsIn (AModuleName Word) field (l.export_name_in field x)
export_name field x =
    elim (is_ascii_identifier x) as (λ b. IsIn (AModuleName Word) field (if b then h.Ident field x 0 Word ∷ [] else l.string_in field x)) [
      | true ↦ alone field x 0 Word refl
      | false ↦ in_leaf field (h.Str x None) refl
    ]

key : (x : Text) → IsIn AKey 0 (returned_key x)
key x =
    elim (bytes_eq x (codes "__proto__")) as (λ b. IsIn AKey 0 (if b then h.Open 0 h.ComputedPropName ∷ h.Open 0 (h.Str x None) ∷ h.Close ∷ h.Close ∷ [] else (if is_ascii_identifier x then plain_key x else h.Open 0 (h.Str x None) ∷ h.Close ∷ []))) [
      | true ↦ in_node 0 h.ComputedPropName refl (last (in_leaf {sort = AnExpr} 0 (h.Str x None) refl))
      | false ↦ elim (is_ascii_identifier x) as (λ b. IsIn AKey 0 (if b then plain_key x else h.Open 0 (h.Str x None) ∷ h.Close ∷ [])) [
        | true ↦ in_leaf 0 (h.IdentName x) refl
        | false ↦ in_leaf 0 (h.Str x None) refl
      ]
    ]

-- Functions, calls and declarations.

function : {params stmts : List Item} (field : ℕ) → AreEach AParameter 0 params → AreEach AStmt 0 stmts → IsIn AFunction field (l.function_in field params stmts)
function field params stmts = in_node field (h.Function false false) refl (each refl params (last (in_node 1 h.BlockStmt refl (last_each stmts))))

function_expr : {params stmts : List Item} (field : ℕ) → AreEach AParameter 0 params → AreEach AStmt 0 stmts → IsIn AnExpr field (node field h.FnExpr (l.function_in 1 params stmts))
function_expr field params stmts = in_node field h.FnExpr refl (maybe refl none (last (function 1 params stmts)))

call : {callee args : List Item} (field : ℕ) → IsIn AnExpr 0 callee → AreEach AnArgument 1 args → IsIn AnExpr field (l.call_in field callee args)
call field callee args = in_node field h.CallExpr refl (one (as_callee callee) (last_each args))

argument : {value : List Item} → IsIn AnExpr 1 value → IsIn AnArgument 1 (l.argument value)
argument value = in_node 1 (h.ExprOrSpread false) refl (last value)

member : (field : ℕ) (x : Ident) (word : Text) → IsIn AnExpr field (l.member field x word)
member field x word = in_node field h.MemberExpr refl (one (read 0 x) (last (in_leaf {sort = AMemberKey} 1 (h.IdentName word) refl)))

declarator : {name value : List Item} → IsIn (APattern Binding) 0 name → IsIn AnExpr 1 value → IsIn ADeclarator 1 (l.declarator name value)
declarator target value = in_node 1 h.VarDeclarator refl (one target (last_maybe (some value)))

declaration : {declarators : List Item} (kind : VarDeclKind) (notes : ExportMetadata) → AreEach ADeclarator 1 declarators → IsIn AStmt 0 (node 0 (h.VarDecl kind notes) declarators)
declaration kind notes declarators = in_node 0 (h.VarDecl kind notes) refl (last_each declarators)

expression : {value : List Item} → IsIn AnExpr 0 value → IsIn AStmt 0 (node 0 h.ExprStmt value)
expression value = in_node 0 h.ExprStmt refl (last value)

returned : {value : List Item} → IsIn AnExpr 0 value → IsIn AStmt 0 (node 0 h.ReturnStmt value)
returned value = in_node 0 h.ReturnStmt refl (last_maybe (some value))

-- Imports and exports.

import_specifier : (pair : Text × Ident) → IsIn AnImport 0 (l.import_specifier pair)
import_specifier pair =
    in_node 0 h.ImportNamedSpecifier refl (one (alone 0 pair.1.0 pair.1.1 Binding refl) (last_maybe (some (export_name 1 pair.0))))

pub names_imported : (s : Text) (pairs : List (Text × Ident)) → IsIn AnItem 0 (l.import_names s pairs)
names_imported s pairs = in_node 0 (h.ImportDecl no_notes) refl (each refl (each_of l.import_specifier import_specifier pairs) (last (string 1 s)))

pub whole_imported : (s : Text) (x : Ident) → IsIn AnItem 0 (l.import_whole s x)
whole_imported s x =
    in_node 0 (h.ImportDecl no_notes) refl (each refl (only (in_node {sort = AnImport} 0 h.ImportStarAsSpecifier refl (last (alone 0 x.0 x.1 Binding refl)))) (last (string 1 s)))

pub bare_imported : (s : Text) → IsIn AnItem 0 (l.import_bare s)
bare_imported s = in_node 0 (h.ImportDecl no_notes) refl (each {sort = AnImport} refl ended (last (string 1 s)))

pub star_exported : (s : Text) → IsIn AnItem 0 (l.export_star s)
star_exported s = in_node 0 (h.ExportAll no_notes) refl (last (string 0 s))

export_specifier : (pair : Text × Ident) → IsIn (AnExport Reference) 0 (l.export_specifier pair)
export_specifier pair =
    in_node 0 h.ExportNamedSpecifier refl (one (alone 0 pair.1.0 pair.1.1 Reference refl) (last_maybe (some (export_name 1 pair.0))))

-- no source comes behind the names of a list
past_name : (x : Text) (rest : List Item) → has_source 1 (l.export_name_in 1 x ++ rest) ≡ has_source 1 rest
past_name x rest =
    elim (is_ascii_identifier x) as (λ b. has_source 1 ((if b then h.Ident 1 x 0 Word ∷ [] else l.string_in 1 x) ++ rest) ≡ has_source 1 rest) [
      | true ↦ refl
      | false ↦ refl
    ]

past_specifier : (pair : Text × Ident) (rest : List Item) → has_source zero (l.export_specifier pair ++ rest) ≡ has_source zero rest
past_specifier pair rest =
    subst (λ list. has_source 1 list ≡ has_source zero rest) (sym (append_assoc (l.export_name_in 1 pair.0) (h.Close ∷ []) rest))
    (past_name pair.0 (h.Close ∷ rest))

past_specifiers : (pairs : List (Text × Ident)) (rest : List Item) → has_source zero (flat_map l.export_specifier pairs ++ rest) ≡ has_source zero rest
past_specifiers [] rest = refl
past_specifiers (pair ∷ pairs) rest =
    subst (λ list. has_source zero list ≡ has_source zero rest) (sym (append_assoc (l.export_specifier pair) (flat_map l.export_specifier pairs) rest))
    (past_specifier pair (flat_map l.export_specifier pairs ++ rest) ∙ past_specifiers pairs rest)

pub list_exported : (pairs : List (Text × Ident)) → IsIn AnItem 0 (l.export_list pairs)
list_exported pairs = export_list refl (λ behind. past_specifiers pairs (h.Close ∷ behind)) (last_each (each_of l.export_specifier export_specifier pairs))

-- Objects.

property : (pair : Text × Ident) → IsIn APropertyOrSpread 0 (returned_property pair)
property pair =
    subst (λ list. IsIn APropertyOrSpread 0 (h.Open 0 h.KeyValueProp ∷ list)) (append_assoc (returned_key pair.0) (l.named 1 Reference pair.1) (h.Close ∷ []))
    (in_node 0 h.KeyValueProp refl (one (key pair.0) (last (read 1 pair.1))))

pub object_returned : (pairs : List (Text × Ident)) → IsIn AStmt 0 (returned_object pairs)
object_returned pairs =
    subst (λ list. IsIn AStmt 0 (h.Open 0 h.ReturnStmt ∷ h.Open 0 h.ObjectLit ∷ list)) (append_assoc (flat_map returned_property pairs) (h.Close ∷ []) (h.Close ∷ []))
    (returned (in_node 0 h.ObjectLit refl (last_each (each_of returned_property property pairs))))

pub namespace_declared : (notes : ExportMetadata) (object : Ident) (pairs : List (Text × Ident)) → IsIn AStmt 0 (l.namespace_object notes object pairs)
namespace_declared notes object pairs =
    declaration Const notes (only (declarator (pattern 0 object) (call 1 (function_expr 0 ended (only (object_returned pairs))) ended)))

-- CommonJS modules.

load_call : (field : ℕ) (load : Ident) → IsIn AnExpr field (l.load_call field load)
load_call field load = call field (read 0 load) ended

load_property : (pair : Text × Ident) → IsIn (APatternProperty Binding) 0 (l.load_property pair)
load_property pair = in_node 0 h.KeyValuePatProp refl (one (key pair.0) (last (pattern 1 pair.1)))

load_pattern : (pairs : List (Text × Ident)) → IsIn (APattern Binding) 0 (l.load_pattern pairs)
load_pattern pairs = in_node 0 h.ObjectPat refl (last_each (each_of l.load_property load_property pairs))

pub module_loaded : (load : Ident) (whole : Option Ident) (pairs : List (Text × Ident)) → IsIn AStmt 0 (l.load_statement load whole pairs)
module_loaded load None [] = expression (load_call 0 load)
module_loaded load None (pair ∷ more) = declaration Var no_notes (only (declarator (load_pattern (pair ∷ more)) (load_call 1 load)))
module_loaded load (Some w) [] = declaration Var no_notes (only (declarator (pattern 0 w) (load_call 1 load)))
module_loaded load (Some w) (pair ∷ more) =
    declaration Var no_notes (next (declarator (pattern 0 w) (load_call 1 load)) (only (declarator (load_pattern (pair ∷ more)) (read 1 w))))

parameter : (x : Ident) → IsIn AParameter 0 (l.parameter x)
parameter x = in_node 0 h.Param refl (last (pattern 0 x))

exported : IsIn APropertyOrSpread 0 l.exported
exported = in_node 0 h.KeyValueProp refl (one (in_leaf {sort = AKey} 0 (h.IdentName (codes "exports")) refl) (last (in_node {sort = AnExpr} 1 h.ObjectLit refl (last_each {sort = APropertyOrSpread} ended))))

makes_module : (m : Ident) → IsIn AStmt 0 (l.makes_module m)
makes_module m =
    expression (in_node 0 (h.AssignExpr Assign) refl (one (in_node 1 h.BindingIdent refl (last (alone 0 m.0 m.1 Reference refl))) (last (in_node 2 h.ObjectLit refl (last_each (only exported))))))

runs_module : (f m : Ident) → IsIn AStmt 0 (l.runs_module f m)
runs_module f m =
    let exports : IsIn AnArgument 1 (l.argument (l.member 1 m (codes "exports"))) = argument (member 1 m (codes "exports")) in
    expression (call 0 (member 0 f (codes "call")) (subst (AreEach AnArgument 1) (sym (append_assoc (l.argument (l.member 1 m (codes "exports"))) (l.argument (l.named 1 Reference m)) (l.argument (l.member 1 m (codes "exports"))))) (next exports (next (argument (read 1 m)) (only exports)))))

-- one node in a field, and nothing in the last, which may be empty
and_none : {sort other : Sort} {field number : ℕ} {items : List Item} → IsIn sort field items → AreIn (slot field One sort ∷ slot number Optional other ∷ []) items
and_none {sort} {other} {field} {number} {items} it =
    subst (AreIn (slot field One sort ∷ slot number Optional other ∷ [])) (append-nil items) (one it (last_maybe none))

loads_once : (f m : Ident) → IsIn AStmt 0 (l.loads_once f m)
loads_once f m =
    in_node 0 h.IfStmt refl (one (in_node 0 (h.UnaryExpr Bang) refl (last (read 1 m))) (and_none (in_node 1 h.BlockStmt refl (last_each (next (makes_module m) (only (runs_module f m)))))))

helper_body : (f m : Ident) → AreEach AStmt 0 (l.helper_body f m)
helper_body f m =
    next (declaration Var no_notes (only (in_node 1 h.VarDeclarator refl (and_none (pattern 0 m)))))
    (only (returned (function_expr 0 ended (next (loads_once f m) (only (returned (member 0 m (codes "exports"))))))))

pub helper_declared : (helper f m : Ident) → IsIn AStmt 0 (l.helper_function helper f m)
helper_declared helper f m =
    in_node 0 h.FnDecl refl (one (alone 0 helper.0 helper.1 Binding refl) (last (function 1 (only (parameter f)) (helper_body f m))))
