-- Tidy lists beside one another and in nodes.
-- The forms that a linker adds are tidy.
use Rattle.std.proofs.Common.{◌≡◌, ℕ, List, [], ◌∷◌, ◌++◌, refl, ap₂, Bool, true, false, Option, Some, None, bytes_eq, codes}
use Rattle.std.specs.Prelude.{flat_map, if◌then◌else◌}
use Rattle.std.specs.List.{AllByRecursion}
use Rattle.bundle_syntax.specs.Item as h
use Rattle.bundle_syntax.specs.Item.{Item, Head}
use Rattle.bundle_syntax.specs.declared.kind.VarDeclKind.TheVariants.{Var, Const}
use Rattle.bundle_syntax.specs.declared.piece.Role.TheVariants as r
use Rattle.bundle_rules.specs.Cleared.{cleared_head, tidy_item, tidied}
use Rattle.bundle_rules.specs.Sorting.{flat}
use Rattle.bundle_rules.specs.Forms.{returned_key, returned_property, returned_object}
use Rattle.bundle_rules.specs.Idents.{Ident}
use Rattle.bundle_rules.specs.Injected.{is_ascii_identifier}
use Rattle.bundle_rules.specs.Nodes.{Text}
use Rattle.bundle_rules.specs.Rebuilds.{plain_key}
use Rattle.bundle_rules.specs.Statements.{no_notes}
use Rattle.bundle_tree_places.specs.Edits.{node}
use Rattle.bundle_merge_injected.specs.Listed as l
use Rattle.bundle_merge_theory.specs.tidy.Tidy.{AreTidy}

-- ---- lists
pub tidied_so : (items : List Item) → AreTidy items → tidied items ≡ items
tidied_so [] are = refl
tidied_so (x ∷ items) are =
    ap₂ (λ (y : Item) (rest : List Item). y ∷ rest) are.0 (tidied_so items are.1)

pub tidy_so : (items : List Item) → tidied items ≡ items → AreTidy items
tidy_so [] e = tt
tidy_so (x ∷ items) e =
    let first : tidy_item x ≡ x = cc in
    let behind : tidied items ≡ items = cc in
    (first, tidy_so items behind)

pub tidy_both : (xs ys : List Item) → AreTidy xs → AreTidy ys → AreTidy (xs ++ ys)
tidy_both [] ys one two = two
tidy_both (x ∷ xs) ys one two = (one.0, tidy_both xs ys one.1 two)

pub tidy_node : (field : ℕ) (head : Head) (inside : List Item) → cleared_head head ≡ head →
    AreTidy inside → AreTidy (node field head inside)
tidy_node field head inside same are =
    (λ i. h.Open field (same i), tidy_both inside (h.Close ∷ []) are (refl, tt))

pub tidy_each : {A : Type 0} (f : A → List Item) → ((x : A) → AreTidy (f x)) → (xs : List A) →
    AreTidy (flat_map f xs)
tidy_each f are [] = tt
tidy_each f are (x ∷ xs) = tidy_both (f x) (flat_map f xs) (are x) (tidy_each f are xs)

pub tidy_flat : (lists : List (List Item)) → AllByRecursion AreTidy lists → AreTidy (flat lists)
tidy_flat [] are = tt
tidy_flat (one ∷ more) are = tidy_both one (flat more) are.0 (tidy_flat more are.1)

-- ---- forms

-- names of other modules
tidy_outer : (x : Text) → AreTidy (l.export_name_in 1 x)
tidy_outer x = by (is_ascii_identifier x)
  where
    by : (is : Bool) → AreTidy (if is then h.Ident 1 x 0 r.Word ∷ [] else l.string_in 1 x)
    by true = (refl, tt)
    by false = (refl, (refl, tt))

import_specifier : (pair : Text × Ident) → AreTidy (l.import_specifier pair)
import_specifier pair =
    tidy_node 0 h.ImportNamedSpecifier (l.named 0 r.Binding pair.1 ++ l.export_name_in 1 pair.0)
    refl
    (refl, tidy_outer pair.0)

pub tidy_imports : (s : Text) (pairs : List (Text × Ident)) → AreTidy (l.import_names s pairs)
tidy_imports s pairs =
    tidy_node 0 (h.ImportDecl no_notes) (flat_map l.import_specifier pairs ++ l.string_in 1 s) refl
    (tidy_both (flat_map l.import_specifier pairs) (l.string_in 1 s)
    (tidy_each l.import_specifier import_specifier pairs) (refl, (refl, tt)))

pub tidy_import : (s : Text) (name : Ident) → AreTidy (l.import_whole s name)
tidy_import s name = (refl, (refl, (refl, (refl, (refl, (refl, (refl, tt)))))))

pub tidy_bare : (s : Text) → AreTidy (l.import_bare s)
tidy_bare s = (refl, (refl, (refl, (refl, tt))))

pub tidy_star : (s : Text) → AreTidy (l.export_star s)
tidy_star s = (refl, (refl, (refl, (refl, tt))))

export_specifier : (pair : Text × Ident) → AreTidy (l.export_specifier pair)
export_specifier pair =
    tidy_node 0 h.ExportNamedSpecifier (l.named 0 r.Reference pair.1 ++ l.export_name_in 1 pair.0)
    refl (refl, tidy_outer pair.0)

pub tidy_exports : (pairs : List (Text × Ident)) → AreTidy (l.export_list pairs)
tidy_exports pairs =
    tidy_node 0 (h.NamedExport no_notes) (flat_map l.export_specifier pairs) refl
    (tidy_each l.export_specifier export_specifier pairs)

-- constants
pub tidy_constant : (name : Ident) (value : List Item) → AreTidy value →
    AreTidy (l.constant no_notes name value)
tidy_constant name value are =
    tidy_node 0 (h.VarDecl Const no_notes) (l.declarator (l.pattern_of 0 r.Binding name) value) refl
    (tidy_node 1 h.VarDeclarator (l.pattern_of 0 r.Binding name ++ value) refl
    (refl, (refl, (refl, are))))

tidy_key : (x : Text) → AreTidy (returned_key x)
tidy_key x = by (bytes_eq x (codes "__proto__")) (is_ascii_identifier x)
  where
    by : (is plain : Bool) →
        AreTidy
        (if is then h.Open 0 h.ComputedPropName ∷ h.Open 0 (h.Str x None) ∷ h.Close ∷ h.Close ∷ [] else (if plain then plain_key x else h.Open 0 (h.Str x None) ∷ h.Close ∷ []))
    by true plain = (refl, (refl, (refl, (refl, tt))))
    by false true = (refl, (refl, tt))
    by false false = (refl, (refl, tt))

tidy_property : (pair : Text × Ident) → AreTidy (returned_property pair)
tidy_property pair = (
  refl,
  tidy_both (returned_key pair.0) (h.Ident 1 pair.1.0 pair.1.1 r.Reference ∷ h.Close ∷ [])
      (tidy_key pair.0) (refl, (refl, tt)),
)

tidy_returned : (pairs : List (Text × Ident)) → AreTidy (returned_object pairs)
tidy_returned pairs = (
  refl,
  (
    refl,
    tidy_both (flat_map returned_property pairs) (h.Close ∷ h.Close ∷ [])
        (tidy_each returned_property tidy_property pairs) (refl, (refl, tt)),
  ),
)

tidy_function : (field : ℕ) (params stmts : List Item) → AreTidy params → AreTidy stmts →
    AreTidy (l.function_in field params stmts)
tidy_function field params stmts one two =
    tidy_node field (h.Function false false) (params ++ node 1 h.BlockStmt stmts) refl
    (tidy_both params (node 1 h.BlockStmt stmts) one (tidy_node 1 h.BlockStmt stmts refl two))

tidy_call : (field : ℕ) (callee args : List Item) → AreTidy callee → AreTidy args →
    AreTidy (l.call_in field callee args)
tidy_call field callee args one two =
    tidy_node field h.CallExpr (callee ++ args) refl (tidy_both callee args one two)

pub tidy_namespace : (object : Ident) (pairs : List (Text × Ident)) →
    AreTidy (l.namespace_object no_notes object pairs)
tidy_namespace object pairs =
    let its : List Item = l.function_in 1 [] (returned_object pairs) in
    let made : List Item = node 0 h.FnExpr its in
    tidy_constant object (l.call_in 1 made [])
    (tidy_call 1 made []
    (tidy_node 0 h.FnExpr its refl
    (tidy_function 1 [] (returned_object pairs) tt (tidy_returned pairs))) tt)

-- load statements
tidy_load_property : (pair : Text × Ident) → AreTidy (l.load_property pair)
tidy_load_property pair =
    tidy_node 0 h.KeyValuePatProp (returned_key pair.0 ++ l.pattern_of 1 r.Binding pair.1) refl
    (tidy_both (returned_key pair.0) (l.pattern_of 1 r.Binding pair.1) (tidy_key pair.0)
    (refl, (refl, (refl, tt))))

load_pattern : (pairs : List (Text × Ident)) → AreTidy (l.load_pattern pairs)
load_pattern pairs =
    tidy_node 0 h.ObjectPat (flat_map l.load_property pairs) refl
    (tidy_each l.load_property tidy_load_property pairs)

tidy_declarator : (name value : List Item) → AreTidy name → AreTidy value →
    AreTidy (l.declarator name value)
tidy_declarator name value one two =
    tidy_node 1 h.VarDeclarator (name ++ value) refl (tidy_both name value one two)

tidy_var : (inside : List Item) → AreTidy inside →
    AreTidy (node 0 (h.VarDecl Var no_notes) inside)
tidy_var inside are = tidy_node 0 (h.VarDecl Var no_notes) inside refl are

pub tidy_loads : (load : Ident) (whole : Option Ident) (pairs : List (Text × Ident)) →
    AreTidy (l.load_statement load whole pairs)
tidy_loads load None [] = (refl, (refl, (refl, (refl, (refl, tt)))))
tidy_loads load None (pair ∷ more) =
    tidy_var (l.declarator (l.load_pattern (pair ∷ more)) (l.load_call 1 load))
    (tidy_declarator (l.load_pattern (pair ∷ more)) (l.load_call 1 load)
    (load_pattern (pair ∷ more)) (refl, (refl, (refl, tt))))
tidy_loads load (Some w) [] =
    (refl, (refl, (refl, (refl, (refl, (refl, (refl, (refl, (refl, (refl, tt))))))))))
tidy_loads load (Some w) (pair ∷ more) =
    tidy_var
    (l.declarator (l.pattern_of 0 r.Binding w) (l.load_call 1 load)
    ++ l.declarator (l.load_pattern (pair ∷ more)) (l.named 1 r.Reference w))
    (tidy_both (l.declarator (l.pattern_of 0 r.Binding w) (l.load_call 1 load))
    (l.declarator (l.load_pattern (pair ∷ more)) (l.named 1 r.Reference w))
    (refl, (refl, (refl, (refl, (refl, (refl, (refl, (refl, tt))))))))
    (tidy_declarator (l.load_pattern (pair ∷ more)) (l.named 1 r.Reference w)
    (load_pattern (pair ∷ more)) (refl, tt)))

-- load functions, of tidy statements
pub tidy_load : (load helper m e : Ident) (stmts : List Item) → AreTidy stmts →
    AreTidy (l.load_function load helper m e stmts)
tidy_load load helper m e stmts are =
    let inside : List Item = l.function_in 1 (l.parameter m ++ l.parameter e) stmts in
    let given : List Item = node 1 h.FnExpr inside in
    tidy_var
    (l.declarator (l.pattern_of 0 r.Binding load)
    (l.call_in 1 (l.named 0 r.Reference helper) (l.argument given)))
    (tidy_declarator (l.pattern_of 0 r.Binding load)
    (l.call_in 1 (l.named 0 r.Reference helper) (l.argument given)) (refl, (refl, (refl, tt)))
    (tidy_call 1 (l.named 0 r.Reference helper) (l.argument given) (refl, tt)
    (tidy_node 1 (h.ExprOrSpread false) given refl
    (tidy_node 1 h.FnExpr inside refl
    (tidy_function 1 (l.parameter m ++ l.parameter e) stmts
    (refl, (refl, (refl, (refl, (refl, (refl, (refl, (refl, (refl, (refl, tt)))))))))) are)))))

-- the helper
pub tidy_helper : (helper f m : Ident) → AreTidy (l.helper_function helper f m)
tidy_helper helper f m = tidy_so (l.helper_function helper f m) refl
