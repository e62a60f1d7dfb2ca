-- Theorem of this folder (`load_lone`, `meta_lone` and the like): what a linker adds has the marks
-- of its form, where its names stand for themselves alone, and the function of a CommonJS module
-- means what it has to.
-- Used by folders `added`, `answered`, `finished`, `function`, `undoubled` of `bundle_merge_theory`
-- and by the crate `bundle_merge`.
use Rattle.std.proofs.Common.{◌≡◌, ℕ, Bool, true, false, List, [], ◌∷◌, ◌++◌, Option, Some, None, map, refl, sym, subst, append_assoc, append-nil, zero, ap, ◌∙◌}
use Rattle.std.specs.Prelude.{flat_map, bytes_eq, codes, if◌then◌else◌}
use Rattle.bundle_syntax.specs.declared.kind.ExportMetadata.{ExportMetadata}
use Rattle.bundle_syntax.specs.declared.kind.VarDeclKind.TheVariants.{Var, Const}
use Rattle.bundle_syntax.specs.declared.operator.AssignOp.TheVariants.{Assign}
use Rattle.bundle_syntax.specs.declared.operator.UnaryOp.TheVariants.{Bang}
use Rattle.bundle_syntax.specs.declared.piece.Role.{Role}
use Rattle.bundle_syntax.specs.Item as h
use Rattle.bundle_syntax.specs.Item.{Item}
use Rattle.bundle_syntax.specs.declared.piece.Role.TheVariants as r
use Rattle.bundle_rules.specs.Nodes.{Text, side_by_side, flat, StandsWhole, IsWholeModule}
use Rattle.bundle_rules.specs.Idents.{Ident}
use Rattle.bundle_rules.specs.Entries.{Named, Whole}
use Rattle.bundle_rules.specs.Linking.{Target, Namespace, External, CommonJs}
use Rattle.bundle_rules.specs.Meaning.{Label, Of, Load, Meta, Helper, Meant, Inside, Known, Mark}
use Rattle.bundle_rules.specs.Rebuilds.{plain_key}
use Rattle.bundle_rules.specs.Statements.{no_notes}
use Rattle.bundle_rules.specs.Forms.{returned_key, returned_property, returned_object}
use Rattle.bundle_rules.specs.Injected as f
use Rattle.bundle_rules.specs.Injected.{is_ascii_identifier}
use Rattle.bundle_rules.specs.Marks as m
use Rattle.bundle_tree_places.specs.Edits.{Around, Anywhere, InObject, node, is_occurrence}
use Rattle.bundle_tree_rebuild.specs.declared.rewrite.Whole.TheVariants as w
use Rattle.bundle_merge_injected.specs.Listed as l
use Rattle.bundle_merge_theory.specs.noted.Marked as d
use Rattle.bundle_merge_theory.specs.noted.Marked.{Note, Marked}
use Rattle.bundle_merge_theory.specs.walked.Keeps.{notes_alone}
use Rattle.bundle_merge_theory.specs.walked.Renaming.{HasMarks, ends_no_specifier, HasNoLoneName}
use Rattle.bundle_merge_theory.proofs.walked.Keeping.{binding_marked, alone_stays}
use Rattle.bundle_merge_theory.specs.noted.Nodes
use Rattle.bundle_merge_theory.specs.noted.Nodes.{AreNodesInTurn}
use Rattle.bundle_merge_theory.proofs.noted.Names.{beside_node}
use Rattle.bundle_merge_theory.specs.walked.Rewrites.{AreOwn}
use Rattle.bundle_merge_theory.proofs.walked.Rewriting.{own_joined, own_node, own_lone}

-- ---- injecting

-- Names and keys.

-- a name, its identifier, and what it is linked to
abbrev pub Row : Type 0
Row = Text × Ident × Target

-- what the row's name means
abbrev pub means_of : Row → Meant
means_of row = Known (Of row.2)

abbrev pub written_of : Row → Text × Ident
written_of row = (row.0, row.1)

abbrev pub target_of : Row → Text × Target
target_of row = (row.0, row.2)

string_marked : {around : Around} {its : List Note} (field : ℕ) (x : Text) →
    Marked None around its (l.string_in field x) (f.string_marks field x) its
string_marked field x = d.Inside field (h.Str x None) refl d.Nothing

-- a specifier: a name, and the name of another module
export_specified : (meant : Meant) (rest : List Note) (id : Ident) (x : Text) (role : Role)
    (b : Bool) {around : Around} → is_occurrence role ≡ true →
    Marked None around (record { meant = meant; whole = w.Alone } ∷ rest)
    (node 0 h.ExportNamedSpecifier
    (h.Ident 0 id.0 id.1 role ∷ (if b then h.Ident 1 x 0 r.Word ∷ [] else l.string_in 1 x)))
    (f.marks_node 0 h.ExportNamedSpecifier
    (m.Name 0 meant ∷ (if b then m.Word 1 x ∷ [] else f.string_marks 1 x)))
    rest
export_specified meant rest id x role true occurs =
    d.Inside 0 h.ExportNamedSpecifier refl
    (d.Joined (d.Name Anywhere 0 id.0 id.1 role occurs) (d.Word 1 x 0 r.Word refl))
export_specified meant rest id x role false occurs =
    d.Inside 0 h.ExportNamedSpecifier refl
    (d.Joined (d.Name Anywhere 0 id.0 id.1 role occurs) (string_marked 1 x))

import_specified : (meant : Meant) (rest : List Note) (id : Ident) (x : Text) (role : Role)
    (b : Bool) {around : Around} → is_occurrence role ≡ true →
    Marked None around (record { meant = meant; whole = w.Alone } ∷ rest)
    (node 0 h.ImportNamedSpecifier
    (h.Ident 0 id.0 id.1 role ∷ (if b then h.Ident 1 x 0 r.Word ∷ [] else l.string_in 1 x)))
    (f.marks_node 0 h.ImportNamedSpecifier
    (m.Name 0 meant ∷ (if b then m.Word 1 x ∷ [] else f.string_marks 1 x)))
    rest
import_specified meant rest id x role true occurs =
    d.Inside 0 h.ImportNamedSpecifier refl
    (d.Joined (d.Name Anywhere 0 id.0 id.1 role occurs) (d.Word 1 x 0 r.Word refl))
import_specified meant rest id x role false occurs =
    d.Inside 0 h.ImportNamedSpecifier refl
    (d.Joined (d.Name Anywhere 0 id.0 id.1 role occurs) (string_marked 1 x))

exports_marked : {around : Around} (rows : List Row) (more : List Meant) →
    Marked None around (notes_alone (map means_of rows ++ more))
    (flat_map l.export_specifier (map written_of rows))
    (flat_map f.export_specifier (map target_of rows)) (notes_alone more)
exports_marked [] more = d.Nothing
exports_marked (row ∷ rows) more =
    d.Joined
    (export_specified (means_of row) (notes_alone (map means_of rows ++ more)) row.1 row.0 r.Reference
    (is_ascii_identifier row.0) refl)
    (exports_marked rows more)

-- the list of exports
pub export_list_marked : (rows : List Row) →
    HasMarks (l.export_list (map written_of rows))
    (map means_of rows, f.export_list (map target_of rows))
export_list_marked rows =
    subst
    (λ meants.
    Marked None Anywhere (notes_alone meants) (l.export_list (map written_of rows))
    (f.export_list (map target_of rows)) [])
    (append-nil (map means_of rows))
    (d.Inside 0 (h.NamedExport no_notes) refl (exports_marked rows []))

-- Imports.

abbrev pub Import : Type 0
Import = Text × Ident

-- what a name that is imported from s means
abbrev pub imported_from : Text → Import → Meant
imported_from s it = Known (Of (External s (Named it.0)))

imports_marked : {around : Around} (s : Text) (its : List Import) (more : List Meant) →
    Marked None around (notes_alone (map (imported_from s) its ++ more))
    (flat_map l.import_specifier its) (flat_map (f.import_specifier s) (map (λ it. it.0) its))
    (notes_alone more)
imports_marked s [] more = d.Nothing
imports_marked s (it ∷ its) more =
    d.Joined
    (import_specified (imported_from s it) (notes_alone (map (imported_from s) its ++ more)) it.1 it.0
    r.Binding (is_ascii_identifier it.0) refl)
    (imports_marked s its more)

pub import_names_marked : (s : Text) (its : List Import) →
    HasMarks (l.import_names s its)
    (map (imported_from s) its, f.import_names s (map (λ it. it.0) its))
import_names_marked s its =
    subst
    (λ meants.
    Marked None Anywhere (notes_alone meants) (l.import_names s its)
    (f.import_names s (map (λ it. it.0) its)) [])
    (append-nil (map (imported_from s) its))
    (d.Inside 0 (h.ImportDecl no_notes) refl
    (d.Joined (imports_marked s its []) (string_marked 1 s)))

pub import_whole_marked : (s : Text) (whole : Ident) →
    HasMarks (l.import_whole s whole) (Known (Of (External s Whole)) ∷ [], f.import_whole s)
import_whole_marked s whole =
    d.Inside 0 (h.ImportDecl no_notes) refl
    (d.Joined
    (d.Inside 0 h.ImportStarAsSpecifier refl (d.Name Anywhere 0 whole.0 whole.1 r.Binding refl))
    (string_marked 1 s))

pub import_bare_marked : (s : Text) → HasMarks (l.import_bare s) ([], f.import_bare s)
import_bare_marked s = d.Inside 0 (h.ImportDecl no_notes) refl (string_marked 1 s)

pub export_star_marked : (s : Text) → HasMarks (l.export_star s) ([], f.export_star s)
export_star_marked s = d.Inside 0 (h.ExportAll no_notes) refl (string_marked 0 s)

-- Objects.

key_by : {around : Around} {its : List Note} (x : Text) (computed plain : Bool) →
    Marked None around its
    (if computed then h.Open 0 h.ComputedPropName ∷ h.Open 0 (h.Str x None) ∷ h.Close ∷ h.Close
    ∷ [] else (if plain then plain_key x else h.Open 0 (h.Str x None) ∷ h.Close ∷ []))
    (if computed then m.computed_key x else (if plain then m.word_key x else f.string_marks 0 x))
    its
key_by x true plain = d.Inside 0 h.ComputedPropName refl (d.Inside 0 (h.Str x None) refl d.Nothing)
key_by x false true = d.Inside 0 (h.IdentName x) refl d.Nothing
key_by x false false = d.Inside 0 (h.Str x None) refl d.Nothing

key_marked : {around : Around} {its : List Note} (x : Text) →
    Marked None around its (returned_key x) (f.key_marks x) its
key_marked x = key_by x (bytes_eq x (codes "__proto__")) (is_ascii_identifier x)

property_marked : {around : Around} (row : Row) (rest : List Note) →
    Marked None around (record { meant = means_of row; whole = w.Alone } ∷ rest)
    (returned_property (written_of row)) (f.property (target_of row)) rest
property_marked {around = around} row rest =
    subst
    (λ list.
    Marked None around (record { meant = means_of row; whole = w.Alone } ∷ rest)
    (h.Open 0 h.KeyValueProp ∷ list) (f.property (target_of row)) rest)
    (append_assoc (returned_key row.0) (h.Ident 1 (row.1).0 (row.1).1 r.Reference ∷ [])
    (h.Close ∷ []))
    (d.Inside 0 h.KeyValueProp refl
    (d.Joined (key_marked row.0) (d.Name Anywhere 1 (row.1).0 (row.1).1 r.Reference refl)))

properties_marked : {around : Around} (rows : List Row) (more : List Meant) →
    Marked None around (notes_alone (map means_of rows ++ more))
    (flat_map returned_property (map written_of rows)) (flat_map f.property (map target_of rows))
    (notes_alone more)
properties_marked [] more = d.Nothing
properties_marked (row ∷ rows) more =
    d.Joined (property_marked row (notes_alone (map means_of rows ++ more)))
    (properties_marked rows more)

-- the object that is returned
pub returned_marked : {around : Around} (rows : List Row) (more : List Meant) →
    Marked None around (notes_alone (map means_of rows ++ more)) (returned_object (map written_of rows))
    (f.return_object (map target_of rows)) (notes_alone more)
returned_marked {around = around} rows more =
    let properties : List Item = flat_map returned_property (map written_of rows) in
    subst
    (λ list.
    Marked None around (notes_alone (map means_of rows ++ more))
    (h.Open 0 h.ReturnStmt ∷ h.Open 0 h.ObjectLit ∷ list)
    (f.return_object (map target_of rows)) (notes_alone more))
    (append_assoc properties (h.Close ∷ []) (h.Close ∷ []))
    (d.Inside 0 h.ReturnStmt refl (d.Inside 0 h.ObjectLit refl (properties_marked rows more)))

-- a declaration of one name
declares_marked : {around : Around} (kind : _) (notes : ExportMetadata) (name : Ident)
    (label : Label) {value : List Item} {marks : List Mark} {its rest : List Note} →
    Marked None Anywhere its value marks rest →
    Marked None around (record { meant = Known label; whole = w.Alone } ∷ its)
    (node 0 (h.VarDecl kind notes) (l.declarator (l.pattern_of 0 r.Binding name) value))
    (f.declaration kind (f.declarator (f.declares 0 label) marks)) rest
declares_marked kind notes name label one =
    d.Inside 0 (h.VarDecl kind notes) refl
    (d.Inside 1 h.VarDeclarator refl (d.Joined (binding_marked 0 name r.Binding _ _ refl) one))

-- the object of a namespace
pub namespace_marked : (notes : ExportMetadata) (object : Ident) (d' : ℕ) (rows : List Row) →
    HasMarks (l.namespace_object notes object (map written_of rows))
    (Known (Of (Namespace d')) ∷ map means_of rows, f.namespace_object d' (map target_of rows))
namespace_marked notes object d' rows =
    let made : List Item =
    node 0 h.FnExpr (l.function_in 1 [] (returned_object (map written_of rows))) in
    declares_marked Const notes object (Of (Namespace d'))
    (subst (λ meants. Marked None Anywhere (notes_alone meants) (l.call_in 1 made []) (f.marks_node 1 h.CallExpr (f.marks_node 0 h.FnExpr (f.marks_node 1 (h.Function false false) (f.marks_node 1 h.BlockStmt (f.return_object (map target_of rows)))))) []) (append-nil (map means_of rows))
    (subst (λ list. Marked None Anywhere (notes_alone (map means_of rows ++ [])) (node 1 h.CallExpr list) (f.marks_node 1 h.CallExpr (f.marks_node 0 h.FnExpr (f.marks_node 1 (h.Function false false) (f.marks_node 1 h.BlockStmt (f.return_object (map target_of rows)))))) []) (sym (append-nil made))
    (d.Inside 1 h.CallExpr (alone_stays (map means_of rows ++ []) h.CallExpr made) (d.Inside 0 h.FnExpr refl (d.Inside 1 (h.Function false false) refl (d.Inside 1 h.BlockStmt refl (returned_marked rows [])))))))

-- the `import.meta` of a module, by the marks of its properties
pub meta_marked : (notes : ExportMetadata) (name : Ident) (k : ℕ) (properties : List Item)
    (meants : List Meant) (marks : List Mark) →
    Marked None InObject (notes_alone meants) properties marks [] →
    HasMarks (l.constant notes name (node 1 h.ObjectLit properties))
    (Known (Meta k) ∷ meants, f.meta_object k marks)
meta_marked notes name k properties meants marks one =
    declares_marked Const notes name (Meta k) (d.Inside 1 h.ObjectLit refl one)

-- CommonJS modules.

-- a call of a name without arguments
call_marked : {around : Around} (field : ℕ) (load : Ident) (c : ℕ) (rest : List Note) →
    Marked None around (record { meant = Known (Load c); whole = w.Alone } ∷ rest)
    (l.load_call field load) (f.load_call field c) rest
call_marked field load c rest =
    d.Inside field h.CallExpr refl (d.Name Anywhere 0 load.0 load.1 r.Reference refl)

-- what a name that m takes of c means
abbrev pub taken_from_c : (taker c : ℕ) → Import → Meant
taken_from_c taker c it = Known (Of (CommonJs taker c (Named it.0)))

load_property_marked : {around : Around} (taker c : ℕ) (it : Import) (rest : List Note) →
    Marked None around (record { meant = taken_from_c taker c it; whole = w.Alone } ∷ rest)
    (l.load_property it) (f.load_property taker c it.0) rest
load_property_marked taker c it rest =
    d.Inside 0 h.KeyValuePatProp refl
    (d.Joined (key_marked it.0) (binding_marked 1 it.1 r.Binding _ rest refl))

load_properties_marked : {around : Around} (taker c : ℕ) (its : List Import) (more : List Meant) →
    Marked None around (notes_alone (map (taken_from_c taker c) its ++ more))
    (flat_map l.load_property its) (flat_map (f.load_property taker c) (map (λ it. it.0) its))
    (notes_alone more)
load_properties_marked taker c [] more = d.Nothing
load_properties_marked taker c (it ∷ its) more =
    d.Joined (load_property_marked taker c it (notes_alone (map (taken_from_c taker c) its ++ more)))
    (load_properties_marked taker c its more)

load_pattern_marked : {around : Around} (taker c : ℕ) (its : List Import) (more : List Meant) →
    Marked None around (notes_alone (map (taken_from_c taker c) its ++ more)) (l.load_pattern its)
    (f.load_pattern taker c (map (λ it. it.0) its)) (notes_alone more)
load_pattern_marked taker c its more =
    d.Inside 0 h.ObjectPat refl (load_properties_marked taker c its more)

-- the names of a load statement: that of the whole, and those that are taken
abbrev pub load_means : (taker c : ℕ) → Option Ident → List Import → List Meant
load_means taker c None [] = Known (Load c) ∷ []
load_means taker c None (it ∷ its) = map (taken_from_c taker c) (it ∷ its) ++ Known (Load c) ∷ []
load_means taker c (Some whole) [] = Known (Of (CommonJs taker c Whole)) ∷ Known (Load c) ∷ []
load_means taker c (Some whole) (it ∷ its) =
    Known (Of (CommonJs taker c Whole)) ∷ Known (Load c)
    ∷ (map (taken_from_c taker c) (it ∷ its) ++ Known (Of (CommonJs taker c Whole)) ∷ [])

abbrev pub is_there : Option Ident → Bool
is_there None = false
is_there (Some whole) = true

-- a load statement
pub load_marked : (taker c : ℕ) (load : Ident) (whole : Option Ident) (its : List Import) →
    HasMarks (l.load_statement load whole its) (
      load_means taker c whole its,
      f.load_statement taker c (is_there whole)
          (map (λ it. it.0) its),
    )
load_marked taker c load None [] = d.Inside 0 h.ExprStmt refl (call_marked 0 load c [])
load_marked taker c load None (it ∷ its) =
    d.Inside 0 (h.VarDecl Var no_notes) refl
    (d.Inside 1 h.VarDeclarator refl
    (d.Joined (load_pattern_marked taker c (it ∷ its) (Known (Load c) ∷ []))
    (call_marked 1 load c [])))
load_marked taker c load (Some whole) [] =
    declares_marked Var no_notes whole (Of (CommonJs taker c Whole)) (call_marked 1 load c [])
load_marked taker c load (Some whole) (it ∷ its) =
    d.Inside 0 (h.VarDecl Var no_notes) refl
    (d.Joined (d.Inside 1 h.VarDeclarator refl (d.Joined (binding_marked 0 whole r.Binding _ _ refl) (call_marked 1 load c _)))
    (d.Inside 1 h.VarDeclarator refl (d.Joined (load_pattern_marked taker c (it ∷ its) (Known (Of (CommonJs taker c Whole)) ∷ [])) (d.Name Anywhere 1 whole.0 whole.1 r.Reference refl))))

-- The helper.

member_marked : {around : Around} (field : ℕ) (id : Ident) (x : Text) (meant : Meant)
    (rest : List Note) →
    Marked None around (record { meant = meant; whole = w.Alone } ∷ rest) (l.member field id x)
    (f.marks_node field h.MemberExpr (m.Name 0 meant ∷ f.marks_node 1 (h.IdentName x) [])) rest
member_marked field id x meant rest =
    d.Inside field h.MemberExpr refl
    (d.Joined (d.Name Anywhere 0 id.0 id.1 r.Reference refl)
    (d.Inside 1 (h.IdentName x) refl d.Nothing))

exported_marked : {its : List Note} →
    Marked None InObject its l.exported
    (f.marks_node 0 h.KeyValueProp (m.word_key (codes "exports") ++ f.marks_node 1 h.ObjectLit []))
    its
exported_marked =
    d.Inside 0 h.KeyValueProp refl
    (d.Joined (d.Inside 0 (h.IdentName (codes "exports")) refl d.Nothing)
    (d.Inside 1 h.ObjectLit refl d.Nothing))

makes_marked : {around : Around} (id : Ident) (rest : List Note) →
    Marked None around (record { meant = Inside 1; whole = w.Alone } ∷ rest) (l.makes_module id)
    f.makes_module rest
makes_marked id rest =
    d.Inside 0 h.ExprStmt refl
    (d.Inside 0 (h.AssignExpr Assign) refl
    (d.Joined (binding_marked 1 id r.Reference _ rest refl)
    (d.Inside 2 h.ObjectLit refl exported_marked)))

runs_marked : {around : Around} (fn id : Ident) (rest : List Note) →
    Marked None around (notes_alone (Inside 0 ∷ Inside 1 ∷ Inside 1 ∷ Inside 1 ∷ []) ++ rest)
    (l.runs_module fn id) f.runs_module rest
runs_marked fn id rest =
    d.Inside 0 h.ExprStmt refl (d.Inside 0 h.CallExpr refl (d.Joined (member_marked 0 fn (codes "call") (Inside 0) _)
    (d.Joined (d.Inside 1 (h.ExprOrSpread false) refl (member_marked 1 id (codes "exports") (Inside 1) _))
    (d.Joined (d.Inside 1 (h.ExprOrSpread false) refl (d.Name Anywhere 1 id.0 id.1 r.Reference refl))
    (d.Inside 1 (h.ExprOrSpread false) refl (member_marked 1 id (codes "exports") (Inside 1) rest))))))

once_marked : {around : Around} (fn id : Ident) (rest : List Note) →
    Marked None around
    (notes_alone (Inside 1 ∷ Inside 1 ∷ Inside 0 ∷ Inside 1 ∷ Inside 1 ∷ Inside 1 ∷ []) ++ rest)
    (l.loads_once fn id)
    (f.marks_node 0 h.IfStmt
    (f.marks_node 0 (h.UnaryExpr Bang) (f.its_module 1)
    ++ f.marks_node 1 h.BlockStmt (f.makes_module ++ f.runs_module)))
    rest
once_marked fn id rest =
    d.Inside 0 h.IfStmt refl (d.Joined (d.Inside 0 (h.UnaryExpr Bang) refl (d.Name Anywhere 1 id.0 id.1 r.Reference refl))
    (d.Inside 1 h.BlockStmt refl (d.Joined (makes_marked id _) (runs_marked fn id rest))))

-- the helper
pub helper_marked : (helper fn id : Ident) →
    HasMarks (l.helper_function helper fn id) (
      Known Helper ∷ Inside 0 ∷ Inside 1 ∷ Inside 1 ∷ Inside 1 ∷ Inside 0 ∷ Inside 1 ∷ Inside 1
          ∷ Inside 1 ∷ Inside 1 ∷ [],
      f.helper_function,
    )
helper_marked helper fn id =
    d.Inside 0 h.FnDecl refl (d.Joined (d.Name Anywhere 0 helper.0 helper.1 r.Binding refl)
    (d.Inside 1 (h.Function false false) refl (d.Joined (d.Inside 0 h.Param refl (binding_marked 0 fn r.Binding _ _ refl))
    (d.Inside 1 h.BlockStmt refl (d.Joined (d.Inside 0 (h.VarDecl Var no_notes) refl (d.Inside 1 h.VarDeclarator refl (binding_marked 0 id r.Binding _ _ refl)))
    (d.Inside 0 h.ReturnStmt refl (d.Inside 0 h.FnExpr refl (d.Inside 1 (h.Function false false) refl (d.Inside 1 h.BlockStmt refl
    (d.Joined (once_marked fn id _) (d.Inside 0 h.ReturnStmt refl (member_marked 0 id (codes "exports") (Inside 1) []))))))))))))

-- ---- loading

-- whole nodes stand whole
pub nodes_whole : {xs : List Item} → AreNodesInTurn xs → StandsWhole xs
nodes_whole Nodes.nothing = refl
nodes_whole (Nodes.name {field = field} {ctxt = ctxt} {sym = x} {role = role} rest) =
    ap (λ list. h.Ident field x ctxt role ∷ list) (nodes_whole rest)
nodes_whole (Nodes.hole {field = field} rest) = ap (λ list. h.Hole field ∷ list) (nodes_whole rest)
nodes_whole (Nodes.node {field = field} {head = head} {inside = inside} {rest = rest} it more) =
    ap (λ list. flat (side_by_side zero (h.Open field head ∷ list)))
    (append_assoc inside (h.Close ∷ rest) (h.Close ∷ []))
    ∙
    (ap flat (beside_node field head it (rest ++ h.Close ∷ []))
    ∙ (ap (λ list. h.Open field head ∷ ((inside ++ h.Close ∷ []) ++ list)) (nodes_whole more)
    ∙ ap (λ list. h.Open field head ∷ list) (append_assoc inside (h.Close ∷ []) rest)))

-- and so does a module of them
pub module_whole : {xs : List Item} → AreNodesInTurn xs →
    IsWholeModule (h.Open 0 h.Module ∷ (xs ++ h.Close ∷ []))
module_whole nodes =
    ap (λ list. h.Open 0 h.Module ∷ (list ++ h.Close ∷ [])) (sym (nodes_whole nodes))

-- ---- lone

-- Specifiers have two names.

export_passed : (open_nodes : List Bool) (is_name : Bool) (id : Ident) (x : Text) (b : Bool)
    (rest : List Item) →
    ends_no_specifier open_nodes is_name
    (node 0 h.ExportNamedSpecifier
    (h.Ident 0 id.0 id.1 r.Reference ∷ (if b then h.Ident 1 x 0 r.Word ∷ [] else l.string_in 1 x))
    ++ rest) ≡ ends_no_specifier open_nodes false rest
export_passed open_nodes is_name id x true rest = refl
export_passed open_nodes is_name id x false rest = refl

exports_passed : (open_nodes : List Bool) (pairs : List Import) (rest : List Item) →
    ends_no_specifier open_nodes false (flat_map l.export_specifier pairs ++ rest)
    ≡ ends_no_specifier open_nodes false rest
exports_passed open_nodes [] rest = refl
exports_passed open_nodes (pair ∷ pairs) rest =
    ap (ends_no_specifier open_nodes false)
    (append_assoc (l.export_specifier pair) (flat_map l.export_specifier pairs) rest)
    ∙ (export_passed open_nodes false pair.1 pair.0 (is_ascii_identifier pair.0) (flat_map l.export_specifier pairs ++ rest)
    ∙ exports_passed open_nodes pairs rest)

pub export_list_lone : (pairs : List Import) → HasNoLoneName (l.export_list pairs)
export_list_lone pairs = exports_passed (false ∷ []) pairs (h.Close ∷ [])

import_passed : (open_nodes : List Bool) (is_name : Bool) (id : Ident) (x : Text) (b : Bool)
    (rest : List Item) →
    ends_no_specifier open_nodes is_name
    (node 0 h.ImportNamedSpecifier
    (h.Ident 0 id.0 id.1 r.Binding ∷ (if b then h.Ident 1 x 0 r.Word ∷ [] else l.string_in 1 x))
    ++ rest) ≡ ends_no_specifier open_nodes false rest
import_passed open_nodes is_name id x true rest = refl
import_passed open_nodes is_name id x false rest = refl

imports_passed : (open_nodes : List Bool) (pairs : List Import) (rest : List Item) →
    ends_no_specifier open_nodes false (flat_map l.import_specifier pairs ++ rest)
    ≡ ends_no_specifier open_nodes false rest
imports_passed open_nodes [] rest = refl
imports_passed open_nodes (pair ∷ pairs) rest =
    ap (ends_no_specifier open_nodes false)
    (append_assoc (l.import_specifier pair) (flat_map l.import_specifier pairs) rest)
    ∙ (import_passed open_nodes false pair.1 pair.0 (is_ascii_identifier pair.0) (flat_map l.import_specifier pairs ++ rest)
    ∙ imports_passed open_nodes pairs rest)

pub import_names_lone : (s : Text) (pairs : List Import) → HasNoLoneName (l.import_names s pairs)
import_names_lone s pairs =
    ap (ends_no_specifier (false ∷ []) false)
    (append_assoc (flat_map l.import_specifier pairs) (l.string_in 1 s) (h.Close ∷ []))
    ∙ imports_passed (false ∷ []) pairs (l.string_in 1 s ++ h.Close ∷ [])

-- The others have none.

pub import_whole_lone : (s : Text) (whole : Ident) → HasNoLoneName (l.import_whole s whole)
import_whole_lone s whole = refl

pub import_bare_lone : (s : Text) → HasNoLoneName (l.import_bare s)
import_bare_lone s = refl

pub export_star_lone : (s : Text) → HasNoLoneName (l.export_star s)
export_star_lone s = refl

pub helper_lone : (helper fn id : Ident) → HasNoLoneName (l.helper_function helper fn id)
helper_lone helper fn id = refl

own_key : (x : Text) (computed plain : Bool) →
    AreOwn
    (if computed then h.Open 0 h.ComputedPropName ∷ h.Open 0 (h.Str x None) ∷ h.Close ∷ h.Close
    ∷ [] else (if plain then plain_key x else h.Open 0 (h.Str x None) ∷ h.Close ∷ []))
own_key x true plain = refl
own_key x false true = refl
own_key x false false = refl

own_returned_key : (x : Text) → AreOwn (returned_key x)
own_returned_key x = own_key x (bytes_eq x (codes "__proto__")) (is_ascii_identifier x)

own_property : (pair : Import) → AreOwn (returned_property pair)
own_property pair =
    own_joined (returned_key pair.0) (h.Ident 1 (pair.1).0 (pair.1).1 r.Reference ∷ h.Close ∷ [])
    (own_returned_key pair.0) refl

own_properties : (pairs : List Import) → AreOwn (flat_map returned_property pairs)
own_properties [] = refl
own_properties (pair ∷ pairs) =
    own_joined (returned_property pair) (flat_map returned_property pairs) (own_property pair)
    (own_properties pairs)

pub own_returned : (pairs : List Import) → AreOwn (returned_object pairs)
own_returned pairs =
    own_joined (flat_map returned_property pairs) (h.Close ∷ h.Close ∷ []) (own_properties pairs)
    refl

own_constant : (kind : _) (notes : ExportMetadata) (name : Ident) (value : List Item) →
    AreOwn value →
    AreOwn (node 0 (h.VarDecl kind notes) (l.declarator (l.pattern_of 0 r.Binding name) value))
own_constant kind notes name value own =
    own_node 0 (h.VarDecl kind notes) (l.declarator (l.pattern_of 0 r.Binding name) value) refl
    (own_node 1 h.VarDeclarator (l.pattern_of 0 r.Binding name ++ value) refl
    (own_joined (l.pattern_of 0 r.Binding name) value refl own))

pub namespace_lone : (notes : ExportMetadata) (object : Ident) (pairs : List Import) →
    HasNoLoneName (l.namespace_object notes object pairs)
namespace_lone notes object pairs =
    let body : List Item = l.function_in 1 [] (returned_object pairs) in
    let callee : List Item = node 0 h.FnExpr body in
    own_lone (l.namespace_object notes object pairs) (own_constant Const notes object (l.call_in 1 callee [])
    (own_node 1 h.CallExpr (callee ++ []) refl (subst AreOwn (sym (append-nil callee))
    (own_node 0 h.FnExpr body refl (own_node 1 (h.Function false false) (node 1 h.BlockStmt (returned_object pairs)) refl (own_node 1 h.BlockStmt (returned_object pairs) refl (own_returned pairs)))))))

pub meta_lone : (notes : ExportMetadata) (name : Ident) (properties : List Item) →
    AreOwn properties → HasNoLoneName (l.constant notes name (node 1 h.ObjectLit properties))
meta_lone notes name properties own =
    own_lone (l.constant notes name (node 1 h.ObjectLit properties))
    (own_constant Const notes name (node 1 h.ObjectLit properties)
    (own_node 1 h.ObjectLit properties refl own))

own_load_property : (pair : Import) → AreOwn (l.load_property pair)
own_load_property pair =
    own_node 0 h.KeyValuePatProp (returned_key pair.0 ++ l.pattern_of 1 r.Binding pair.1) refl
    (own_joined (returned_key pair.0) (l.pattern_of 1 r.Binding pair.1) (own_returned_key pair.0)
    refl)

own_load_properties : (pairs : List Import) → AreOwn (flat_map l.load_property pairs)
own_load_properties [] = refl
own_load_properties (pair ∷ pairs) =
    own_joined (l.load_property pair) (flat_map l.load_property pairs) (own_load_property pair)
    (own_load_properties pairs)

own_load_declarator : (pairs : List Import) (value : List Item) → AreOwn value →
    AreOwn (l.declarator (l.load_pattern pairs) value)
own_load_declarator pairs value own =
    own_node 1 h.VarDeclarator (l.load_pattern pairs ++ value) refl
    (own_joined (l.load_pattern pairs) value
    (own_node 0 h.ObjectPat (flat_map l.load_property pairs) refl (own_load_properties pairs)) own)

own_load : (load : Ident) (whole : Option Ident) (pairs : List Import) →
    AreOwn (l.load_statement load whole pairs)
own_load load None [] = refl
own_load load None (pair ∷ pairs) =
    own_node 0 (h.VarDecl Var no_notes)
    (l.declarator (l.load_pattern (pair ∷ pairs)) (l.load_call 1 load)) refl
    (own_load_declarator (pair ∷ pairs) (l.load_call 1 load) refl)
own_load load (Some whole) [] = refl
own_load load (Some whole) (pair ∷ pairs) =
    own_node 0 (h.VarDecl Var no_notes)
    (l.declarator (l.pattern_of 0 r.Binding whole) (l.load_call 1 load)
    ++ l.declarator (l.load_pattern (pair ∷ pairs)) (l.named 1 r.Reference whole))
    refl
    (own_joined (l.declarator (l.pattern_of 0 r.Binding whole) (l.load_call 1 load))
    (l.declarator (l.load_pattern (pair ∷ pairs)) (l.named 1 r.Reference whole)) refl
    (own_load_declarator (pair ∷ pairs) (l.named 1 r.Reference whole) refl))

pub load_lone : (load : Ident) (whole : Option Ident) (pairs : List Import) →
    HasNoLoneName (l.load_statement load whole pairs)
load_lone load whole pairs =
    own_lone (l.load_statement load whole pairs) (own_load load whole pairs)
