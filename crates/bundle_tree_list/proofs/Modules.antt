-- Two modules are equal exactly where their lists are.
use Rattle.std.proofs.Common.{◌≡◌, ℕ, Bool, true, ◌&&◌, refl, sym, ap, ap₂, ◌∙◌, subst, List, ◌∷◌, ◌++◌, Option, Some, None, Box, Global}
use Rattle.std.specs.Option.{option_eq}
use Rattle.std.specs.List.{flat_map}
use lib.Pointwise.{pointwise}
use Rattle.bundle_syntax.specs.declared.ident.Ident as v_ident
use Rattle.bundle_syntax.specs.declared.lit.Str as v_str
use Rattle.bundle_syntax.specs.declared.specifier.ModuleExportName as v_name
use Rattle.bundle_syntax.specs.declared.specifier.ModuleExportName.TheVariants as i_name
use Rattle.bundle_syntax.specs.declared.specifier.ImportSpecifier as v_import
use Rattle.bundle_syntax.specs.declared.specifier.ImportSpecifier.TheVariants as i_import
use Rattle.bundle_syntax.specs.declared.specifier.ExportSpecifier as v_export
use Rattle.bundle_syntax.specs.declared.specifier.ExportSpecifier.TheVariants as i_export
use Rattle.bundle_syntax.specs.contracts.specifier.ModuleExportName as c_name
use Rattle.bundle_syntax.specs.contracts.specifier.ImportSpecifier as c_import
use Rattle.bundle_syntax.specs.contracts.specifier.ExportSpecifier as c_export
use Rattle.bundle_syntax.specs.contracts.lit.StrPartialEq.TheImpl as e_str
use Rattle.bundle_syntax.specs.contracts.specifier.ModuleExportNamePartialEq.TheImpl as e_name
use Rattle.bundle_syntax.specs.contracts.specifier.ImportSpecifierPartialEq.TheImpl as e_import
use Rattle.bundle_syntax.specs.contracts.specifier.ExportSpecifierPartialEq.TheImpl as e_export
use Rattle.bundle_tree_ast.specs.declared.stmt.Stmt as v_stmt
use Rattle.bundle_tree_ast.specs.declared.decl.Decl as v_decl
use Rattle.bundle_tree_ast.specs.declared.expr.Expr as v_expr
use Rattle.bundle_tree_ast.specs.declared.class.Class as v_class
use Rattle.bundle_tree_ast.specs.declared.class.Function as v_function
use Rattle.bundle_tree_ast.specs.declared.class.ClassMember.TheBlock as block
use Rattle.bundle_tree_ast.specs.declared.module.Module as v_module
use Rattle.bundle_tree_ast.specs.declared.module.ModuleItem as v_module_item
use Rattle.bundle_tree_ast.specs.declared.module.ModuleItem.TheVariants as i_module_item
use Rattle.bundle_tree_ast.specs.declared.module.ModuleDecl as v_module_decl
use Rattle.bundle_tree_ast.specs.declared.module.ModuleDecl.TheVariants as i_module_decl
use Rattle.bundle_tree_ast.specs.declared.module.DefaultDecl as v_default_decl
use Rattle.bundle_tree_ast.specs.declared.module.DefaultDecl.TheVariants as i_default_decl
use Rattle.bundle_tree_ast.specs.contracts.module.ModuleItem as c_item
use Rattle.bundle_tree_ast.specs.contracts.module.ModuleDecl as c_module_decl
use Rattle.bundle_tree_ast.specs.contracts.module.DefaultDecl as c_default_decl
use Rattle.bundle_tree_ast.specs.contracts.module.ModulePartialEq.TheImpl as e_module
use Rattle.bundle_tree_ast.specs.contracts.module.ModuleItemPartialEq.TheImpl as e_item
use Rattle.bundle_tree_ast.specs.contracts.module.ModuleDeclPartialEq.TheImpl as e_module_decl
use Rattle.bundle_tree_ast.specs.contracts.module.DefaultDeclPartialEq.TheImpl as e_default_decl
use Rattle.bundle_syntax.specs.declared.piece.Role.{Role}
use Rattle.bundle_syntax.specs.declared.piece.Role.TheVariants as r
use Rattle.bundle_syntax.specs.Item as h
use Rattle.bundle_syntax.specs.Item.{Item}
use Rattle.bundle_tree_listed.specs.Tree as k
use Rattle.bundle_tree_listed.specs.Tree.{node, stmt_items}
use Rattle.bundle_tree_listed.proofs.Rows as all
use Rattle.bundle_tree_list.proofs.Agree.{Both, nth, variants}
use Rattle.bundle_tree_list.proofs.Cut as cut
use Rattle.bundle_tree_list.proofs.Cut.{Row, Single, single_ident, single_node, split}
use Rattle.bundle_tree_list.proofs.Leaves.{ident, str, function_head, import_head, named_export_head, export_all_head}
use Rattle.bundle_tree_list.proofs.Part.{Inside, Part, begins, both, behind, differs_from_nothing, in_node, inside_then_values, instead, just, option_part, retested, two, value_last, values_last}
use Rattle.bundle_tree_list.proofs.Ring.{Stepwise, same, step_is}
use Rattle.bundle_tree_list.proofs.Numbers as numbers
use Rattle.bundle_tree_list.proofs.Rows as rows
use Rattle.bundle_tree_list.proofs.Singles.{stmt_single}
use Rattle.bundle_tree_list.proofs.Trees.{each_part, row_class_member, row_param, row_stmt, same_decl, same_expr, same_option_boxed_expr, same_own_name, same_stmt}

-- Names that are imported and exported.

name_step : Stepwise c_name.enum e_name.ghosts.eq
name_step = record { each = _; is = λ d e. refl }

name_row : (role : Role) (field : ℕ) (it : v_name.ModuleExportName) → Row field (k.module_export_name_items role field it)
name_row role field (i_name.Ident it) = rows.ident_row role field it
name_row role field (i_name.Str it) = rows.str_row field it

name_number : List Item → ℕ
name_number (h.Open f head ∷ rest) = 1
name_number list = 0

name_numbered : (role : Role) (field : ℕ) (it : v_name.ModuleExportName) → name_number (k.module_export_name_items role field it) ≡ nth c_name.enum.parts (c_name.enum.as_values it)
unfolding name_number
name_numbered role field (i_name.Ident it) = refl
name_numbered role field (i_name.Str it) = refl

name_begins : (role : Role) (field : ℕ) (it : v_name.ModuleExportName) → begins (k.module_export_name_items role field it) ≡ true
unfolding begins
name_begins role field (i_name.Ident it) = refl
name_begins role field (i_name.Str it) = refl

name_of : (role : Role) (field : ℕ) (d e : v_name.ModuleExportName) → Both c_name.enum.parts name_step.each (c_name.enum.as_values d) (λ c test. Part field test (k.module_export_name_items role field d) (k.module_export_name_items role field (c_name.enum.make c))) → Part field (e_name.ghosts.eq d e) (k.module_export_name_items role field d) (k.module_export_name_items role field e)
name_of role field d e = variants c_name.enum name_step.each (k.module_export_name_items role field) (name_row role field) name_number (name_numbered role field) d e (name_step.is d e)

same_name : (role : Role) (field : ℕ) (d e : v_name.ModuleExportName) → Part field (e_name.ghosts.eq d e) (k.module_export_name_items role field d) (k.module_export_name_items role field e)
unfolding name_step
same_name role field (i_name.Ident it) e = name_of role field (i_name.Ident it) e (λ y. ident role field it y.0)
same_name role field (i_name.Str it) e = name_of role field (i_name.Str it) e (λ y. str field it y.0)

same_other_name : (d e : Option v_name.ModuleExportName) → Part 1 (option_eq e_name.ghosts.eq d e) (k.option_items (k.module_export_name_items r.Word 1) d) (k.option_items (k.module_export_name_items r.Word 1) e)
same_other_name d e = option_part _ (k.module_export_name_items r.Word 1) (name_row r.Word 1) (name_begins r.Word 1) (same_name r.Word 1) d e

import_step : Stepwise c_import.enum e_import.ghosts.eq
import_step = record { each = _; is = λ d e. refl }

import_row : (field : ℕ) (it : v_import.ImportSpecifier) → Row field (k.import_specifier_items field it)
import_row field (i_import.ImportNamedSpecifier local imported) = cut.node_row field _ (cut.whole_and (rows.ident_row r.Binding 0 local).whole (cut.option_row (k.module_export_name_items r.Word 1) (name_row r.Word 1) imported).whole)
import_row field (i_import.ImportDefaultSpecifier local) = cut.node_row field _ (rows.ident_row r.Binding 0 local).whole
import_row field (i_import.ImportStarAsSpecifier local) = cut.node_row field _ (rows.ident_row r.Binding 0 local).whole

import_number : List Item → ℕ
import_number (h.Open f h.ImportNamedSpecifier ∷ rest) = 0
import_number (h.Open f h.ImportDefaultSpecifier ∷ rest) = 1
import_number list = 2

import_numbered : (field : ℕ) (it : v_import.ImportSpecifier) → import_number (k.import_specifier_items field it) ≡ nth c_import.enum.parts (c_import.enum.as_values it)
unfolding import_number
import_numbered field (i_import.ImportNamedSpecifier local imported) = refl
import_numbered field (i_import.ImportDefaultSpecifier local) = refl
import_numbered field (i_import.ImportStarAsSpecifier local) = refl

import_begins : (field : ℕ) (it : v_import.ImportSpecifier) → begins (k.import_specifier_items field it) ≡ true
unfolding begins
import_begins field (i_import.ImportNamedSpecifier local imported) = refl
import_begins field (i_import.ImportDefaultSpecifier local) = refl
import_begins field (i_import.ImportStarAsSpecifier local) = refl

import_single : (field : ℕ) (it : v_import.ImportSpecifier) → Single (k.import_specifier_items field it)
import_single field (i_import.ImportNamedSpecifier local imported) = single_node field _ (cut.whole_and (rows.ident_row r.Binding 0 local).whole (cut.option_row (k.module_export_name_items r.Word 1) (name_row r.Word 1) imported).whole)
import_single field (i_import.ImportDefaultSpecifier local) = single_node field _ (rows.ident_row r.Binding 0 local).whole
import_single field (i_import.ImportStarAsSpecifier local) = single_node field _ (rows.ident_row r.Binding 0 local).whole

import_of : (field : ℕ) (d e : v_import.ImportSpecifier) → Both c_import.enum.parts import_step.each (c_import.enum.as_values d) (λ c test. Part field test (k.import_specifier_items field d) (k.import_specifier_items field (c_import.enum.make c))) → Part field (e_import.ghosts.eq d e) (k.import_specifier_items field d) (k.import_specifier_items field e)
import_of field d e = variants c_import.enum import_step.each (k.import_specifier_items field) (import_row field) import_number (import_numbered field) d e (import_step.is d e)

same_import : (field : ℕ) (d e : v_import.ImportSpecifier) → Part field (e_import.ghosts.eq d e) (k.import_specifier_items field d) (k.import_specifier_items field e)
unfolding import_step
same_import field (i_import.ImportNamedSpecifier local imported) e = import_of field (i_import.ImportNamedSpecifier local imported) e (λ y. in_node field _ (two refl (ident r.Binding 0 local y.0) (same_other_name imported y.1.0)))
same_import field (i_import.ImportDefaultSpecifier local) e = import_of field (i_import.ImportDefaultSpecifier local) e (λ y. in_node field _ (just (ident r.Binding 0 local y.0)))
same_import field (i_import.ImportStarAsSpecifier local) e = import_of field (i_import.ImportStarAsSpecifier local) e (λ y. in_node field _ (just (ident r.Binding 0 local y.0)))

export_step : Stepwise c_export.enum e_export.ghosts.eq
export_step = record { each = _; is = λ d e. refl }

export_row : (role : Role) (field : ℕ) (it : v_export.ExportSpecifier) → Row field (k.export_specifier_items role field it)
export_row role field (i_export.ExportNamespaceSpecifier name) = cut.node_row field _ (name_row r.Word 0 name).whole
export_row role field (i_export.ExportNamedSpecifier orig exported) = cut.node_row field _ (cut.whole_and (name_row role 0 orig).whole (cut.option_row (k.module_export_name_items r.Word 1) (name_row r.Word 1) exported).whole)

export_number : List Item → ℕ
export_number (h.Open f h.ExportNamespaceSpecifier ∷ rest) = 0
export_number list = 1

export_numbered : (role : Role) (field : ℕ) (it : v_export.ExportSpecifier) → export_number (k.export_specifier_items role field it) ≡ nth c_export.enum.parts (c_export.enum.as_values it)
unfolding export_number
export_numbered role field (i_export.ExportNamespaceSpecifier name) = refl
export_numbered role field (i_export.ExportNamedSpecifier orig exported) = refl

export_begins : (role : Role) (field : ℕ) (it : v_export.ExportSpecifier) → begins (k.export_specifier_items role field it) ≡ true
unfolding begins
export_begins role field (i_export.ExportNamespaceSpecifier name) = refl
export_begins role field (i_export.ExportNamedSpecifier orig exported) = refl

export_single : (role : Role) (field : ℕ) (it : v_export.ExportSpecifier) → Single (k.export_specifier_items role field it)
export_single role field (i_export.ExportNamespaceSpecifier name) = single_node field _ (name_row r.Word 0 name).whole
export_single role field (i_export.ExportNamedSpecifier orig exported) = single_node field _ (cut.whole_and (name_row role 0 orig).whole (cut.option_row (k.module_export_name_items r.Word 1) (name_row r.Word 1) exported).whole)

export_of : (role : Role) (field : ℕ) (d e : v_export.ExportSpecifier) → Both c_export.enum.parts export_step.each (c_export.enum.as_values d) (λ c test. Part field test (k.export_specifier_items role field d) (k.export_specifier_items role field (c_export.enum.make c))) → Part field (e_export.ghosts.eq d e) (k.export_specifier_items role field d) (k.export_specifier_items role field e)
export_of role field d e = variants c_export.enum export_step.each (k.export_specifier_items role field) (export_row role field) export_number (export_numbered role field) d e (export_step.is d e)

same_export : (role : Role) (field : ℕ) (d e : v_export.ExportSpecifier) → Part field (e_export.ghosts.eq d e) (k.export_specifier_items role field d) (k.export_specifier_items role field e)
unfolding export_step
same_export role field (i_export.ExportNamespaceSpecifier name) e = export_of role field (i_export.ExportNamespaceSpecifier name) e (λ y. in_node field _ (just (same_name r.Word 0 name y.0)))
same_export role field (i_export.ExportNamedSpecifier orig exported) e = export_of role field (i_export.ExportNamedSpecifier orig exported) e (λ y. in_node field _ (two refl (same_name role 0 orig y.0) (same_other_name exported y.1.0)))

-- Classes and functions that a default export declares.

shown_super_class : (it : Option (Box v_expr.Expr Global)) → block.view-Expr-YieldExpr-0 (block.back-Expr-YieldExpr-0 it) ≡ it
shown_super_class None = refl
shown_super_class (Some it) = refl

class_row : (field : ℕ) (it : v_class.Class) → Row field (k.class_items field it)
class_row field it = cut.node_row field _ (cut.whole_and (rows.held_option_boxed_expr_is_row 0 (block.back-Expr-YieldExpr-0 it.super_class)).whole (rows.row_of_class_member_is_row 1 (block.hidden-the_row-ClassMember-2 it.body)).whole)

function_row : (field : ℕ) (it : v_function.Function) → Row field (k.function_items field it)
function_row field it = cut.node_row field _ (cut.whole_and (rows.row_of_param_is_row 0 (block.hidden-the_row-ClassMember-Constructor-0-1-0 it.params)).whole (cut.node_row 1 h.BlockStmt (rows.row_of_stmt_is_row 0 (block.hidden-the_row-Stmt-1 it.body.stmts)).whole).whole)

-- two lists of which one is shown and the other as the code has it
listed : {field : ℕ} {A : Type 0} (E : A → A → Bool) {xs xs' : List A} (zs : List A) {read made made' : List Item} → xs ≡ xs' → made' ≡ made → Part field (pointwise E xs zs) read made → Part field (pointwise E xs' zs) read made'
listed {field = field} E {xs = xs} {xs' = xs'} zs {read = read} {made = made} {made' = made'} is made_is part = subst (λ list. Part field (pointwise E list zs) read made') is (subst (λ list. Part field (pointwise E xs zs) read list) (sym made_is) part)

class_parts : (d e : v_class.Class) → Inside (option_eq (λ x y. same block.member-Expr x.value y.value) d.super_class e.super_class && pointwise (same block.member-ClassMember) d.body.items e.body.items) (k.option_boxed_expr_items 0 d.super_class ++ k.each_class_member_items 1 d.body) (k.option_boxed_expr_items 0 e.super_class ++ k.each_class_member_items 1 e.body)
class_parts d e = two refl
    (retested (ap (λ it. option_eq (λ x y. same block.member-Expr x.value y.value) it e.super_class) (sym (shown_super_class d.super_class))) (same_option_boxed_expr 0 (block.back-Expr-YieldExpr-0 d.super_class) e.super_class))
    (listed _ e.body.items (block.items_hidden-the_row-ClassMember-2 d.body) (all.all_class_member 1 e.body) (row_class_member 1 (block.hidden-the_row-ClassMember-2 d.body) e.body.items))

same_class : (field : ℕ) (d e : v_class.Class) → Part field (same block.member-Class d e) (k.class_items field d) (k.class_items field e)
same_class field d e = retested (step_is block.member-Class d e) (in_node field _ (class_parts d e))

function_body : (d e : v_function.Function) → Part 1 (pointwise (same block.member-Stmt) d.body.stmts.items e.body.stmts.items) (k.block_stmt_items 1 d.body) (k.block_stmt_items 1 e.body)
function_body d e = in_node 1 _ (just (listed _ e.body.stmts.items (block.items_hidden-the_row-Stmt-1 d.body.stmts) (all.all_stmt 0 e.body.stmts) (row_stmt 0 (block.hidden-the_row-Stmt-1 d.body.stmts) e.body.stmts.items)))

function_params : (d e : v_function.Function) → Part 0 (pointwise (λ x y. same block.member-Pat x.pat y.pat) d.params.items e.params.items) (k.each_param_items 0 d.params) (k.each_param_items 0 e.params)
function_params d e = listed _ e.params.items (block.items_hidden-the_row-ClassMember-Constructor-0-1-0 d.params) (all.all_param 0 e.params) (row_param 0 (block.hidden-the_row-ClassMember-Constructor-0-1-0 d.params) e.params.items)

same_function : (field : ℕ) (d e : v_function.Function) → Part field (same block.member-Function d e) (k.function_items field d) (k.function_items field e)
same_function field d e = retested (step_is block.member-Function d e) (values_last field (function_head d.is_generator e.is_generator d.is_async e.is_async) refl (function_params d e) (function_body d e))

default_decl_step : Stepwise c_default_decl.enum e_default_decl.ghosts.eq
default_decl_step = record { each = _; is = λ d e. refl }

own_name_row : (field : ℕ) (it : Option v_ident.Ident) → Row field (k.option_items (k.ident_items r.Binding field) it)
own_name_row field it = cut.option_row (k.ident_items r.Binding field) (rows.ident_row r.Binding field) it

default_decl_row : (field : ℕ) (it : v_default_decl.DefaultDecl) → Row field (k.default_decl_items field it)
default_decl_row field (i_default_decl.ClassExpr name class) = cut.node_row field _ (cut.whole_and (own_name_row 0 name).whole (class_row 1 class).whole)
default_decl_row field (i_default_decl.FnExpr name function) = cut.node_row field _ (cut.whole_and (own_name_row 0 name).whole (function_row 1 function).whole)

default_decl_number : List Item → ℕ
default_decl_number (h.Open f h.ClassExpr ∷ rest) = 0
default_decl_number list = 1

default_decl_numbered : (field : ℕ) (it : v_default_decl.DefaultDecl) → default_decl_number (k.default_decl_items field it) ≡ nth c_default_decl.enum.parts (c_default_decl.enum.as_values it)
unfolding default_decl_number
default_decl_numbered field (i_default_decl.ClassExpr name class) = refl
default_decl_numbered field (i_default_decl.FnExpr name function) = refl

default_decl_of : (field : ℕ) (d e : v_default_decl.DefaultDecl) → Both c_default_decl.enum.parts default_decl_step.each (c_default_decl.enum.as_values d) (λ c test. Part field test (k.default_decl_items field d) (k.default_decl_items field (c_default_decl.enum.make c))) → Part field (e_default_decl.ghosts.eq d e) (k.default_decl_items field d) (k.default_decl_items field e)
default_decl_of field d e = variants c_default_decl.enum default_decl_step.each (k.default_decl_items field) (default_decl_row field) default_decl_number (default_decl_numbered field) d e (default_decl_step.is d e)

same_default_decl : (field : ℕ) (d e : v_default_decl.DefaultDecl) → Part field (e_default_decl.ghosts.eq d e) (k.default_decl_items field d) (k.default_decl_items field e)
unfolding default_decl_step
same_default_decl field (i_default_decl.ClassExpr name class) e = default_decl_of field (i_default_decl.ClassExpr name class) e (λ y. in_node field _ (two refl (same_own_name 0 name y.0) (same_class 1 class y.1.0)))
same_default_decl field (i_default_decl.FnExpr name function) e = default_decl_of field (i_default_decl.FnExpr name function) e (λ y. in_node field _ (two refl (same_own_name 0 name y.0) (same_function 1 function y.1.0)))

-- Imports and exports.

source_row : (it : Option v_str.Str) → Row 1 (k.option_items (k.str_items 1) it)
source_row it = cut.option_row (k.str_items 1) (rows.str_row 1) it

same_source : (d e : Option v_str.Str) → Part 1 (option_eq e_str.ghosts.eq d e) (k.option_items (k.str_items 1) d) (k.option_items (k.str_items 1) e)
unfolding begins
same_source d e = option_part _ (k.str_items 1) (rows.str_row 1) (λ it. refl) (str 1) d e

-- equal sources give the names one role
one_role : (d e : Option v_str.Str) → k.option_items (k.str_items 1) d ≡ k.option_items (k.str_items 1) e → k.role_of_names d ≡ k.role_of_names e
unfolding begins
one_role None None is = refl
one_role None (Some e) is = absurd (differs_from_nothing refl is)
one_role (Some d) None is = absurd (differs_from_nothing refl (sym is))
one_role (Some d) (Some e) is = refl

exports_row : (role : Role) (list : List v_export.ExportSpecifier) → Row 0 (flat_map (k.export_specifier_items role 0) list)
exports_row role list = cut.each_row (k.export_specifier_items role 0) (export_row role 0) list

same_exports : (role : Role) (xs ys : List v_export.ExportSpecifier) → Part 0 (pointwise e_export.ghosts.eq xs ys) (flat_map (k.export_specifier_items role 0) xs) (flat_map (k.export_specifier_items role 0) ys)
same_exports role xs ys = each_part _ (k.export_specifier_items role 0) (export_row role 0) (export_begins role 0) (export_single role 0) (same_export role 0) xs ys

same_exports_from : (xs ys : List v_export.ExportSpecifier) (d e : Option v_str.Str) → Inside (pointwise e_export.ghosts.eq xs ys && option_eq e_str.ghosts.eq d e) (flat_map (k.export_specifier_items (k.role_of_names d) 0) xs ++ k.option_items (k.str_items 1) d) (flat_map (k.export_specifier_items (k.role_of_names e) 0) ys ++ k.option_items (k.str_items 1) e)
same_exports_from xs ys d e =
    let names = same_exports (k.role_of_names d) xs ys in
    let source = same_source d e in
    record {
      left = cut.whole_and (exports_row (k.role_of_names d) xs).whole (source_row d).whole;
      right = cut.whole_and (exports_row (k.role_of_names e) ys).whole (source_row e).whole;
      same = instead
          (λ p. ap₂ (λ xs ys. xs ++ ys) (p.0 ∙ ap (λ role. flat_map (k.export_specifier_items role 0) ys) (one_role d e p.1)) p.1)
          (λ is.
          let parts = split (exports_row (k.role_of_names d) xs) (exports_row (k.role_of_names e) ys) (behind 0 (source_row d) refl) (behind 0 (source_row e) refl) is in
          (parts.0 ∙ ap (λ role. flat_map (k.export_specifier_items role 0) ys) (sym (one_role d e parts.1)), parts.1))
          (both names.same source.same);
    }

module_decl_step : Stepwise c_module_decl.enum e_module_decl.ghosts.eq
module_decl_step = record { each = _; is = λ d e. refl }

module_decl_row : (field : ℕ) (it : v_module_decl.ModuleDecl) → Row field (k.module_decl_items field it)
module_decl_row field (i_module_decl.ImportDecl specifiers src meta) = cut.node_row field _ (cut.whole_and (cut.each_row (k.import_specifier_items 0) (import_row 0) specifiers.items).whole (rows.str_row 1 src).whole)
module_decl_row field (i_module_decl.ExportDecl decl) = cut.node_row field _ (rows.decl_row 0 decl).whole
module_decl_row field (i_module_decl.NamedExport specifiers src meta) = cut.node_row field _ (cut.whole_and (exports_row (k.role_of_names src) specifiers.items).whole (source_row src).whole)
module_decl_row field (i_module_decl.ExportDefaultDecl decl) = cut.node_row field _ (default_decl_row 0 decl).whole
module_decl_row field (i_module_decl.ExportDefaultExpr expr) = cut.node_row field _ (rows.expr_row 0 expr).whole
module_decl_row field (i_module_decl.ExportAll src meta) = cut.node_row field _ (rows.str_row 0 src).whole

module_decl_number : List Item → ℕ
module_decl_number (h.Open f (h.ImportDecl meta) ∷ rest) = 0
module_decl_number (h.Open f h.ExportDecl ∷ rest) = 1
module_decl_number (h.Open f (h.NamedExport meta) ∷ rest) = 2
module_decl_number (h.Open f h.ExportDefaultDecl ∷ rest) = 3
module_decl_number (h.Open f h.ExportDefaultExpr ∷ rest) = 4
module_decl_number list = 5

module_decl_numbered : (field : ℕ) (it : v_module_decl.ModuleDecl) → module_decl_number (k.module_decl_items field it) ≡ nth c_module_decl.enum.parts (c_module_decl.enum.as_values it)
unfolding module_decl_number
module_decl_numbered field (i_module_decl.ImportDecl specifiers src meta) = refl
module_decl_numbered field (i_module_decl.ExportDecl decl) = refl
module_decl_numbered field (i_module_decl.NamedExport specifiers src meta) = refl
module_decl_numbered field (i_module_decl.ExportDefaultDecl decl) = refl
module_decl_numbered field (i_module_decl.ExportDefaultExpr expr) = refl
module_decl_numbered field (i_module_decl.ExportAll src meta) = refl

module_decl_of : (field : ℕ) (d e : v_module_decl.ModuleDecl) → Both c_module_decl.enum.parts module_decl_step.each (c_module_decl.enum.as_values d) (λ c test. Part field test (k.module_decl_items field d) (k.module_decl_items field (c_module_decl.enum.make c))) → Part field (e_module_decl.ghosts.eq d e) (k.module_decl_items field d) (k.module_decl_items field e)
module_decl_of field d e = variants c_module_decl.enum module_decl_step.each (k.module_decl_items field) (module_decl_row field) module_decl_number (module_decl_numbered field) d e (module_decl_step.is d e)

same_module_decl : (field : ℕ) (d e : v_module_decl.ModuleDecl) → Part field (e_module_decl.ghosts.eq d e) (k.module_decl_items field d) (k.module_decl_items field e)
unfolding module_decl_step
same_module_decl field (i_module_decl.ImportDecl specifiers src meta) e = module_decl_of field (i_module_decl.ImportDecl specifiers src meta) e (λ y. values_last field (import_head meta y.1.1.0) refl (each_part _ (k.import_specifier_items 0) (import_row 0) (import_begins 0) (import_single 0) (same_import 0) specifiers.items y.0.items) (str 1 src y.1.0))
same_module_decl field (i_module_decl.ExportDecl decl) e = module_decl_of field (i_module_decl.ExportDecl decl) e (λ y. in_node field _ (just (same_decl 0 decl y.0)))
same_module_decl field (i_module_decl.NamedExport specifiers src meta) e = module_decl_of field (i_module_decl.NamedExport specifiers src meta) e (λ y. inside_then_values field (pointwise e_export.ghosts.eq specifiers.items y.0.items) (option_eq e_str.ghosts.eq src y.1.0) (named_export_head meta y.1.1.0) (same_exports_from specifiers.items y.0.items src y.1.0))
same_module_decl field (i_module_decl.ExportDefaultDecl decl) e = module_decl_of field (i_module_decl.ExportDefaultDecl decl) e (λ y. in_node field _ (just (same_default_decl 0 decl y.0)))
same_module_decl field (i_module_decl.ExportDefaultExpr expr) e = module_decl_of field (i_module_decl.ExportDefaultExpr expr) e (λ y. in_node field _ (just (same_expr 0 expr y.0)))
same_module_decl field (i_module_decl.ExportAll src meta) e = module_decl_of field (i_module_decl.ExportAll src meta) e (λ y. value_last field (export_all_head meta y.1.0) (str 0 src y.0))

-- Modules.

item_step : Stepwise c_item.enum e_item.ghosts.eq
item_step = record { each = _; is = λ d e. refl }

item_row : (field : ℕ) (it : v_module_item.ModuleItem) → Row field (k.module_item_items field it)
item_row field (i_module_item.ModuleDecl it) = module_decl_row field it
item_row field (i_module_item.Stmt it) = rows.stmt_row field it

item_number : List Item → ℕ
item_number (h.Open f (h.ImportDecl meta) ∷ rest) = 0
item_number (h.Open f h.ExportDecl ∷ rest) = 0
item_number (h.Open f (h.NamedExport meta) ∷ rest) = 0
item_number (h.Open f h.ExportDefaultDecl ∷ rest) = 0
item_number (h.Open f h.ExportDefaultExpr ∷ rest) = 0
item_number (h.Open f (h.ExportAll meta) ∷ rest) = 0
item_number list = 1

item_numbered : (field : ℕ) (it : v_module_item.ModuleItem) → item_number (k.module_item_items field it) ≡ nth c_item.enum.parts (c_item.enum.as_values it)
unfolding item_number stmt_items
item_numbered field (i_module_item.ModuleDecl (i_module_decl.ImportDecl specifiers src meta)) = refl
item_numbered field (i_module_item.ModuleDecl (i_module_decl.ExportDecl decl)) = refl
item_numbered field (i_module_item.ModuleDecl (i_module_decl.NamedExport specifiers src meta)) = refl
item_numbered field (i_module_item.ModuleDecl (i_module_decl.ExportDefaultDecl decl)) = refl
item_numbered field (i_module_item.ModuleDecl (i_module_decl.ExportDefaultExpr expr)) = refl
item_numbered field (i_module_item.ModuleDecl (i_module_decl.ExportAll src meta)) = refl
item_numbered field (i_module_item.Stmt (v_stmt.BlockStmt' _ stmts)) = refl
item_numbered field (i_module_item.Stmt v_stmt.EmptyStmt) = refl
item_numbered field (i_module_item.Stmt v_stmt.DebuggerStmt) = refl
item_numbered field (i_module_item.Stmt (v_stmt.WithStmt' obj _ body)) = refl
item_numbered field (i_module_item.Stmt (v_stmt.ReturnStmt' arg)) = refl
item_numbered field (i_module_item.Stmt (v_stmt.LabeledStmt' label _ body)) = refl
item_numbered field (i_module_item.Stmt (v_stmt.BreakStmt label)) = refl
item_numbered field (i_module_item.Stmt (v_stmt.ContinueStmt label)) = refl
item_numbered field (i_module_item.Stmt (v_stmt.IfStmt' test _ cons alt)) = refl
item_numbered field (i_module_item.Stmt (v_stmt.SwitchStmt' discriminant _ cases)) = refl
item_numbered field (i_module_item.Stmt (v_stmt.ThrowStmt arg)) = refl
item_numbered field (i_module_item.Stmt (v_stmt.TryStmt' _ stmts handler finalizer)) = refl
item_numbered field (i_module_item.Stmt (v_stmt.WhileStmt' test _ body)) = refl
item_numbered field (i_module_item.Stmt (v_stmt.DoWhileStmt' _ body test)) = refl
item_numbered field (i_module_item.Stmt (v_stmt.ForStmt' init test update _ body)) = refl
item_numbered field (i_module_item.Stmt (v_stmt.ForInStmt' left right _ body)) = refl
item_numbered field (i_module_item.Stmt (v_stmt.ForOfStmt' is_await left right _ body)) = refl
item_numbered field (i_module_item.Stmt (v_stmt.Decl (v_decl.ClassDecl' ident super_class _ body))) = refl
item_numbered field (i_module_item.Stmt (v_stmt.Decl (v_decl.FnDecl' ident _ params _ stmts is_generator is_async))) = refl
item_numbered field (i_module_item.Stmt (v_stmt.Decl (v_decl.VarDecl' kind _ decls meta))) = refl
item_numbered field (i_module_item.Stmt (v_stmt.ExprStmt expr)) = refl

decl_begins : (field : ℕ) (it : v_module_decl.ModuleDecl) → begins (k.module_decl_items field it) ≡ true
unfolding begins
decl_begins field (i_module_decl.ImportDecl specifiers src meta) = refl
decl_begins field (i_module_decl.ExportDecl decl) = refl
decl_begins field (i_module_decl.NamedExport specifiers src meta) = refl
decl_begins field (i_module_decl.ExportDefaultDecl decl) = refl
decl_begins field (i_module_decl.ExportDefaultExpr expr) = refl
decl_begins field (i_module_decl.ExportAll src meta) = refl

item_begins : (field : ℕ) (it : v_module_item.ModuleItem) → begins (k.module_item_items field it) ≡ true
item_begins field (i_module_item.ModuleDecl it) = decl_begins field it
item_begins field (i_module_item.Stmt it) = numbers.stmt_begins field it

decl_single : (field : ℕ) (it : v_module_decl.ModuleDecl) → Single (k.module_decl_items field it)
decl_single field (i_module_decl.ImportDecl specifiers src meta) = single_node field _ (cut.whole_and (cut.each_row (k.import_specifier_items 0) (import_row 0) specifiers.items).whole (rows.str_row 1 src).whole)
decl_single field (i_module_decl.ExportDecl decl) = single_node field _ (rows.decl_row 0 decl).whole
decl_single field (i_module_decl.NamedExport specifiers src meta) = single_node field _ (cut.whole_and (exports_row (k.role_of_names src) specifiers.items).whole (source_row src).whole)
decl_single field (i_module_decl.ExportDefaultDecl decl) = single_node field _ (default_decl_row 0 decl).whole
decl_single field (i_module_decl.ExportDefaultExpr expr) = single_node field _ (rows.expr_row 0 expr).whole
decl_single field (i_module_decl.ExportAll src meta) = single_node field _ (rows.str_row 0 src).whole

-- the list of an item is one node
pub item_single : (field : ℕ) (it : v_module_item.ModuleItem) → Single (k.module_item_items field it)
item_single field (i_module_item.ModuleDecl it) = decl_single field it
item_single field (i_module_item.Stmt it) = stmt_single field it

item_of : (field : ℕ) (d e : v_module_item.ModuleItem) → Both c_item.enum.parts item_step.each (c_item.enum.as_values d) (λ c test. Part field test (k.module_item_items field d) (k.module_item_items field (c_item.enum.make c))) → Part field (e_item.ghosts.eq d e) (k.module_item_items field d) (k.module_item_items field e)
item_of field d e = variants c_item.enum item_step.each (k.module_item_items field) (item_row field) item_number (item_numbered field) d e (item_step.is d e)

same_item : (field : ℕ) (d e : v_module_item.ModuleItem) → Part field (e_item.ghosts.eq d e) (k.module_item_items field d) (k.module_item_items field e)
unfolding item_step
same_item field (i_module_item.ModuleDecl it) e = item_of field (i_module_item.ModuleDecl it) e (λ y. same_module_decl field it y.0)
same_item field (i_module_item.Stmt it) e = item_of field (i_module_item.Stmt it) e (λ y. same_stmt field it y.0)

-- lists of module items
pub same_items : (field : ℕ) (xs ys : List v_module_item.ModuleItem) → Part field (pointwise e_item.ghosts.eq xs ys) (flat_map (k.module_item_items field) xs) (flat_map (k.module_item_items field) ys)
same_items field xs ys = each_part _ (k.module_item_items field) (item_row field) (item_begins field) (item_single field) (same_item field) xs ys

pub same_module : (field : ℕ) (d e : v_module.Module) → Part field (e_module.ghosts.eq d e) (k.module_items field d) (k.module_items field e)
same_module field d e = in_node field _ (just (same_items 0 d.body.items e.body.items))
