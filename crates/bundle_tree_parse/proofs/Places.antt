-- The list of each kind of node is of that kind, in whatever field it stands.
use Rattle.std.proofs.Common.{ℕ, refl, string_bytes}
use Rattle.bundle_syntax.specs.declared.ident.IdentName as v_ident_name
use Rattle.bundle_syntax.specs.declared.ident.PrivateName as v_private_name
use Rattle.bundle_syntax.specs.declared.lit.Number as v_number
use Rattle.bundle_syntax.specs.declared.lit.BigInt as v_big_int
use Rattle.bundle_syntax.specs.declared.lit.Regex as v_regex
use Rattle.bundle_tree_ast.specs.declared.stmt.BlockStmt as v_block_stmt
use Rattle.bundle_tree_ast.specs.declared.stmt.Stmt as v_stmt
use Rattle.bundle_tree_ast.specs.declared.stmt.SwitchCase as v_switch_case
use Rattle.bundle_tree_ast.specs.declared.stmt.CatchClause as v_catch_clause
use Rattle.bundle_tree_ast.specs.declared.decl.VarDecl as v_var_decl
use Rattle.bundle_tree_ast.specs.declared.decl.VarDeclarator as v_var_declarator
use Rattle.bundle_tree_ast.specs.declared.expr.Expr as v_expr
use Rattle.bundle_tree_ast.specs.declared.expr.ParenExpr as v_paren_expr
use Rattle.bundle_tree_ast.specs.declared.expr.MemberExpr as v_member_expr
use Rattle.bundle_tree_ast.specs.declared.expr.SuperPropExpr as v_super_prop_expr
use Rattle.bundle_tree_ast.specs.declared.expr.Callee as v_callee
use Rattle.bundle_tree_ast.specs.declared.expr.ExprOrSpread as v_expr_or_spread
use Rattle.bundle_tree_ast.specs.declared.expr.OptChainBase as v_opt_chain_base
use Rattle.bundle_tree_ast.specs.declared.expr.OptCall as v_opt_call
use Rattle.bundle_tree_ast.specs.declared.expr.Tpl as v_tpl
use Rattle.bundle_tree_ast.specs.declared.prop.ComputedPropName as v_computed_prop_name
use Rattle.bundle_tree_ast.specs.declared.prop.PropName as v_prop_name
use Rattle.bundle_tree_ast.specs.declared.prop.MemberProp as v_member_prop
use Rattle.bundle_tree_ast.specs.declared.prop.SuperProp as v_super_prop
use Rattle.bundle_tree_ast.specs.declared.pat.Pat as v_pat
use Rattle.bundle_tree_ast.specs.declared.pat.ArrayPat as v_array_pat
use Rattle.bundle_tree_ast.specs.declared.pat.RestPat as v_rest_pat
use Rattle.bundle_tree_ast.specs.declared.pat.ObjectPat as v_object_pat
use Rattle.bundle_tree_ast.specs.declared.pat.ObjectPatProp as v_object_pat_prop
use Rattle.bundle_tree_ast.specs.declared.class.Param as v_param
use Rattle.bundle_tree_ast.specs.declared.class.ClassMember.TheBlock as block
use Rattle.bundle_syntax.specs.declared.piece.Role.{Role}
use Rattle.bundle_syntax.specs.declared.piece.Role.TheVariants as r
use Rattle.bundle_syntax.specs.Item as h
use Rattle.bundle_tree_listed.specs.Tree.{ident_name_items, private_name_items, number_items, big_int_items, regex_items, tpl_element_items, block_stmt_items, switch_case_items, catch_clause_items, var_decl_items, var_declarator_items, paren_expr_items, member_expr_items, super_prop_expr_items, callee_items, expr_or_spread_items, opt_chain_base_items, opt_call_items, tpl_items, computed_prop_name_items, prop_name_items, member_prop_items, super_prop_items, array_pat_items, rest_pat_items, object_pat_items, param_items}
use Rattle.bundle_tree_parse.specs.Sorts.{ABlock, ACase, AHandler, AVarDecl, ADeclarator, AParen, AMemberExpr, ASuperMember, ACallee, AnArgument, ALink, AnOptCall, ATemplate, AComputedKey, AKey, AMemberKey, ASuperKey, AnArrayPattern, ARestPattern, AnObjectPattern, AParameter, AWord, APrivateName, ANumber, ABigInt, ARegex}
use Rattle.bundle_tree_parse.specs.Standing.{IsIn}
use Rattle.bundle_tree_parse.proofs.Rows.{one, last, maybe, last_maybe, each, last_each, last_places, in_node, in_leaf}
use Rattle.bundle_tree_parse.proofs.Trees.{flat_in, word_in, private_in, tpl_element_in, stmts_in, declarators_in, expr_in, exprs_in, maybe_expr_in, arguments_in, callee_in as held_callee_in, link_in, key_in, member_key_in, super_key_in, pat_in, maybe_pat_in, pat_places_in, pat_props_in}

-- statements and declarations
pub block_in : (field : ℕ) (it : v_block_stmt.BlockStmt v_stmt.Stmt) → IsIn ABlock field (block_stmt_items field it)
block_in field it = in_node field h.BlockStmt refl (last_each (stmts_in 0 (block.hidden-the_row-Stmt-1 it.stmts)))

pub case_in : (field : ℕ) (it : v_switch_case.SwitchCase) → IsIn ACase field (switch_case_items field it)
case_in field it = in_node field h.SwitchCase refl (maybe refl (maybe_expr_in 0 (block.back-ClassMember-ClassProp-1 it.test)) (last_each (stmts_in 1 (block.hidden-the_row-Stmt-1 it.cons))))

pub catch_in : (field : ℕ) (it : v_catch_clause.CatchClause) → IsIn AHandler field (catch_clause_items field it)
catch_in field it = in_node field h.CatchClause refl (maybe refl (maybe_pat_in r.Binding 0 (block.back-AssignTarget-ArrayPat-0-1 it.param)) (last (block_in 1 it.body)))

pub var_decl_in : (field : ℕ) (it : v_var_decl.VarDecl v_var_declarator.VarDeclarator) → IsIn AVarDecl field (var_decl_items field it)
var_decl_in field it = in_node field (h.VarDecl it.kind it.meta) refl (last_each (declarators_in 1 (block.hidden-the_row-VarDeclarator-3 it.decls)))

pub declarator_in : (field : ℕ) (it : v_var_declarator.VarDeclarator) → IsIn ADeclarator field (var_declarator_items field it)
declarator_in field it = in_node field h.VarDeclarator refl (one (pat_in r.Binding 0 it.name) (last_maybe (maybe_expr_in 1 (block.back-ClassMember-ClassProp-1 it.init))))

-- expressions
pub paren_in : (field : ℕ) (it : v_paren_expr.ParenExpr v_expr.Expr) → IsIn AParen field (paren_expr_items field it)
paren_in field it = in_node field h.ParenExpr refl (last (expr_in 0 it.expr.value))

pub member_expr_in : (field : ℕ) (it : v_member_expr.MemberExpr v_expr.Expr) → IsIn AMemberExpr field (member_expr_items field it)
member_expr_in field it = in_node field h.MemberExpr refl (one (expr_in 0 it.obj.value) (last (member_key_in 1 (block.back-Expr-MemberExpr-0-7 it.prop))))

pub super_member_in : (field : ℕ) (it : v_super_prop_expr.SuperPropExpr v_expr.Expr) → IsIn ASuperMember field (super_prop_expr_items field it)
super_member_in field it = in_node field h.SuperPropExpr refl (last (super_key_in 0 (block.back-Expr-SuperPropExpr-0-4 it.prop)))

pub callee_in : (field : ℕ) (it : v_callee.Callee v_expr.Expr) → IsIn ACallee field (callee_items field it)
callee_in field it = held_callee_in field (block.back-Expr-CallExpr-0 it)

pub argument_in : (field : ℕ) (it : v_expr_or_spread.ExprOrSpread v_expr.Expr) → IsIn AnArgument field (expr_or_spread_items field it)
argument_in field it = in_node field (h.ExprOrSpread it.spread) refl (last (expr_in 1 it.expr))

pub opt_chain_base_in : (field : ℕ) (it : v_opt_chain_base.OptChainBase v_expr.Expr) → IsIn ALink field (opt_chain_base_items field it)
opt_chain_base_in field it = link_in field (block.back-Expr-OptChainExpr-1 it)

pub opt_call_in : (field : ℕ) (it : v_opt_call.OptCall v_expr.Expr) → IsIn AnOptCall field (opt_call_items field it)
opt_call_in field it = in_node field h.OptCall refl (one (expr_in 0 it.callee.value) (last_each (arguments_in 1 (block.hidden-the_row-Expr-CallExpr-1-2-6 it.args))))

pub template_in : (field : ℕ) (it : v_tpl.Tpl v_expr.Expr) → IsIn ATemplate field (tpl_items field it)
template_in field it = in_node field h.Tpl refl (each refl (exprs_in 0 (block.hidden-the_row-Expr-7 it.exprs)) (last_each (flat_in (tpl_element_items 1) (tpl_element_in 1) it.quasis.items)))

-- keys
pub computed_key_in : (field : ℕ) (it : v_computed_prop_name.ComputedPropName v_expr.Expr) → IsIn AComputedKey field (computed_prop_name_items field it)
computed_key_in field it = in_node field h.ComputedPropName refl (last (expr_in 0 it.expr.value))

pub prop_name_in : (field : ℕ) (it : v_prop_name.PropName v_expr.Expr) → IsIn AKey field (prop_name_items field it)
prop_name_in field it = key_in field (block.back-ClassMember-ClassMethod-0 it)

pub member_prop_in : (field : ℕ) (it : v_member_prop.MemberProp v_expr.Expr) → IsIn AMemberKey field (member_prop_items field it)
member_prop_in field it = member_key_in field (block.back-Expr-MemberExpr-0-7 it)

pub super_prop_in : (field : ℕ) (it : v_super_prop.SuperProp v_expr.Expr) → IsIn ASuperKey field (super_prop_items field it)
super_prop_in field it = super_key_in field (block.back-Expr-SuperPropExpr-0-4 it)

-- patterns and parameters
pub array_pat_in : (role : Role) (field : ℕ) (it : v_array_pat.ArrayPat v_pat.Pat) → IsIn (AnArrayPattern role) field (array_pat_items role field it)
array_pat_in role field it = in_node field h.ArrayPat refl (last_places (pat_places_in role 0 (block.hidden-the_row-AssignTarget-ArrayPat-0-1-9 it.elems)))

pub rest_pat_in : (role : Role) (field : ℕ) (it : v_rest_pat.RestPat v_pat.Pat) → IsIn (ARestPattern role) field (rest_pat_items role field it)
rest_pat_in role field it = in_node field h.RestPat refl (last (pat_in role 0 it.arg.value))

pub object_pat_in : (role : Role) (field : ℕ) (it : v_object_pat.ObjectPat v_object_pat_prop.ObjectPatProp) → IsIn (AnObjectPattern role) field (object_pat_items role field it)
object_pat_in role field it = in_node field h.ObjectPat refl (last_each (pat_props_in role 0 (block.hidden-the_row-ObjectPatProp-10 it.props)))

pub param_in : (field : ℕ) (it : v_param.Param v_pat.Pat) → IsIn AParameter field (param_items field it)
param_in field it = in_node field h.Param refl (last (pat_in r.Binding 0 it.pat))

-- names and literals
pub ident_name_in : (field : ℕ) (it : v_ident_name.IdentName) → IsIn AWord field (ident_name_items field it)
ident_name_in field it = word_in field it refl

pub private_name_in : (field : ℕ) (it : v_private_name.PrivateName) → IsIn APrivateName field (private_name_items field it)
private_name_in field it = private_in field it refl

pub number_in : (field : ℕ) (it : v_number.Number) → IsIn ANumber field (number_items field it)
number_in field it = in_leaf field (h.Number (string_bytes it.raw)) refl

pub big_int_in : (field : ℕ) (it : v_big_int.BigInt) → IsIn ABigInt field (big_int_items field it)
big_int_in field it = in_leaf field (h.BigInt (string_bytes it.raw)) refl

pub regex_in : (field : ℕ) (it : v_regex.Regex) → IsIn ARegex field (regex_items field it)
regex_in field it = in_leaf field (h.Regex (string_bytes it.raw)) refl
