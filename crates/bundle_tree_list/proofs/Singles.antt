-- The list of a node, of an identifier or of a hole is one element of a list.
use Rattle.std.proofs.Common.{ℕ}
use Rattle.bundle_syntax.specs.declared.lit.Lit as v_lit
use Rattle.bundle_syntax.specs.declared.lit.Lit.TheVariants as i_lit
use Rattle.bundle_tree_ast.specs.declared.stmt.Stmt as v_stmt
use Rattle.bundle_tree_ast.specs.declared.decl.Decl as v_decl
use Rattle.bundle_tree_ast.specs.declared.expr.Expr as v_expr
use Rattle.bundle_tree_ast.specs.declared.prop.PropOrSpread as v_prop_or_spread
use Rattle.bundle_tree_ast.specs.declared.prop.Prop as v_prop
use Rattle.bundle_tree_ast.specs.declared.pat.Pat as v_pat
use Rattle.bundle_tree_ast.specs.declared.pat.ObjectPatProp as v_object_pat_prop
use Rattle.bundle_tree_ast.specs.declared.class.ClassMember as v_class_member
use Rattle.bundle_syntax.specs.declared.piece.Role.TheVariants as r
use Rattle.bundle_syntax.specs.declared.piece.Role.{Role}
use Rattle.bundle_tree_listed.specs.Tree.{ident_items, ident_name_items, tpl_element_items, lit_items, stmt_items, decl_items, expr_items, prop_or_spread_items, prop_items, pat_items, object_pat_prop_items, class_member_items}
use Rattle.bundle_tree_list.proofs.Cut as cut
use Rattle.bundle_tree_list.proofs.Cut.{Single, single_ident, single_node}
use Rattle.bundle_tree_list.proofs.Rows as rows

pub lit_single : (field : ℕ) (it : v_lit.Lit) → Single (lit_items field it)
lit_single field (i_lit.Str it) = single_node field _ cut.no_nodes
lit_single field (i_lit.Bool value) = single_node field _ cut.no_nodes
lit_single field i_lit.Null = single_node field _ cut.no_nodes
lit_single field (i_lit.Number it) = single_node field _ cut.no_nodes
lit_single field (i_lit.BigInt it) = single_node field _ cut.no_nodes
lit_single field (i_lit.Regex it) = single_node field _ cut.no_nodes

pub decl_single : (field : ℕ) (it : v_decl.Decl) → Single (decl_items field it)
unfolding stmt_items
decl_single field (v_decl.ClassDecl' ident super_class _ body) = single_node field _ (cut.whole_and (rows.ident_row r.Binding 0 ident).whole (cut.node_row 1 _ (cut.whole_and (rows.held_option_boxed_expr_is_row 0 super_class).whole (rows.row_of_class_member_is_row 1 body).whole)).whole)
decl_single field (v_decl.FnDecl' ident _ params _ stmts is_generator is_async) = single_node field _ (cut.whole_and (rows.ident_row r.Binding 0 ident).whole (cut.node_row 1 _ (cut.whole_and (rows.row_of_param_is_row 0 params).whole (cut.node_row 1 _ (rows.row_of_stmt_is_row 0 stmts).whole).whole)).whole)
decl_single field (v_decl.VarDecl' kind _ decls meta) = single_node field _ (rows.row_of_var_declarator_is_row 1 decls).whole

pub stmt_single : (field : ℕ) (it : v_stmt.Stmt) → Single (stmt_items field it)
unfolding stmt_items
stmt_single field (v_stmt.BlockStmt' _ stmts) = single_node field _ (rows.row_of_stmt_is_row 0 stmts).whole
stmt_single field v_stmt.EmptyStmt = single_node field _ cut.no_nodes
stmt_single field v_stmt.DebuggerStmt = single_node field _ cut.no_nodes
stmt_single field (v_stmt.WithStmt' obj _ body) = single_node field _ (cut.whole_and (rows.expr_row 0 obj).whole (rows.stmt_row 1 body).whole)
stmt_single field (v_stmt.ReturnStmt' arg) = single_node field _ (rows.held_option_expr_is_row 0 arg).whole
stmt_single field (v_stmt.LabeledStmt' label _ body) = single_node field _ (cut.whole_and (rows.ident_name_row 0 label).whole (rows.stmt_row 1 body).whole)
stmt_single field (v_stmt.BreakStmt label) = single_node field _ (cut.option_row (ident_name_items 0) (λ it. rows.ident_name_row 0 it) label).whole
stmt_single field (v_stmt.ContinueStmt label) = single_node field _ (cut.option_row (ident_name_items 0) (λ it. rows.ident_name_row 0 it) label).whole
stmt_single field (v_stmt.IfStmt' test _ cons alt) = single_node field _ (cut.whole_and (rows.expr_row 0 test).whole (cut.whole_and (rows.stmt_row 1 cons).whole (rows.held_option_boxed_stmt_is_row 2 alt).whole))
stmt_single field (v_stmt.SwitchStmt' discriminant _ cases) = single_node field _ (cut.whole_and (rows.expr_row 0 discriminant).whole (rows.row_of_switch_case_is_row 1 cases).whole)
stmt_single field (v_stmt.ThrowStmt arg) = single_node field _ (rows.expr_row 0 arg).whole
stmt_single field (v_stmt.TryStmt' _ stmts handler finalizer) = single_node field _ (cut.whole_and (cut.node_row 0 _ (rows.row_of_stmt_is_row 0 stmts).whole).whole (cut.whole_and (rows.held_option_catch_clause_is_row 1 handler).whole (rows.held_option_block_stmt_is_row 2 finalizer).whole))
stmt_single field (v_stmt.WhileStmt' test _ body) = single_node field _ (cut.whole_and (rows.expr_row 0 test).whole (rows.stmt_row 1 body).whole)
stmt_single field (v_stmt.DoWhileStmt' _ body test) = single_node field _ (cut.whole_and (rows.stmt_row 0 body).whole (rows.expr_row 1 test).whole)
stmt_single field (v_stmt.ForStmt' init test update _ body) = single_node field _ (cut.whole_and (rows.held_option_for_init_is_row 0 init).whole (cut.whole_and (rows.held_option_expr_is_row 1 test).whole (cut.whole_and (rows.held_option_expr_is_row 2 update).whole (rows.stmt_row 3 body).whole)))
stmt_single field (v_stmt.ForInStmt' left right _ body) = single_node field _ (cut.whole_and (rows.for_head_row 0 left).whole (cut.whole_and (rows.expr_row 1 right).whole (rows.stmt_row 2 body).whole))
stmt_single field (v_stmt.ForOfStmt' is_await left right _ body) = single_node field _ (cut.whole_and (rows.for_head_row 1 left).whole (cut.whole_and (rows.expr_row 2 right).whole (rows.stmt_row 3 body).whole))
stmt_single field (v_stmt.Decl it) = decl_single field it
stmt_single field (v_stmt.ExprStmt expr) = single_node field _ (rows.expr_row 0 expr).whole

pub expr_single : (field : ℕ) (it : v_expr.Expr) → Single (expr_items field it)
unfolding stmt_items
expr_single field v_expr.ThisExpr = single_node field _ cut.no_nodes
expr_single field (v_expr.ArrayLit' _ elems) = single_node field _ (rows.row_of_option_expr_or_spread_is_row 0 elems).whole
expr_single field (v_expr.ObjectLit' _ props) = single_node field _ (rows.row_of_prop_or_spread_is_row 0 props).whole
expr_single field (v_expr.FnExpr' ident _ params _ stmts is_generator is_async) = single_node field _ (cut.whole_and (cut.option_row (ident_items r.Binding 0) (λ it. rows.ident_row r.Binding 0 it) ident).whole (cut.node_row 1 _ (cut.whole_and (rows.row_of_param_is_row 0 params).whole (cut.node_row 1 _ (rows.row_of_stmt_is_row 0 stmts).whole).whole)).whole)
expr_single field (v_expr.UnaryExpr' op _ arg) = single_node field _ (rows.expr_row 1 arg).whole
expr_single field (v_expr.UpdateExpr' op prefix _ arg) = single_node field _ (rows.expr_row 2 arg).whole
expr_single field (v_expr.BinExpr' op _ left _ right) = single_node field _ (cut.whole_and (rows.expr_row 1 left).whole (rows.expr_row 2 right).whole)
expr_single field (v_expr.AssignExpr' op left _ right) = single_node field _ (cut.whole_and (rows.assign_target_row 1 left).whole (rows.expr_row 2 right).whole)
expr_single field (v_expr.MemberExpr' _ obj prop) = single_node field _ (cut.whole_and (rows.expr_row 0 obj).whole (rows.held_member_prop_is_row 1 prop).whole)
expr_single field (v_expr.SuperPropExpr' prop) = single_node field _ (rows.held_super_prop_is_row 0 prop).whole
expr_single field (v_expr.CondExpr' _ test _ cons _ alt) = single_node field _ (cut.whole_and (rows.expr_row 0 test).whole (cut.whole_and (rows.expr_row 1 cons).whole (rows.expr_row 2 alt).whole))
expr_single field (v_expr.CallExpr' callee _ args) = single_node field _ (cut.whole_and (rows.held_callee_is_row 0 callee).whole (rows.row_of_expr_or_spread_is_row 1 args).whole)
expr_single field (v_expr.NewExpr' _ callee args) = single_node field _ (cut.whole_and (rows.expr_row 0 callee).whole (rows.held_option_each_expr_or_spread_is_row 1 args).whole)
expr_single field (v_expr.SeqExpr' _ exprs) = single_node field _ (rows.row_of_expr_is_row 0 exprs).whole
expr_single field (v_expr.Ident it) = single_ident field _ _ _
expr_single field (v_expr.Lit it) = lit_single field it
expr_single field (v_expr.Tpl' _ exprs quasis) = single_node field _ (cut.whole_and (rows.row_of_expr_is_row 0 exprs).whole (cut.each_row (tpl_element_items 1) (λ it. rows.tpl_element_row 1 it) quasis.items).whole)
expr_single field (v_expr.TaggedTpl' _ tag _ exprs quasis) = single_node field _ (cut.whole_and (rows.expr_row 0 tag).whole (cut.node_row 1 _ (cut.whole_and (rows.row_of_expr_is_row 0 exprs).whole (cut.each_row (tpl_element_items 1) (λ it. rows.tpl_element_row 1 it) quasis.items).whole)).whole)
expr_single field (v_expr.ArrowExpr' _ params body is_async) = single_node field _ (cut.whole_and (rows.row_of_pat_is_row r.Binding 0 params).whole (rows.arrow_body_row 1 body).whole)
expr_single field (v_expr.ClassExpr' ident super_class _ body) = single_node field _ (cut.whole_and (cut.option_row (ident_items r.Binding 0) (λ it. rows.ident_row r.Binding 0 it) ident).whole (cut.node_row 1 _ (cut.whole_and (rows.held_option_boxed_expr_is_row 0 super_class).whole (rows.row_of_class_member_is_row 1 body).whole)).whole)
expr_single field (v_expr.YieldExpr' arg delegate) = single_node field _ (rows.held_option_boxed_expr_is_row 0 arg).whole
expr_single field (v_expr.MetaPropExpr kind) = single_node field _ cut.no_nodes
expr_single field (v_expr.AwaitExpr' _ arg) = single_node field _ (rows.expr_row 0 arg).whole
expr_single field (v_expr.ParenExpr' _ expr) = single_node field _ (rows.expr_row 0 expr).whole
expr_single field (v_expr.PrivateName it) = single_node field _ cut.no_nodes
expr_single field (v_expr.OptChainExpr' optional base) = single_node field _ (rows.held_opt_chain_base_is_row 1 base).whole

pub prop_single : (field : ℕ) (it : v_prop.Prop) → Single (prop_items field it)
unfolding stmt_items
prop_single field (v_prop.Shorthand it) = single_ident field _ _ _
prop_single field (v_prop.KeyValueProp' key value) = single_node field _ (cut.whole_and (rows.held_prop_name_is_row 0 key).whole (rows.expr_row 1 value).whole)
prop_single field (v_prop.GetterProp' key _ stmts) = single_node field _ (cut.whole_and (rows.held_prop_name_is_row 0 key).whole (cut.node_row 1 _ (rows.row_of_stmt_is_row 0 stmts).whole).whole)
prop_single field (v_prop.SetterProp' key param _ stmts) = single_node field _ (cut.whole_and (rows.held_prop_name_is_row 0 key).whole (cut.whole_and (rows.pat_row r.Binding 1 param).whole (cut.node_row 2 _ (rows.row_of_stmt_is_row 0 stmts).whole).whole))
prop_single field (v_prop.MethodProp' key _ params _ stmts is_generator is_async) = single_node field _ (cut.whole_and (rows.held_prop_name_is_row 0 key).whole (cut.node_row 1 _ (cut.whole_and (rows.row_of_param_is_row 0 params).whole (cut.node_row 1 _ (rows.row_of_stmt_is_row 0 stmts).whole).whole)).whole)

pub prop_or_spread_single : (field : ℕ) (it : v_prop_or_spread.PropOrSpread) → Single (prop_or_spread_items field it)
unfolding stmt_items
prop_or_spread_single field (v_prop_or_spread.SpreadElement expr) = single_node field _ (rows.expr_row 0 expr).whole
prop_or_spread_single field (v_prop_or_spread.Prop it) = prop_single field it

pub pat_single : (role : Role) (field : ℕ) (it : v_pat.Pat) → Single (pat_items role field it)
unfolding stmt_items
pat_single role field (v_pat.BindingIdent it) = single_node field _ (rows.ident_row role 0 it.id).whole
pat_single role field (v_pat.ArrayPat' _ elems) = single_node field _ (rows.row_of_option_pat_is_row role 0 elems).whole
pat_single role field (v_pat.RestPat' _ arg) = single_node field _ (rows.pat_row role 0 arg).whole
pat_single role field (v_pat.ObjectPat' _ props) = single_node field _ (rows.row_of_object_pat_prop_is_row role 0 props).whole
pat_single role field (v_pat.AssignPat' _ left _ right) = single_node field _ (cut.whole_and (rows.pat_row role 0 left).whole (rows.expr_row 1 right).whole)
pat_single role field (v_pat.Expr' _ it) = expr_single field it

pub object_pat_prop_single : (role : Role) (field : ℕ) (it : v_object_pat_prop.ObjectPatProp) → Single (object_pat_prop_items role field it)
unfolding stmt_items
object_pat_prop_single role field (v_object_pat_prop.KeyValuePatProp' key value) = single_node field _ (cut.whole_and (rows.held_prop_name_is_row 0 key).whole (rows.pat_row role 1 value).whole)
object_pat_prop_single role field (v_object_pat_prop.AssignPatProp' key value) = single_node field _ (cut.whole_and (rows.binding_ident_row role 0 key).whole (rows.held_option_expr_is_row 1 value).whole)
object_pat_prop_single role field (v_object_pat_prop.RestPat' _ arg) = single_node field _ (rows.pat_row role 0 arg).whole

pub class_member_single : (field : ℕ) (it : v_class_member.ClassMember) → Single (class_member_items field it)
unfolding stmt_items
class_member_single field (v_class_member.Constructor' _ params _ stmts) = single_node field _ (cut.whole_and (rows.row_of_param_is_row 0 params).whole (cut.node_row 1 _ (rows.row_of_stmt_is_row 0 stmts).whole).whole)
class_member_single field (v_class_member.ClassMethod' key _ params _ stmts is_generator is_async kind is_static) = single_node field _ (cut.whole_and (rows.held_prop_name_is_row 0 key).whole (cut.node_row 1 _ (cut.whole_and (rows.row_of_param_is_row 0 params).whole (cut.node_row 1 _ (rows.row_of_stmt_is_row 0 stmts).whole).whole)).whole)
class_member_single field (v_class_member.PrivateMethod' key _ params _ stmts is_generator is_async kind is_static) = single_node field _ (cut.whole_and (rows.private_name_row 0 key).whole (cut.node_row 1 _ (cut.whole_and (rows.row_of_param_is_row 0 params).whole (cut.node_row 1 _ (rows.row_of_stmt_is_row 0 stmts).whole).whole)).whole)
class_member_single field (v_class_member.ClassProp' key value is_static) = single_node field _ (cut.whole_and (rows.held_prop_name_is_row 0 key).whole (rows.held_option_expr_is_row 1 value).whole)
class_member_single field (v_class_member.PrivateProp' key value is_static) = single_node field _ (cut.whole_and (rows.private_name_row 0 key).whole (rows.held_option_expr_is_row 1 value).whole)
class_member_single field (v_class_member.StaticBlock' _ stmts) = single_node field _ (cut.node_row 0 _ (rows.row_of_stmt_is_row 0 stmts).whole).whole
class_member_single field v_class_member.EmptyStmt = single_node field _ cut.no_nodes
