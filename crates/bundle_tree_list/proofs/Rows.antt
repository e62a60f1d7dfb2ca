-- The list of each part of a tree is made of whole nodes, all in the field where the part stands.
use Rattle.std.proofs.Common.{ℕ}
use Rattle.bundle_syntax.specs.declared.ident.Ident as v_ident
use Rattle.bundle_syntax.specs.declared.ident.IdentName as v_ident_name
use Rattle.bundle_syntax.specs.declared.ident.PrivateName as v_private_name
use Rattle.bundle_syntax.specs.declared.ident.BindingIdent as v_binding_ident
use Rattle.bundle_syntax.specs.declared.lit.Str as v_str
use Rattle.bundle_syntax.specs.declared.lit.Number as v_number
use Rattle.bundle_syntax.specs.declared.lit.BigInt as v_big_int
use Rattle.bundle_syntax.specs.declared.lit.Regex as v_regex
use Rattle.bundle_syntax.specs.declared.lit.Lit as v_lit
use Rattle.bundle_syntax.specs.declared.lit.Lit.TheVariants as i_lit
use Rattle.bundle_syntax.specs.declared.lit.TplElement as v_tpl_element
use Rattle.bundle_tree_ast.specs.declared.stmt.Stmt as v_stmt
use Rattle.bundle_tree_ast.specs.declared.stmt.ForInit as v_for_init
use Rattle.bundle_tree_ast.specs.declared.stmt.ForHead as v_for_head
use Rattle.bundle_tree_ast.specs.declared.decl.Decl as v_decl
use Rattle.bundle_tree_ast.specs.declared.expr.Expr as v_expr
use Rattle.bundle_tree_ast.specs.declared.expr.ArrowBody as v_arrow_body
use Rattle.bundle_tree_ast.specs.declared.prop.PropOrSpread as v_prop_or_spread
use Rattle.bundle_tree_ast.specs.declared.prop.Prop as v_prop
use Rattle.bundle_tree_ast.specs.declared.pat.Pat as v_pat
use Rattle.bundle_tree_ast.specs.declared.pat.ObjectPatProp as v_object_pat_prop
use Rattle.bundle_tree_ast.specs.declared.pat.AssignTarget as v_assign_target
use Rattle.bundle_tree_ast.specs.declared.class.ClassMember as v_class_member
use Rattle.bundle_tree_ast.specs.declared.class.ClassMember.TheBlock as block
use Rattle.bundle_syntax.specs.declared.piece.Role.TheVariants as r
use Rattle.bundle_syntax.specs.declared.piece.Role.{Role}
use Rattle.bundle_tree_listed.specs.Tree.{ident_items, ident_name_items, private_name_items, binding_ident_items, str_items, number_items, big_int_items, regex_items, lit_items, tpl_element_items, stmt_items, for_init_items, for_head_items, held_option_boxed_stmt, held_option_block_stmt, held_option_catch_clause, held_option_for_init, row_of_stmt, row_of_switch_case, decl_items, row_of_var_declarator, expr_items, arrow_body_items, held_callee, held_opt_chain_base, held_option_expr, held_option_boxed_expr, place_of_expr_or_spread, held_option_each_expr_or_spread, row_of_expr, row_of_expr_or_spread, row_of_option_expr_or_spread, prop_or_spread_items, prop_items, held_prop_name, held_member_prop, held_super_prop, row_of_prop_or_spread, pat_items, object_pat_prop_items, assign_target_items, held_option_pat, place_of_pat, row_of_pat, row_of_option_pat, row_of_object_pat_prop, class_member_items, row_of_param, row_of_class_member}
use Rattle.bundle_tree_list.proofs.Cut as cut

pub ident_row : (role : Role) (field : ℕ) (it : v_ident.Ident) → cut.Row field (ident_items role field it)
ident_row role field it = cut.ident field _ _ role

pub ident_name_row : (field : ℕ) (it : v_ident_name.IdentName) → cut.Row field (ident_name_items field it)
ident_name_row field it = cut.node_row field _ cut.no_nodes

pub private_name_row : (field : ℕ) (it : v_private_name.PrivateName) → cut.Row field (private_name_items field it)
private_name_row field it = cut.node_row field _ cut.no_nodes

pub binding_ident_row : (role : Role) (field : ℕ) (it : v_binding_ident.BindingIdent) → cut.Row field (binding_ident_items role field it)
binding_ident_row role field it = cut.node_row field _ (ident_row role 0 it.id).whole

pub str_row : (field : ℕ) (it : v_str.Str) → cut.Row field (str_items field it)
str_row field it = cut.node_row field _ cut.no_nodes

pub number_row : (field : ℕ) (it : v_number.Number) → cut.Row field (number_items field it)
number_row field it = cut.node_row field _ cut.no_nodes

pub big_int_row : (field : ℕ) (it : v_big_int.BigInt) → cut.Row field (big_int_items field it)
big_int_row field it = cut.node_row field _ cut.no_nodes

pub regex_row : (field : ℕ) (it : v_regex.Regex) → cut.Row field (regex_items field it)
regex_row field it = cut.node_row field _ cut.no_nodes

pub tpl_element_row : (field : ℕ) (it : v_tpl_element.TplElement) → cut.Row field (tpl_element_items field it)
tpl_element_row field it = cut.node_row field _ cut.no_nodes

pub lit_row : (field : ℕ) (it : v_lit.Lit) → cut.Row field (lit_items field it)
lit_row field (i_lit.Str it) = str_row field it
lit_row field (i_lit.Bool value) = cut.node_row field _ cut.no_nodes
lit_row field i_lit.Null = cut.node_row field _ cut.no_nodes
lit_row field (i_lit.Number it) = number_row field it
lit_row field (i_lit.BigInt it) = big_int_row field it
lit_row field (i_lit.Regex it) = regex_row field it

mutual
  unfolding stmt_items

  pub stmt_row : (field : ℕ) (it : v_stmt.Stmt) → cut.Row field (stmt_items field it)
  stmt_row field (v_stmt.BlockStmt' _ stmts) = cut.node_row field _ (row_of_stmt_is_row 0 stmts).whole
  stmt_row field v_stmt.EmptyStmt = cut.node_row field _ cut.no_nodes
  stmt_row field v_stmt.DebuggerStmt = cut.node_row field _ cut.no_nodes
  stmt_row field (v_stmt.WithStmt' obj _ body) = cut.node_row field _ (cut.whole_and (expr_row 0 obj).whole (stmt_row 1 body).whole)
  stmt_row field (v_stmt.ReturnStmt' arg) = cut.node_row field _ (held_option_expr_is_row 0 arg).whole
  stmt_row field (v_stmt.LabeledStmt' label _ body) = cut.node_row field _ (cut.whole_and (ident_name_row 0 label).whole (stmt_row 1 body).whole)
  stmt_row field (v_stmt.BreakStmt label) = cut.node_row field _ (cut.option_row (ident_name_items 0) (λ it. ident_name_row 0 it) label).whole
  stmt_row field (v_stmt.ContinueStmt label) = cut.node_row field _ (cut.option_row (ident_name_items 0) (λ it. ident_name_row 0 it) label).whole
  stmt_row field (v_stmt.IfStmt' test _ cons alt) = cut.node_row field _ (cut.whole_and (expr_row 0 test).whole (cut.whole_and (stmt_row 1 cons).whole (held_option_boxed_stmt_is_row 2 alt).whole))
  stmt_row field (v_stmt.SwitchStmt' discriminant _ cases) = cut.node_row field _ (cut.whole_and (expr_row 0 discriminant).whole (row_of_switch_case_is_row 1 cases).whole)
  stmt_row field (v_stmt.ThrowStmt arg) = cut.node_row field _ (expr_row 0 arg).whole
  stmt_row field (v_stmt.TryStmt' _ stmts handler finalizer) = cut.node_row field _ (cut.whole_and (cut.node_row 0 _ (row_of_stmt_is_row 0 stmts).whole).whole (cut.whole_and (held_option_catch_clause_is_row 1 handler).whole (held_option_block_stmt_is_row 2 finalizer).whole))
  stmt_row field (v_stmt.WhileStmt' test _ body) = cut.node_row field _ (cut.whole_and (expr_row 0 test).whole (stmt_row 1 body).whole)
  stmt_row field (v_stmt.DoWhileStmt' _ body test) = cut.node_row field _ (cut.whole_and (stmt_row 0 body).whole (expr_row 1 test).whole)
  stmt_row field (v_stmt.ForStmt' init test update _ body) = cut.node_row field _ (cut.whole_and (held_option_for_init_is_row 0 init).whole (cut.whole_and (held_option_expr_is_row 1 test).whole (cut.whole_and (held_option_expr_is_row 2 update).whole (stmt_row 3 body).whole)))
  stmt_row field (v_stmt.ForInStmt' left right _ body) = cut.node_row field _ (cut.whole_and (for_head_row 0 left).whole (cut.whole_and (expr_row 1 right).whole (stmt_row 2 body).whole))
  stmt_row field (v_stmt.ForOfStmt' is_await left right _ body) = cut.node_row field _ (cut.whole_and (for_head_row 1 left).whole (cut.whole_and (expr_row 2 right).whole (stmt_row 3 body).whole))
  stmt_row field (v_stmt.Decl it) = decl_row field it
  stmt_row field (v_stmt.ExprStmt expr) = cut.node_row field _ (expr_row 0 expr).whole

  pub for_init_row : (field : ℕ) (it : v_for_init.ForInit) → cut.Row field (for_init_items field it)
  for_init_row field (v_for_init.VarDecl' kind _ decls meta) = cut.node_row field _ (row_of_var_declarator_is_row 1 decls).whole
  for_init_row field (v_for_init.Expr it) = expr_row field it

  pub for_head_row : (field : ℕ) (it : v_for_head.ForHead) → cut.Row field (for_head_items field it)
  for_head_row field (v_for_head.VarDecl' kind _ decls meta) = cut.node_row field _ (row_of_var_declarator_is_row 1 decls).whole
  for_head_row field (v_for_head.Pat it) = pat_row r.Reference field it

  pub held_option_boxed_stmt_is_row : (field : ℕ) (it : block.Held-Stmt-IfStmt-2) → cut.Row field (held_option_boxed_stmt field it)
  held_option_boxed_stmt_is_row field block.Stmt-IfStmt-2-None' = cut.nothing field
  held_option_boxed_stmt_is_row field (block.Stmt-IfStmt-2-Some' _ it) = stmt_row field it

  pub held_option_block_stmt_is_row : (field : ℕ) (it : block.Held-Stmt-TryStmt-2) → cut.Row field (held_option_block_stmt field it)
  held_option_block_stmt_is_row field block.Stmt-TryStmt-2-None' = cut.nothing field
  held_option_block_stmt_is_row field (block.Stmt-TryStmt-2-Some' _ stmts) = cut.node_row field _ (row_of_stmt_is_row 0 stmts).whole

  pub held_option_catch_clause_is_row : (field : ℕ) (it : block.Held-Stmt-TryStmt-1) → cut.Row field (held_option_catch_clause field it)
  held_option_catch_clause_is_row field block.Stmt-TryStmt-1-None' = cut.nothing field
  held_option_catch_clause_is_row field (block.Stmt-TryStmt-1-Some' param _ stmts) = cut.node_row field _ (cut.whole_and (held_option_pat_is_row r.Binding 0 param).whole (cut.node_row 1 _ (row_of_stmt_is_row 0 stmts).whole).whole)

  pub held_option_for_init_is_row : (field : ℕ) (it : block.Held-Stmt-ForStmt-0) → cut.Row field (held_option_for_init field it)
  held_option_for_init_is_row field block.Stmt-ForStmt-0-None' = cut.nothing field
  held_option_for_init_is_row field (block.Stmt-ForStmt-0-Some' it) = for_init_row field it

  pub row_of_stmt_is_row : (field : ℕ) {n : _} (it : block.Row_of-Stmt n) → cut.Row field (row_of_stmt field it)
  row_of_stmt_is_row field block.end_of-Stmt = cut.nothing field
  row_of_stmt_is_row field (block.more_of-Stmt it rest) = cut.and_then (stmt_row field it) (row_of_stmt_is_row field rest)

  pub row_of_switch_case_is_row : (field : ℕ) {n : _} (it : block.Row_of-SwitchCase n) → cut.Row field (row_of_switch_case field it)
  row_of_switch_case_is_row field block.end_of-SwitchCase = cut.nothing field
  row_of_switch_case_is_row field (block.more_of-SwitchCase test _ cons rest) = cut.and_then (cut.node_row field _ (cut.whole_and (held_option_expr_is_row 0 test).whole (row_of_stmt_is_row 1 cons).whole)) (row_of_switch_case_is_row field rest)

  pub decl_row : (field : ℕ) (it : v_decl.Decl) → cut.Row field (decl_items field it)
  decl_row field (v_decl.ClassDecl' ident super_class _ body) = cut.node_row field _ (cut.whole_and (ident_row r.Binding 0 ident).whole (cut.node_row 1 _ (cut.whole_and (held_option_boxed_expr_is_row 0 super_class).whole (row_of_class_member_is_row 1 body).whole)).whole)
  decl_row field (v_decl.FnDecl' ident _ params _ stmts is_generator is_async) = cut.node_row field _ (cut.whole_and (ident_row r.Binding 0 ident).whole (cut.node_row 1 _ (cut.whole_and (row_of_param_is_row 0 params).whole (cut.node_row 1 _ (row_of_stmt_is_row 0 stmts).whole).whole)).whole)
  decl_row field (v_decl.VarDecl' kind _ decls meta) = cut.node_row field _ (row_of_var_declarator_is_row 1 decls).whole

  pub row_of_var_declarator_is_row : (field : ℕ) {n : _} (it : block.Row_of-VarDeclarator n) → cut.Row field (row_of_var_declarator field it)
  row_of_var_declarator_is_row field block.end_of-VarDeclarator = cut.nothing field
  row_of_var_declarator_is_row field (block.more_of-VarDeclarator name init rest) = cut.and_then (cut.node_row field _ (cut.whole_and (pat_row r.Binding 0 name).whole (held_option_expr_is_row 1 init).whole)) (row_of_var_declarator_is_row field rest)

  pub expr_row : (field : ℕ) (it : v_expr.Expr) → cut.Row field (expr_items field it)
  expr_row field v_expr.ThisExpr = cut.node_row field _ cut.no_nodes
  expr_row field (v_expr.ArrayLit' _ elems) = cut.node_row field _ (row_of_option_expr_or_spread_is_row 0 elems).whole
  expr_row field (v_expr.ObjectLit' _ props) = cut.node_row field _ (row_of_prop_or_spread_is_row 0 props).whole
  expr_row field (v_expr.FnExpr' ident _ params _ stmts is_generator is_async) = cut.node_row field _ (cut.whole_and (cut.option_row (ident_items r.Binding 0) (λ it. ident_row r.Binding 0 it) ident).whole (cut.node_row 1 _ (cut.whole_and (row_of_param_is_row 0 params).whole (cut.node_row 1 _ (row_of_stmt_is_row 0 stmts).whole).whole)).whole)
  expr_row field (v_expr.UnaryExpr' op _ arg) = cut.node_row field _ (expr_row 1 arg).whole
  expr_row field (v_expr.UpdateExpr' op prefix _ arg) = cut.node_row field _ (expr_row 2 arg).whole
  expr_row field (v_expr.BinExpr' op _ left _ right) = cut.node_row field _ (cut.whole_and (expr_row 1 left).whole (expr_row 2 right).whole)
  expr_row field (v_expr.AssignExpr' op left _ right) = cut.node_row field _ (cut.whole_and (assign_target_row 1 left).whole (expr_row 2 right).whole)
  expr_row field (v_expr.MemberExpr' _ obj prop) = cut.node_row field _ (cut.whole_and (expr_row 0 obj).whole (held_member_prop_is_row 1 prop).whole)
  expr_row field (v_expr.SuperPropExpr' prop) = cut.node_row field _ (held_super_prop_is_row 0 prop).whole
  expr_row field (v_expr.CondExpr' _ test _ cons _ alt) = cut.node_row field _ (cut.whole_and (expr_row 0 test).whole (cut.whole_and (expr_row 1 cons).whole (expr_row 2 alt).whole))
  expr_row field (v_expr.CallExpr' callee _ args) = cut.node_row field _ (cut.whole_and (held_callee_is_row 0 callee).whole (row_of_expr_or_spread_is_row 1 args).whole)
  expr_row field (v_expr.NewExpr' _ callee args) = cut.node_row field _ (cut.whole_and (expr_row 0 callee).whole (held_option_each_expr_or_spread_is_row 1 args).whole)
  expr_row field (v_expr.SeqExpr' _ exprs) = cut.node_row field _ (row_of_expr_is_row 0 exprs).whole
  expr_row field (v_expr.Ident it) = ident_row r.Reference field it
  expr_row field (v_expr.Lit it) = lit_row field it
  expr_row field (v_expr.Tpl' _ exprs quasis) = cut.node_row field _ (cut.whole_and (row_of_expr_is_row 0 exprs).whole (cut.each_row (tpl_element_items 1) (λ it. tpl_element_row 1 it) quasis.items).whole)
  expr_row field (v_expr.TaggedTpl' _ tag _ exprs quasis) = cut.node_row field _ (cut.whole_and (expr_row 0 tag).whole (cut.node_row 1 _ (cut.whole_and (row_of_expr_is_row 0 exprs).whole (cut.each_row (tpl_element_items 1) (λ it. tpl_element_row 1 it) quasis.items).whole)).whole)
  expr_row field (v_expr.ArrowExpr' _ params body is_async) = cut.node_row field _ (cut.whole_and (row_of_pat_is_row r.Binding 0 params).whole (arrow_body_row 1 body).whole)
  expr_row field (v_expr.ClassExpr' ident super_class _ body) = cut.node_row field _ (cut.whole_and (cut.option_row (ident_items r.Binding 0) (λ it. ident_row r.Binding 0 it) ident).whole (cut.node_row 1 _ (cut.whole_and (held_option_boxed_expr_is_row 0 super_class).whole (row_of_class_member_is_row 1 body).whole)).whole)
  expr_row field (v_expr.YieldExpr' arg delegate) = cut.node_row field _ (held_option_boxed_expr_is_row 0 arg).whole
  expr_row field (v_expr.MetaPropExpr kind) = cut.node_row field _ cut.no_nodes
  expr_row field (v_expr.AwaitExpr' _ arg) = cut.node_row field _ (expr_row 0 arg).whole
  expr_row field (v_expr.ParenExpr' _ expr) = cut.node_row field _ (expr_row 0 expr).whole
  expr_row field (v_expr.PrivateName it) = private_name_row field it
  expr_row field (v_expr.OptChainExpr' optional base) = cut.node_row field _ (held_opt_chain_base_is_row 1 base).whole

  pub arrow_body_row : (field : ℕ) (it : v_arrow_body.ArrowBody) → cut.Row field (arrow_body_items field it)
  arrow_body_row field (v_arrow_body.BlockStmt' _ stmts) = cut.node_row field _ (row_of_stmt_is_row 0 stmts).whole
  arrow_body_row field (v_arrow_body.Expr' _ it) = expr_row field it

  pub held_callee_is_row : (field : ℕ) (it : block.Held-Expr-CallExpr-0) → cut.Row field (held_callee field it)
  held_callee_is_row field block.Super' = cut.node_row field _ cut.no_nodes
  held_callee_is_row field block.Import' = cut.node_row field _ cut.no_nodes
  held_callee_is_row field (block.Expr-CallExpr-0-Expr' _ it) = expr_row field it

  pub held_opt_chain_base_is_row : (field : ℕ) (it : block.Held-Expr-OptChainExpr-1) → cut.Row field (held_opt_chain_base field it)
  held_opt_chain_base_is_row field (block.Expr-OptChainExpr-1-MemberExpr' _ obj prop) = cut.node_row field _ (cut.whole_and (expr_row 0 obj).whole (held_member_prop_is_row 1 prop).whole)
  held_opt_chain_base_is_row field (block.OptCall' _ callee _ args) = cut.node_row field _ (cut.whole_and (expr_row 0 callee).whole (row_of_expr_or_spread_is_row 1 args).whole)

  pub held_option_expr_is_row : (field : ℕ) (it : block.Held-ClassMember-ClassProp-1) → cut.Row field (held_option_expr field it)
  held_option_expr_is_row field block.ClassMember-ClassProp-1-None' = cut.nothing field
  held_option_expr_is_row field (block.ClassMember-ClassProp-1-Some' it) = expr_row field it

  pub held_option_boxed_expr_is_row : (field : ℕ) (it : block.Held-Expr-YieldExpr-0) → cut.Row field (held_option_boxed_expr field it)
  held_option_boxed_expr_is_row field block.Expr-YieldExpr-0-None' = cut.nothing field
  held_option_boxed_expr_is_row field (block.Expr-YieldExpr-0-Some' _ it) = expr_row field it

  pub place_of_expr_or_spread_is_row : (field : ℕ) (it : block.Held-Expr-ArrayLit-0-3) → cut.Row field (place_of_expr_or_spread field it)
  place_of_expr_or_spread_is_row field block.Expr-ArrayLit-0-3-None' = cut.hole field
  place_of_expr_or_spread_is_row field (block.Expr-ArrayLit-0-3-Some' spread expr) = cut.node_row field _ (expr_row 1 expr).whole

  pub held_option_each_expr_or_spread_is_row : (field : ℕ) (it : block.Held-Expr-NewExpr-1) → cut.Row field (held_option_each_expr_or_spread field it)
  held_option_each_expr_or_spread_is_row field block.Expr-NewExpr-1-None' = cut.nothing field
  held_option_each_expr_or_spread_is_row field (block.Expr-NewExpr-1-Some' _ row) = row_of_expr_or_spread_is_row field row

  pub row_of_expr_is_row : (field : ℕ) {n : _} (it : block.Row_of-Expr n) → cut.Row field (row_of_expr field it)
  row_of_expr_is_row field block.end_of-Expr = cut.nothing field
  row_of_expr_is_row field (block.more_of-Expr it rest) = cut.and_then (expr_row field it) (row_of_expr_is_row field rest)

  pub row_of_expr_or_spread_is_row : (field : ℕ) {n : _} (it : block.Row_of-Expr-CallExpr-1-2 n) → cut.Row field (row_of_expr_or_spread field it)
  row_of_expr_or_spread_is_row field block.end_of-Expr-CallExpr-1-2 = cut.nothing field
  row_of_expr_or_spread_is_row field (block.more_of-Expr-CallExpr-1-2 spread expr rest) = cut.and_then (cut.node_row field _ (expr_row 1 expr).whole) (row_of_expr_or_spread_is_row field rest)

  pub row_of_option_expr_or_spread_is_row : (field : ℕ) {n : _} (it : block.Row_of-Expr-ArrayLit-0-3 n) → cut.Row field (row_of_option_expr_or_spread field it)
  row_of_option_expr_or_spread_is_row field block.end_of-Expr-ArrayLit-0-3 = cut.nothing field
  row_of_option_expr_or_spread_is_row field (block.more_of-Expr-ArrayLit-0-3 it rest) = cut.and_then (place_of_expr_or_spread_is_row field it) (row_of_option_expr_or_spread_is_row field rest)

  pub prop_or_spread_row : (field : ℕ) (it : v_prop_or_spread.PropOrSpread) → cut.Row field (prop_or_spread_items field it)
  prop_or_spread_row field (v_prop_or_spread.SpreadElement expr) = cut.node_row field _ (expr_row 0 expr).whole
  prop_or_spread_row field (v_prop_or_spread.Prop it) = prop_row field it

  pub prop_row : (field : ℕ) (it : v_prop.Prop) → cut.Row field (prop_items field it)
  prop_row field (v_prop.Shorthand it) = ident_row r.Reference field it
  prop_row field (v_prop.KeyValueProp' key value) = cut.node_row field _ (cut.whole_and (held_prop_name_is_row 0 key).whole (expr_row 1 value).whole)
  prop_row field (v_prop.GetterProp' key _ stmts) = cut.node_row field _ (cut.whole_and (held_prop_name_is_row 0 key).whole (cut.node_row 1 _ (row_of_stmt_is_row 0 stmts).whole).whole)
  prop_row field (v_prop.SetterProp' key param _ stmts) = cut.node_row field _ (cut.whole_and (held_prop_name_is_row 0 key).whole (cut.whole_and (pat_row r.Binding 1 param).whole (cut.node_row 2 _ (row_of_stmt_is_row 0 stmts).whole).whole))
  prop_row field (v_prop.MethodProp' key _ params _ stmts is_generator is_async) = cut.node_row field _ (cut.whole_and (held_prop_name_is_row 0 key).whole (cut.node_row 1 _ (cut.whole_and (row_of_param_is_row 0 params).whole (cut.node_row 1 _ (row_of_stmt_is_row 0 stmts).whole).whole)).whole)

  pub held_prop_name_is_row : (field : ℕ) (it : block.Held-ClassMember-ClassMethod-0) → cut.Row field (held_prop_name field it)
  held_prop_name_is_row field (block.ClassMember-ClassMethod-0-IdentName' it) = ident_name_row field it
  held_prop_name_is_row field (block.Str' it) = str_row field it
  held_prop_name_is_row field (block.Number' it) = number_row field it
  held_prop_name_is_row field (block.BigInt' it) = big_int_row field it
  held_prop_name_is_row field (block.ClassMember-ClassMethod-0-ComputedPropName' _ expr) = cut.node_row field _ (expr_row 0 expr).whole

  pub held_member_prop_is_row : (field : ℕ) (it : block.Held-Expr-MemberExpr-0-7) → cut.Row field (held_member_prop field it)
  held_member_prop_is_row field (block.Expr-MemberExpr-0-7-IdentName' it) = ident_name_row field it
  held_member_prop_is_row field (block.Expr-MemberExpr-0-7-PrivateName' it) = private_name_row field it
  held_member_prop_is_row field (block.Expr-MemberExpr-0-7-ComputedPropName' _ expr) = cut.node_row field _ (expr_row 0 expr).whole

  pub held_super_prop_is_row : (field : ℕ) (it : block.Held-Expr-SuperPropExpr-0-4) → cut.Row field (held_super_prop field it)
  held_super_prop_is_row field (block.Expr-SuperPropExpr-0-4-IdentName' it) = ident_name_row field it
  held_super_prop_is_row field (block.Expr-SuperPropExpr-0-4-ComputedPropName' _ expr) = cut.node_row field _ (expr_row 0 expr).whole

  pub row_of_prop_or_spread_is_row : (field : ℕ) {n : _} (it : block.Row_of-PropOrSpread n) → cut.Row field (row_of_prop_or_spread field it)
  row_of_prop_or_spread_is_row field block.end_of-PropOrSpread = cut.nothing field
  row_of_prop_or_spread_is_row field (block.more_of-PropOrSpread it rest) = cut.and_then (prop_or_spread_row field it) (row_of_prop_or_spread_is_row field rest)

  pub pat_row : (role : Role) (field : ℕ) (it : v_pat.Pat) → cut.Row field (pat_items role field it)
  pat_row role field (v_pat.BindingIdent it) = binding_ident_row role field it
  pat_row role field (v_pat.ArrayPat' _ elems) = cut.node_row field _ (row_of_option_pat_is_row role 0 elems).whole
  pat_row role field (v_pat.RestPat' _ arg) = cut.node_row field _ (pat_row role 0 arg).whole
  pat_row role field (v_pat.ObjectPat' _ props) = cut.node_row field _ (row_of_object_pat_prop_is_row role 0 props).whole
  pat_row role field (v_pat.AssignPat' _ left _ right) = cut.node_row field _ (cut.whole_and (pat_row role 0 left).whole (expr_row 1 right).whole)
  pat_row role field (v_pat.Expr' _ it) = expr_row field it

  pub object_pat_prop_row : (role : Role) (field : ℕ) (it : v_object_pat_prop.ObjectPatProp) → cut.Row field (object_pat_prop_items role field it)
  object_pat_prop_row role field (v_object_pat_prop.KeyValuePatProp' key value) = cut.node_row field _ (cut.whole_and (held_prop_name_is_row 0 key).whole (pat_row role 1 value).whole)
  object_pat_prop_row role field (v_object_pat_prop.AssignPatProp' key value) = cut.node_row field _ (cut.whole_and (binding_ident_row role 0 key).whole (held_option_expr_is_row 1 value).whole)
  object_pat_prop_row role field (v_object_pat_prop.RestPat' _ arg) = cut.node_row field _ (pat_row role 0 arg).whole

  pub assign_target_row : (field : ℕ) (it : v_assign_target.AssignTarget) → cut.Row field (assign_target_items field it)
  assign_target_row field (v_assign_target.BindingIdent it) = binding_ident_row r.Reference field it
  assign_target_row field (v_assign_target.MemberExpr' _ obj prop) = cut.node_row field _ (cut.whole_and (expr_row 0 obj).whole (held_member_prop_is_row 1 prop).whole)
  assign_target_row field (v_assign_target.SuperPropExpr' prop) = cut.node_row field _ (held_super_prop_is_row 0 prop).whole
  assign_target_row field (v_assign_target.ParenExpr' _ expr) = cut.node_row field _ (expr_row 0 expr).whole
  assign_target_row field (v_assign_target.ArrayPat' _ elems) = cut.node_row field _ (row_of_option_pat_is_row r.Reference 0 elems).whole
  assign_target_row field (v_assign_target.ObjectPat' _ props) = cut.node_row field _ (row_of_object_pat_prop_is_row r.Reference 0 props).whole

  pub held_option_pat_is_row : (role : Role) (field : ℕ) (it : block.Held-AssignTarget-ArrayPat-0-1) → cut.Row field (held_option_pat role field it)
  held_option_pat_is_row role field block.AssignTarget-ArrayPat-0-1-None' = cut.nothing field
  held_option_pat_is_row role field (block.AssignTarget-ArrayPat-0-1-Some' it) = pat_row role field it

  pub place_of_pat_is_row : (role : Role) (field : ℕ) (it : block.Held-AssignTarget-ArrayPat-0-1) → cut.Row field (place_of_pat role field it)
  place_of_pat_is_row role field block.AssignTarget-ArrayPat-0-1-None' = cut.hole field
  place_of_pat_is_row role field (block.AssignTarget-ArrayPat-0-1-Some' it) = pat_row role field it

  pub row_of_pat_is_row : (role : Role) (field : ℕ) {n : _} (it : block.Row_of-Pat n) → cut.Row field (row_of_pat role field it)
  row_of_pat_is_row role field block.end_of-Pat = cut.nothing field
  row_of_pat_is_row role field (block.more_of-Pat it rest) = cut.and_then (pat_row role field it) (row_of_pat_is_row role field rest)

  pub row_of_option_pat_is_row : (role : Role) (field : ℕ) {n : _} (it : block.Row_of-AssignTarget-ArrayPat-0-1 n) → cut.Row field (row_of_option_pat role field it)
  row_of_option_pat_is_row role field block.end_of-AssignTarget-ArrayPat-0-1 = cut.nothing field
  row_of_option_pat_is_row role field (block.more_of-AssignTarget-ArrayPat-0-1 it rest) = cut.and_then (place_of_pat_is_row role field it) (row_of_option_pat_is_row role field rest)

  pub row_of_object_pat_prop_is_row : (role : Role) (field : ℕ) {n : _} (it : block.Row_of-ObjectPatProp n) → cut.Row field (row_of_object_pat_prop role field it)
  row_of_object_pat_prop_is_row role field block.end_of-ObjectPatProp = cut.nothing field
  row_of_object_pat_prop_is_row role field (block.more_of-ObjectPatProp it rest) = cut.and_then (object_pat_prop_row role field it) (row_of_object_pat_prop_is_row role field rest)

  pub class_member_row : (field : ℕ) (it : v_class_member.ClassMember) → cut.Row field (class_member_items field it)
  class_member_row field (v_class_member.Constructor' _ params _ stmts) = cut.node_row field _ (cut.whole_and (row_of_param_is_row 0 params).whole (cut.node_row 1 _ (row_of_stmt_is_row 0 stmts).whole).whole)
  class_member_row field (v_class_member.ClassMethod' key _ params _ stmts is_generator is_async kind is_static) = cut.node_row field _ (cut.whole_and (held_prop_name_is_row 0 key).whole (cut.node_row 1 _ (cut.whole_and (row_of_param_is_row 0 params).whole (cut.node_row 1 _ (row_of_stmt_is_row 0 stmts).whole).whole)).whole)
  class_member_row field (v_class_member.PrivateMethod' key _ params _ stmts is_generator is_async kind is_static) = cut.node_row field _ (cut.whole_and (private_name_row 0 key).whole (cut.node_row 1 _ (cut.whole_and (row_of_param_is_row 0 params).whole (cut.node_row 1 _ (row_of_stmt_is_row 0 stmts).whole).whole)).whole)
  class_member_row field (v_class_member.ClassProp' key value is_static) = cut.node_row field _ (cut.whole_and (held_prop_name_is_row 0 key).whole (held_option_expr_is_row 1 value).whole)
  class_member_row field (v_class_member.PrivateProp' key value is_static) = cut.node_row field _ (cut.whole_and (private_name_row 0 key).whole (held_option_expr_is_row 1 value).whole)
  class_member_row field (v_class_member.StaticBlock' _ stmts) = cut.node_row field _ (cut.node_row 0 _ (row_of_stmt_is_row 0 stmts).whole).whole
  class_member_row field v_class_member.EmptyStmt = cut.node_row field _ cut.no_nodes

  pub row_of_param_is_row : (field : ℕ) {n : _} (it : block.Row_of-ClassMember-Constructor-0-1 n) → cut.Row field (row_of_param field it)
  row_of_param_is_row field block.end_of-ClassMember-Constructor-0-1 = cut.nothing field
  row_of_param_is_row field (block.more_of-ClassMember-Constructor-0-1 pat rest) = cut.and_then (cut.node_row field _ (pat_row r.Binding 0 pat).whole) (row_of_param_is_row field rest)

  pub row_of_class_member_is_row : (field : ℕ) {n : _} (it : block.Row_of-ClassMember n) → cut.Row field (row_of_class_member field it)
  row_of_class_member_is_row field block.end_of-ClassMember = cut.nothing field
  row_of_class_member_is_row field (block.more_of-ClassMember it rest) = cut.and_then (class_member_row field it) (row_of_class_member_is_row field rest)
