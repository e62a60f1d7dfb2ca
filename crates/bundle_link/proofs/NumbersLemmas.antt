-- Numbers of a list, each once, one after another.
-- The list of every module is whole nodes in a node.
-- The end of a loop over two lists side by side.
use Rattle.std.proofs.Common.{◌≡◌, ℕ, zero, suc, ◌+◌, ◌<◌, List, [], ◌∷◌, ◌++◌, Some, length, get_or, take, refl, sym, ap, ◌∙◌, arith, inl, inr, true, subst, append_assoc, Contains, Option, None, string_bytes, ◌⊎◌, map, append-nil, length-append}
use Rattle.std.specs.Prelude.{slice_get}
use Rattle.std.proofs.lemmas.List.{take_more, length-map}
use Rattle.std.specs.List.{flat_map}
use Rattle.std.proofs.lemmas.Bool.{false≢true}
use Rattle.bundle_order_graph.specs.Nodes.{added}
use Rattle.bundle_syntax.specs.declared.piece.Role.{Role}
use Rattle.bundle_syntax.specs.Item as item
use Rattle.bundle_syntax.specs.Item.{Item}
use Rattle.bundle_syntax.specs.declared.ident.Ident as v_ident
use Rattle.bundle_syntax.specs.declared.ident.IdentName as v_ident_name
use Rattle.bundle_syntax.specs.declared.ident.PrivateName as v_private_name
use Rattle.bundle_syntax.specs.declared.ident.BindingIdent as v_binding_ident
use Rattle.bundle_syntax.specs.declared.lit.Str as v_str
use Rattle.bundle_syntax.specs.declared.lit.Number as v_number
use Rattle.bundle_syntax.specs.declared.lit.BigInt as v_big_int
use Rattle.bundle_syntax.specs.declared.lit.Regex as v_regex
use Rattle.bundle_syntax.specs.declared.lit.Lit as v_lit
use Rattle.bundle_syntax.specs.declared.lit.Lit.TheVariants as i_lit
use Rattle.bundle_syntax.specs.declared.lit.TplElement as v_tpl_element
use Rattle.bundle_syntax.specs.declared.specifier.ModuleExportName as v_module_export_name
use Rattle.bundle_syntax.specs.declared.specifier.ModuleExportName.TheVariants as i_module_export_name
use Rattle.bundle_syntax.specs.declared.specifier.ImportSpecifier as v_import_specifier
use Rattle.bundle_syntax.specs.declared.specifier.ImportSpecifier.TheVariants as i_import_specifier
use Rattle.bundle_syntax.specs.declared.specifier.ExportSpecifier as v_export_specifier
use Rattle.bundle_syntax.specs.declared.specifier.ExportSpecifier.TheVariants as i_export_specifier
use Rattle.bundle_syntax.specs.declared.piece.Role.TheVariants as r
use Rattle.bundle_rules.specs.Nodes.{numbers_once, begins_in, begins_with, side_by_side}
use Rattle.bundle_tree_ast.specs.declared.module.Module.{Module}
use Rattle.bundle_tree_ast.specs.declared.module.ModuleItem as v_module_item
use Rattle.bundle_tree_ast.specs.declared.module.ModuleItem.TheVariants as i_module_item
use Rattle.bundle_tree_ast.specs.declared.module.ModuleDecl as v_module_decl
use Rattle.bundle_tree_ast.specs.declared.module.ModuleDecl.TheVariants as i_module_decl
use Rattle.bundle_tree_ast.specs.declared.module.DefaultDecl as v_default_decl
use Rattle.bundle_tree_ast.specs.declared.module.DefaultDecl.TheVariants as i_default_decl
use Rattle.bundle_tree_ast.specs.declared.stmt.Stmt as v_stmt
use Rattle.bundle_tree_ast.specs.declared.stmt.ForInit as v_for_init
use Rattle.bundle_tree_ast.specs.declared.stmt.ForHead as v_for_head
use Rattle.bundle_tree_ast.specs.declared.decl.Decl as v_decl
use Rattle.bundle_tree_ast.specs.declared.expr.Expr as v_expr
use Rattle.bundle_tree_ast.specs.declared.expr.ArrowBody as v_arrow_body
use Rattle.bundle_tree_ast.specs.declared.prop.PropOrSpread as v_prop_or_spread
use Rattle.bundle_tree_ast.specs.declared.prop.Prop as v_prop
use Rattle.bundle_tree_ast.specs.declared.pat.Pat as v_pat
use Rattle.bundle_tree_ast.specs.declared.pat.ObjectPatProp as v_object_pat_prop
use Rattle.bundle_tree_ast.specs.declared.pat.AssignTarget as v_assign_target
use Rattle.bundle_tree_ast.specs.declared.class.Function as v_function
use Rattle.bundle_tree_ast.specs.declared.class.Class as v_class
use Rattle.bundle_tree_ast.specs.declared.class.ClassMember as v_class_member
use Rattle.bundle_tree_ast.specs.declared.class.ClassMember.TheBlock as block
use Rattle.bundle_tree_listed.specs.Tree.{ident_items, ident_name_items, private_name_items, binding_ident_items, str_items, number_items, big_int_items, regex_items, lit_items, tpl_element_items, stmt_items, for_init_items, for_head_items, held_option_boxed_stmt, held_option_block_stmt, held_option_catch_clause, held_option_for_init, row_of_stmt, row_of_switch_case, decl_items, row_of_var_declarator, expr_items, arrow_body_items, held_callee, held_opt_chain_base, held_option_expr, held_option_boxed_expr, place_of_expr_or_spread, held_option_each_expr_or_spread, row_of_expr, row_of_expr_or_spread, row_of_option_expr_or_spread, prop_or_spread_items, prop_items, held_prop_name, held_member_prop, held_super_prop, row_of_prop_or_spread, pat_items, object_pat_prop_items, assign_target_items, held_option_pat, place_of_pat, row_of_pat, row_of_option_pat, row_of_object_pat_prop, class_member_items, row_of_param, row_of_class_member, option_items, class_items, function_items, module_export_name_items, import_specifier_items, export_specifier_items, role_of_names, default_decl_items, module_decl_items, module_item_items, module_items}
use Rattle.bundle_link_index.proofs.ProgramLemmas.{first_or_later as there-cases}
use Rattle.bundle_link_index.proofs.AskedLemmas.{only_one as only-one}
use Rattle.bundle_link.proofs.NumberLemmas.{once-push}
use Rattle.bundle_link.specs.Nested.{AreNodes, nothing, hole, BeginsBound, is_import_specifier, HasSpecifiers}
use Rattle.bundle_link.proofs.LeadLemmas.{IsOne, join, each_nodes, in_node, one_name, one_node, one_member}

-- ---- numbers
pub there_is : {A : Type 0} (xs : List A) (i : ℕ) → i < length xs → (x : A) × (slice_get xs i ≡ Some x)
there_is [] i within = absurd (omega (arith, within))
there_is (x ∷ xs) zero within = (x, refl)
there_is (x ∷ xs) (suc i) within = there_is xs i (omega (arith, within))

pub once-next : (xs : List ℕ) (i x : ℕ) → i < length xs → x ≡ get_or xs i x → numbers_once (take (i + 1) xs) ≡ added (numbers_once (take i xs)) x
once-next xs i x within is = ap numbers_once (take_more xs i x within ∙ ap (λ y. take i xs ++ y ∷ []) (sym is)) ∙ once-push (take i xs) x

-- ---- tree nodes

-- what stands in an option
option_nodes : {A : Type 0} (items : A → List Item) → ((it : A) → AreNodes (items it)) → (it : Option A) → AreNodes (option_items items it)
option_nodes items each None = nothing
option_nodes items each (Some it) = each it

ident_one : (role : Role) (field : ℕ) (it : v_ident.Ident) → IsOne field (ident_items role field it)
ident_one role field it = one_name field _ _ role

ident_name_one : (field : ℕ) (it : v_ident_name.IdentName) → IsOne field (ident_name_items field it)
ident_name_one field it = one_node field _ nothing refl

private_name_one : (field : ℕ) (it : v_private_name.PrivateName) → IsOne field (private_name_items field it)
private_name_one field it = one_node field _ nothing tt

binding_ident_nodes : (role : Role) (field : ℕ) (it : v_binding_ident.BindingIdent) → AreNodes (binding_ident_items role field it)
binding_ident_nodes role field it = in_node field _ (ident_one role 0 it.id).nodes tt

str_one : (field : ℕ) (it : v_str.Str) → IsOne field (str_items field it)
str_one field it = one_node field _ nothing tt

number_one : (field : ℕ) (it : v_number.Number) → IsOne field (number_items field it)
number_one field it = one_node field _ nothing tt

big_int_one : (field : ℕ) (it : v_big_int.BigInt) → IsOne field (big_int_items field it)
big_int_one field it = one_node field _ nothing tt

regex_one : (field : ℕ) (it : v_regex.Regex) → IsOne field (regex_items field it)
regex_one field it = one_node field _ nothing tt

tpl_element_nodes : (field : ℕ) (it : v_tpl_element.TplElement) → AreNodes (tpl_element_items field it)
tpl_element_nodes field it = in_node field _ nothing tt

lit_one : (field : ℕ) (it : v_lit.Lit) → IsOne field (lit_items field it)
lit_one field (i_lit.Str it) = str_one field it
lit_one field (i_lit.Bool value) = one_node field _ nothing tt
lit_one field i_lit.Null = one_node field _ nothing tt
lit_one field (i_lit.Number it) = number_one field it
lit_one field (i_lit.BigInt it) = big_int_one field it
lit_one field (i_lit.Regex it) = regex_one field it

mutual
  unfolding stmt_items

  stmt_nodes : (field : ℕ) (it : v_stmt.Stmt) → AreNodes (stmt_items field it)
  stmt_nodes field (v_stmt.BlockStmt' _ stmts) = in_node field _ (row_of_stmt_nodes 0 stmts) tt
  stmt_nodes field v_stmt.EmptyStmt = in_node field _ nothing tt
  stmt_nodes field v_stmt.DebuggerStmt = in_node field _ nothing tt
  stmt_nodes field (v_stmt.WithStmt' obj _ body) = in_node field _ (join (expr_one 0 obj).nodes (stmt_nodes 1 body)) tt
  stmt_nodes field (v_stmt.ReturnStmt' arg) = in_node field _ (held_option_expr_nodes 0 arg) tt
  stmt_nodes field (v_stmt.LabeledStmt' label _ body) = in_node field _ (join (ident_name_one 0 label).nodes (stmt_nodes 1 body)) tt
  stmt_nodes field (v_stmt.BreakStmt label) = in_node field _ (option_nodes (ident_name_items 0) (λ it. (ident_name_one 0 it).nodes) label) tt
  stmt_nodes field (v_stmt.ContinueStmt label) = in_node field _ (option_nodes (ident_name_items 0) (λ it. (ident_name_one 0 it).nodes) label) tt
  stmt_nodes field (v_stmt.IfStmt' test _ cons alt) = in_node field _ (join (expr_one 0 test).nodes (join (stmt_nodes 1 cons) (held_option_boxed_stmt_nodes 2 alt))) tt
  stmt_nodes field (v_stmt.SwitchStmt' discriminant _ cases) = in_node field _ (join (expr_one 0 discriminant).nodes (row_of_switch_case_nodes 1 cases)) tt
  stmt_nodes field (v_stmt.ThrowStmt arg) = in_node field _ (expr_one 0 arg).nodes tt
  stmt_nodes field (v_stmt.TryStmt' _ stmts handler finalizer) = in_node field _ (join (in_node 0 _ (row_of_stmt_nodes 0 stmts) tt) (join (held_option_catch_clause_nodes 1 handler) (held_option_block_stmt_nodes 2 finalizer))) tt
  stmt_nodes field (v_stmt.WhileStmt' test _ body) = in_node field _ (join (expr_one 0 test).nodes (stmt_nodes 1 body)) tt
  stmt_nodes field (v_stmt.DoWhileStmt' _ body test) = in_node field _ (join (stmt_nodes 0 body) (expr_one 1 test).nodes) tt
  stmt_nodes field (v_stmt.ForStmt' init test update _ body) = in_node field _ (join (held_option_for_init_nodes 0 init) (join (held_option_expr_nodes 1 test) (join (held_option_expr_nodes 2 update) (stmt_nodes 3 body)))) tt
  stmt_nodes field (v_stmt.ForInStmt' left right _ body) = in_node field _ (join (for_head_nodes 0 left) (join (expr_one 1 right).nodes (stmt_nodes 2 body))) tt
  stmt_nodes field (v_stmt.ForOfStmt' is_await left right _ body) = in_node field _ (join (for_head_nodes 1 left) (join (expr_one 2 right).nodes (stmt_nodes 3 body))) tt
  stmt_nodes field (v_stmt.Decl it) = decl_nodes field it
  stmt_nodes field (v_stmt.ExprStmt expr) = in_node field _ (expr_one 0 expr).nodes tt

  for_init_nodes : (field : ℕ) (it : v_for_init.ForInit) → AreNodes (for_init_items field it)
  for_init_nodes field (v_for_init.VarDecl' kind _ decls meta) = in_node field _ (row_of_var_declarator_nodes 1 decls) tt
  for_init_nodes field (v_for_init.Expr it) = (expr_one field it).nodes

  for_head_nodes : (field : ℕ) (it : v_for_head.ForHead) → AreNodes (for_head_items field it)
  for_head_nodes field (v_for_head.VarDecl' kind _ decls meta) = in_node field _ (row_of_var_declarator_nodes 1 decls) tt
  for_head_nodes field (v_for_head.Pat it) = pat_nodes r.Reference field it

  held_option_boxed_stmt_nodes : (field : ℕ) (it : block.Held-Stmt-IfStmt-2) → AreNodes (held_option_boxed_stmt field it)
  held_option_boxed_stmt_nodes field block.Stmt-IfStmt-2-None' = nothing
  held_option_boxed_stmt_nodes field (block.Stmt-IfStmt-2-Some' _ it) = stmt_nodes field it

  held_option_block_stmt_nodes : (field : ℕ) (it : block.Held-Stmt-TryStmt-2) → AreNodes (held_option_block_stmt field it)
  held_option_block_stmt_nodes field block.Stmt-TryStmt-2-None' = nothing
  held_option_block_stmt_nodes field (block.Stmt-TryStmt-2-Some' _ stmts) = in_node field _ (row_of_stmt_nodes 0 stmts) tt

  held_option_catch_clause_nodes : (field : ℕ) (it : block.Held-Stmt-TryStmt-1) → AreNodes (held_option_catch_clause field it)
  held_option_catch_clause_nodes field block.Stmt-TryStmt-1-None' = nothing
  held_option_catch_clause_nodes field (block.Stmt-TryStmt-1-Some' param _ stmts) = in_node field _ (join (held_option_pat_nodes r.Binding 0 param) (in_node 1 _ (row_of_stmt_nodes 0 stmts) tt)) tt

  held_option_for_init_nodes : (field : ℕ) (it : block.Held-Stmt-ForStmt-0) → AreNodes (held_option_for_init field it)
  held_option_for_init_nodes field block.Stmt-ForStmt-0-None' = nothing
  held_option_for_init_nodes field (block.Stmt-ForStmt-0-Some' it) = for_init_nodes field it

  row_of_stmt_nodes : (field : ℕ) {n : _} (it : block.Row_of-Stmt n) → AreNodes (row_of_stmt field it)
  row_of_stmt_nodes field block.end_of-Stmt = nothing
  row_of_stmt_nodes field (block.more_of-Stmt it rest) = join (stmt_nodes field it) (row_of_stmt_nodes field rest)

  row_of_switch_case_nodes : (field : ℕ) {n : _} (it : block.Row_of-SwitchCase n) → AreNodes (row_of_switch_case field it)
  row_of_switch_case_nodes field block.end_of-SwitchCase = nothing
  row_of_switch_case_nodes field (block.more_of-SwitchCase test _ cons rest) = join (in_node field _ (join (held_option_expr_nodes 0 test) (row_of_stmt_nodes 1 cons)) tt) (row_of_switch_case_nodes field rest)

  decl_nodes : (field : ℕ) (it : v_decl.Decl) → AreNodes (decl_items field it)
  decl_nodes field (v_decl.ClassDecl' ident super_class _ body) = in_node field _ (join (ident_one r.Binding 0 ident).nodes (in_node 1 _ (join (held_option_boxed_expr_nodes 0 super_class) (row_of_class_member_nodes 1 body)) tt)) tt
  decl_nodes field (v_decl.FnDecl' ident _ params _ stmts is_generator is_async) = in_node field _ (join (ident_one r.Binding 0 ident).nodes (in_node 1 _ (join (row_of_param_nodes 0 params) (in_node 1 _ (row_of_stmt_nodes 0 stmts) tt)) tt)) tt
  decl_nodes field (v_decl.VarDecl' kind _ decls meta) = in_node field _ (row_of_var_declarator_nodes 1 decls) tt

  row_of_var_declarator_nodes : (field : ℕ) {n : _} (it : block.Row_of-VarDeclarator n) → AreNodes (row_of_var_declarator field it)
  row_of_var_declarator_nodes field block.end_of-VarDeclarator = nothing
  row_of_var_declarator_nodes field (block.more_of-VarDeclarator name init rest) = join (in_node field _ (join (pat_nodes r.Binding 0 name) (held_option_expr_nodes 1 init)) tt) (row_of_var_declarator_nodes field rest)

  expr_one : (field : ℕ) (it : v_expr.Expr) → IsOne field (expr_items field it)
  expr_one field v_expr.ThisExpr = one_node field _ nothing tt
  expr_one field (v_expr.ArrayLit' _ elems) = one_node field _ (row_of_option_expr_or_spread_nodes 0 elems) tt
  expr_one field (v_expr.ObjectLit' _ props) = one_node field _ (row_of_prop_or_spread_nodes 0 props) tt
  expr_one field (v_expr.FnExpr' ident _ params _ stmts is_generator is_async) = one_node field _ (join (option_nodes (ident_items r.Binding 0) (λ it. (ident_one r.Binding 0 it).nodes) ident) (in_node 1 _ (join (row_of_param_nodes 0 params) (in_node 1 _ (row_of_stmt_nodes 0 stmts) tt)) tt)) tt
  expr_one field (v_expr.UnaryExpr' op _ arg) = one_node field _ (expr_one 1 arg).nodes tt
  expr_one field (v_expr.UpdateExpr' op prefix _ arg) = one_node field _ (expr_one 2 arg).nodes tt
  expr_one field (v_expr.BinExpr' op _ left _ right) = one_node field _ (join (expr_one 1 left).nodes (expr_one 2 right).nodes) tt
  expr_one field (v_expr.AssignExpr' op left _ right) = one_node field _ (join (assign_target_nodes 1 left) (expr_one 2 right).nodes) tt
  expr_one field (v_expr.MemberExpr' _ obj prop) = one_member field (expr_one 0 obj) (held_member_prop_one 1 prop)
  expr_one field (v_expr.SuperPropExpr' prop) = one_node field _ (held_super_prop_nodes 0 prop) tt
  expr_one field (v_expr.CondExpr' _ test _ cons _ alt) = one_node field _ (join (expr_one 0 test).nodes (join (expr_one 1 cons).nodes (expr_one 2 alt).nodes)) tt
  expr_one field (v_expr.CallExpr' callee _ args) = one_node field _ (join (held_callee_nodes 0 callee) (row_of_expr_or_spread_nodes 1 args)) tt
  expr_one field (v_expr.NewExpr' _ callee args) = one_node field _ (join (expr_one 0 callee).nodes (held_option_each_expr_or_spread_nodes 1 args)) tt
  expr_one field (v_expr.SeqExpr' _ exprs) = one_node field _ (row_of_expr_nodes 0 exprs) tt
  expr_one field (v_expr.Ident it) = ident_one r.Reference field it
  expr_one field (v_expr.Lit it) = lit_one field it
  expr_one field (v_expr.Tpl' _ exprs quasis) = one_node field _ (join (row_of_expr_nodes 0 exprs) (each_nodes (tpl_element_items 1) (λ it. tpl_element_nodes 1 it) quasis.items)) tt
  expr_one field (v_expr.TaggedTpl' _ tag _ exprs quasis) = one_node field _ (join (expr_one 0 tag).nodes (in_node 1 _ (join (row_of_expr_nodes 0 exprs) (each_nodes (tpl_element_items 1) (λ it. tpl_element_nodes 1 it) quasis.items)) tt)) tt
  expr_one field (v_expr.ArrowExpr' _ params body is_async) = one_node field _ (join (row_of_pat_nodes r.Binding 0 params) (arrow_body_nodes 1 body)) tt
  expr_one field (v_expr.ClassExpr' ident super_class _ body) = one_node field _ (join (option_nodes (ident_items r.Binding 0) (λ it. (ident_one r.Binding 0 it).nodes) ident) (in_node 1 _ (join (held_option_boxed_expr_nodes 0 super_class) (row_of_class_member_nodes 1 body)) tt)) tt
  expr_one field (v_expr.YieldExpr' arg delegate) = one_node field _ (held_option_boxed_expr_nodes 0 arg) tt
  expr_one field (v_expr.MetaPropExpr kind) = one_node field _ nothing refl
  expr_one field (v_expr.AwaitExpr' _ arg) = one_node field _ (expr_one 0 arg).nodes tt
  expr_one field (v_expr.ParenExpr' _ expr) = one_node field _ (expr_one 0 expr).nodes tt
  expr_one field (v_expr.PrivateName it) = private_name_one field it
  expr_one field (v_expr.OptChainExpr' optional base) = one_node field _ (held_opt_chain_base_nodes 1 base) tt

  arrow_body_nodes : (field : ℕ) (it : v_arrow_body.ArrowBody) → AreNodes (arrow_body_items field it)
  arrow_body_nodes field (v_arrow_body.BlockStmt' _ stmts) = in_node field _ (row_of_stmt_nodes 0 stmts) tt
  arrow_body_nodes field (v_arrow_body.Expr' _ it) = (expr_one field it).nodes

  held_callee_nodes : (field : ℕ) (it : block.Held-Expr-CallExpr-0) → AreNodes (held_callee field it)
  held_callee_nodes field block.Super' = in_node field _ nothing tt
  held_callee_nodes field block.Import' = in_node field _ nothing tt
  held_callee_nodes field (block.Expr-CallExpr-0-Expr' _ it) = (expr_one field it).nodes

  held_opt_chain_base_nodes : (field : ℕ) (it : block.Held-Expr-OptChainExpr-1) → AreNodes (held_opt_chain_base field it)
  held_opt_chain_base_nodes field (block.Expr-OptChainExpr-1-MemberExpr' _ obj prop) = (one_member field (expr_one 0 obj) (held_member_prop_one 1 prop)).nodes
  held_opt_chain_base_nodes field (block.OptCall' _ callee _ args) = in_node field _ (join (expr_one 0 callee).nodes (row_of_expr_or_spread_nodes 1 args)) tt

  held_option_expr_nodes : (field : ℕ) (it : block.Held-ClassMember-ClassProp-1) → AreNodes (held_option_expr field it)
  held_option_expr_nodes field block.ClassMember-ClassProp-1-None' = nothing
  held_option_expr_nodes field (block.ClassMember-ClassProp-1-Some' it) = (expr_one field it).nodes

  held_option_boxed_expr_nodes : (field : ℕ) (it : block.Held-Expr-YieldExpr-0) → AreNodes (held_option_boxed_expr field it)
  held_option_boxed_expr_nodes field block.Expr-YieldExpr-0-None' = nothing
  held_option_boxed_expr_nodes field (block.Expr-YieldExpr-0-Some' _ it) = (expr_one field it).nodes

  place_of_expr_or_spread_nodes : (field : ℕ) (it : block.Held-Expr-ArrayLit-0-3) → AreNodes (place_of_expr_or_spread field it)
  place_of_expr_or_spread_nodes field block.Expr-ArrayLit-0-3-None' = hole nothing
  place_of_expr_or_spread_nodes field (block.Expr-ArrayLit-0-3-Some' spread expr) = in_node field _ (expr_one 1 expr).nodes tt

  held_option_each_expr_or_spread_nodes : (field : ℕ) (it : block.Held-Expr-NewExpr-1) → AreNodes (held_option_each_expr_or_spread field it)
  held_option_each_expr_or_spread_nodes field block.Expr-NewExpr-1-None' = nothing
  held_option_each_expr_or_spread_nodes field (block.Expr-NewExpr-1-Some' _ row) = row_of_expr_or_spread_nodes field row

  row_of_expr_nodes : (field : ℕ) {n : _} (it : block.Row_of-Expr n) → AreNodes (row_of_expr field it)
  row_of_expr_nodes field block.end_of-Expr = nothing
  row_of_expr_nodes field (block.more_of-Expr it rest) = join (expr_one field it).nodes (row_of_expr_nodes field rest)

  row_of_expr_or_spread_nodes : (field : ℕ) {n : _} (it : block.Row_of-Expr-CallExpr-1-2 n) → AreNodes (row_of_expr_or_spread field it)
  row_of_expr_or_spread_nodes field block.end_of-Expr-CallExpr-1-2 = nothing
  row_of_expr_or_spread_nodes field (block.more_of-Expr-CallExpr-1-2 spread expr rest) = join (in_node field _ (expr_one 1 expr).nodes tt) (row_of_expr_or_spread_nodes field rest)

  row_of_option_expr_or_spread_nodes : (field : ℕ) {n : _} (it : block.Row_of-Expr-ArrayLit-0-3 n) → AreNodes (row_of_option_expr_or_spread field it)
  row_of_option_expr_or_spread_nodes field block.end_of-Expr-ArrayLit-0-3 = nothing
  row_of_option_expr_or_spread_nodes field (block.more_of-Expr-ArrayLit-0-3 it rest) = join (place_of_expr_or_spread_nodes field it) (row_of_option_expr_or_spread_nodes field rest)

  prop_or_spread_nodes : (field : ℕ) (it : v_prop_or_spread.PropOrSpread) → AreNodes (prop_or_spread_items field it)
  prop_or_spread_nodes field (v_prop_or_spread.SpreadElement expr) = in_node field _ (expr_one 0 expr).nodes tt
  prop_or_spread_nodes field (v_prop_or_spread.Prop it) = prop_nodes field it

  prop_nodes : (field : ℕ) (it : v_prop.Prop) → AreNodes (prop_items field it)
  prop_nodes field (v_prop.Shorthand it) = (ident_one r.Reference field it).nodes
  prop_nodes field (v_prop.KeyValueProp' key value) = in_node field _ (join (held_prop_name_nodes 0 key) (expr_one 1 value).nodes) tt
  prop_nodes field (v_prop.GetterProp' key _ stmts) = in_node field _ (join (held_prop_name_nodes 0 key) (in_node 1 _ (row_of_stmt_nodes 0 stmts) tt)) tt
  prop_nodes field (v_prop.SetterProp' key param _ stmts) = in_node field _ (join (held_prop_name_nodes 0 key) (join (pat_nodes r.Binding 1 param) (in_node 2 _ (row_of_stmt_nodes 0 stmts) tt))) tt
  prop_nodes field (v_prop.MethodProp' key _ params _ stmts is_generator is_async) = in_node field _ (join (held_prop_name_nodes 0 key) (in_node 1 _ (join (row_of_param_nodes 0 params) (in_node 1 _ (row_of_stmt_nodes 0 stmts) tt)) tt)) tt

  held_prop_name_nodes : (field : ℕ) (it : block.Held-ClassMember-ClassMethod-0) → AreNodes (held_prop_name field it)
  held_prop_name_nodes field (block.ClassMember-ClassMethod-0-IdentName' it) = (ident_name_one field it).nodes
  held_prop_name_nodes field (block.Str' it) = (str_one field it).nodes
  held_prop_name_nodes field (block.Number' it) = (number_one field it).nodes
  held_prop_name_nodes field (block.BigInt' it) = (big_int_one field it).nodes
  held_prop_name_nodes field (block.ClassMember-ClassMethod-0-ComputedPropName' _ expr) = in_node field _ (expr_one 0 expr).nodes tt

  held_member_prop_one : (field : ℕ) (it : block.Held-Expr-MemberExpr-0-7) → IsOne field (held_member_prop field it)
  held_member_prop_one field (block.Expr-MemberExpr-0-7-IdentName' it) = ident_name_one field it
  held_member_prop_one field (block.Expr-MemberExpr-0-7-PrivateName' it) = private_name_one field it
  held_member_prop_one field (block.Expr-MemberExpr-0-7-ComputedPropName' _ expr) = one_node field _ (expr_one 0 expr).nodes tt

  held_super_prop_nodes : (field : ℕ) (it : block.Held-Expr-SuperPropExpr-0-4) → AreNodes (held_super_prop field it)
  held_super_prop_nodes field (block.Expr-SuperPropExpr-0-4-IdentName' it) = (ident_name_one field it).nodes
  held_super_prop_nodes field (block.Expr-SuperPropExpr-0-4-ComputedPropName' _ expr) = in_node field _ (expr_one 0 expr).nodes tt

  row_of_prop_or_spread_nodes : (field : ℕ) {n : _} (it : block.Row_of-PropOrSpread n) → AreNodes (row_of_prop_or_spread field it)
  row_of_prop_or_spread_nodes field block.end_of-PropOrSpread = nothing
  row_of_prop_or_spread_nodes field (block.more_of-PropOrSpread it rest) = join (prop_or_spread_nodes field it) (row_of_prop_or_spread_nodes field rest)

  pat_nodes : (role : Role) (field : ℕ) (it : v_pat.Pat) → AreNodes (pat_items role field it)
  pat_nodes role field (v_pat.BindingIdent it) = binding_ident_nodes role field it
  pat_nodes role field (v_pat.ArrayPat' _ elems) = in_node field _ (row_of_option_pat_nodes role 0 elems) tt
  pat_nodes role field (v_pat.RestPat' _ arg) = in_node field _ (pat_nodes role 0 arg) tt
  pat_nodes role field (v_pat.ObjectPat' _ props) = in_node field _ (row_of_object_pat_prop_nodes role 0 props) tt
  pat_nodes role field (v_pat.AssignPat' _ left _ right) = in_node field _ (join (pat_nodes role 0 left) (expr_one 1 right).nodes) tt
  pat_nodes role field (v_pat.Expr' _ it) = (expr_one field it).nodes

  object_pat_prop_nodes : (role : Role) (field : ℕ) (it : v_object_pat_prop.ObjectPatProp) → AreNodes (object_pat_prop_items role field it)
  object_pat_prop_nodes role field (v_object_pat_prop.KeyValuePatProp' key value) = in_node field _ (join (held_prop_name_nodes 0 key) (pat_nodes role 1 value)) tt
  object_pat_prop_nodes role field (v_object_pat_prop.AssignPatProp' key value) = in_node field _ (join (binding_ident_nodes role 0 key) (held_option_expr_nodes 1 value)) tt
  object_pat_prop_nodes role field (v_object_pat_prop.RestPat' _ arg) = in_node field _ (pat_nodes role 0 arg) tt

  assign_target_nodes : (field : ℕ) (it : v_assign_target.AssignTarget) → AreNodes (assign_target_items field it)
  assign_target_nodes field (v_assign_target.BindingIdent it) = binding_ident_nodes r.Reference field it
  assign_target_nodes field (v_assign_target.MemberExpr' _ obj prop) = (one_member field (expr_one 0 obj) (held_member_prop_one 1 prop)).nodes
  assign_target_nodes field (v_assign_target.SuperPropExpr' prop) = in_node field _ (held_super_prop_nodes 0 prop) tt
  assign_target_nodes field (v_assign_target.ParenExpr' _ expr) = in_node field _ (expr_one 0 expr).nodes tt
  assign_target_nodes field (v_assign_target.ArrayPat' _ elems) = in_node field _ (row_of_option_pat_nodes r.Reference 0 elems) tt
  assign_target_nodes field (v_assign_target.ObjectPat' _ props) = in_node field _ (row_of_object_pat_prop_nodes r.Reference 0 props) tt

  held_option_pat_nodes : (role : Role) (field : ℕ) (it : block.Held-AssignTarget-ArrayPat-0-1) → AreNodes (held_option_pat role field it)
  held_option_pat_nodes role field block.AssignTarget-ArrayPat-0-1-None' = nothing
  held_option_pat_nodes role field (block.AssignTarget-ArrayPat-0-1-Some' it) = pat_nodes role field it

  place_of_pat_nodes : (role : Role) (field : ℕ) (it : block.Held-AssignTarget-ArrayPat-0-1) → AreNodes (place_of_pat role field it)
  place_of_pat_nodes role field block.AssignTarget-ArrayPat-0-1-None' = hole nothing
  place_of_pat_nodes role field (block.AssignTarget-ArrayPat-0-1-Some' it) = pat_nodes role field it

  row_of_pat_nodes : (role : Role) (field : ℕ) {n : _} (it : block.Row_of-Pat n) → AreNodes (row_of_pat role field it)
  row_of_pat_nodes role field block.end_of-Pat = nothing
  row_of_pat_nodes role field (block.more_of-Pat it rest) = join (pat_nodes role field it) (row_of_pat_nodes role field rest)

  row_of_option_pat_nodes : (role : Role) (field : ℕ) {n : _} (it : block.Row_of-AssignTarget-ArrayPat-0-1 n) → AreNodes (row_of_option_pat role field it)
  row_of_option_pat_nodes role field block.end_of-AssignTarget-ArrayPat-0-1 = nothing
  row_of_option_pat_nodes role field (block.more_of-AssignTarget-ArrayPat-0-1 it rest) = join (place_of_pat_nodes role field it) (row_of_option_pat_nodes role field rest)

  row_of_object_pat_prop_nodes : (role : Role) (field : ℕ) {n : _} (it : block.Row_of-ObjectPatProp n) → AreNodes (row_of_object_pat_prop role field it)
  row_of_object_pat_prop_nodes role field block.end_of-ObjectPatProp = nothing
  row_of_object_pat_prop_nodes role field (block.more_of-ObjectPatProp it rest) = join (object_pat_prop_nodes role field it) (row_of_object_pat_prop_nodes role field rest)

  class_member_nodes : (field : ℕ) (it : v_class_member.ClassMember) → AreNodes (class_member_items field it)
  class_member_nodes field (v_class_member.Constructor' _ params _ stmts) = in_node field _ (join (row_of_param_nodes 0 params) (in_node 1 _ (row_of_stmt_nodes 0 stmts) tt)) tt
  class_member_nodes field (v_class_member.ClassMethod' key _ params _ stmts is_generator is_async kind is_static) = in_node field _ (join (held_prop_name_nodes 0 key) (in_node 1 _ (join (row_of_param_nodes 0 params) (in_node 1 _ (row_of_stmt_nodes 0 stmts) tt)) tt)) tt
  class_member_nodes field (v_class_member.PrivateMethod' key _ params _ stmts is_generator is_async kind is_static) = in_node field _ (join (private_name_one 0 key).nodes (in_node 1 _ (join (row_of_param_nodes 0 params) (in_node 1 _ (row_of_stmt_nodes 0 stmts) tt)) tt)) tt
  class_member_nodes field (v_class_member.ClassProp' key value is_static) = in_node field _ (join (held_prop_name_nodes 0 key) (held_option_expr_nodes 1 value)) tt
  class_member_nodes field (v_class_member.PrivateProp' key value is_static) = in_node field _ (join (private_name_one 0 key).nodes (held_option_expr_nodes 1 value)) tt
  class_member_nodes field (v_class_member.StaticBlock' _ stmts) = in_node field _ (in_node 0 _ (row_of_stmt_nodes 0 stmts) tt) tt
  class_member_nodes field v_class_member.EmptyStmt = in_node field _ nothing tt

  row_of_param_nodes : (field : ℕ) {n : _} (it : block.Row_of-ClassMember-Constructor-0-1 n) → AreNodes (row_of_param field it)
  row_of_param_nodes field block.end_of-ClassMember-Constructor-0-1 = nothing
  row_of_param_nodes field (block.more_of-ClassMember-Constructor-0-1 pat rest) = join (in_node field _ (pat_nodes r.Binding 0 pat) tt) (row_of_param_nodes field rest)

  row_of_class_member_nodes : (field : ℕ) {n : _} (it : block.Row_of-ClassMember n) → AreNodes (row_of_class_member field it)
  row_of_class_member_nodes field block.end_of-ClassMember = nothing
  row_of_class_member_nodes field (block.more_of-ClassMember it rest) = join (class_member_nodes field it) (row_of_class_member_nodes field rest)

class_nodes : (field : ℕ) (it : v_class.Class) → AreNodes (class_items field it)
class_nodes field it = in_node field _ (join (held_option_boxed_expr_nodes 0 (block.back-Expr-YieldExpr-0 it.super_class)) (row_of_class_member_nodes 1 (block.hidden-the_row-ClassMember-2 it.body))) tt

function_nodes : (field : ℕ) (it : v_function.Function) → AreNodes (function_items field it)
function_nodes field it = in_node field _ (join (row_of_param_nodes 0 (block.hidden-the_row-ClassMember-Constructor-0-1-0 it.params)) (in_node 1 item.BlockStmt (row_of_stmt_nodes 0 (block.hidden-the_row-Stmt-1 it.body.stmts)) tt)) tt

-- Modules, imports and exports.

module_export_name_nodes : (role : Role) (field : ℕ) (it : v_module_export_name.ModuleExportName) → AreNodes (module_export_name_items role field it)
module_export_name_nodes role field (i_module_export_name.Ident it) = (ident_one role field it).nodes
module_export_name_nodes role field (i_module_export_name.Str it) = (str_one field it).nodes

other_name_nodes : (it : Option v_module_export_name.ModuleExportName) → AreNodes (option_items (module_export_name_items r.Word 1) it)
other_name_nodes it = option_nodes (module_export_name_items r.Word 1) (module_export_name_nodes r.Word 1) it

-- the local name in front of what else stands in a specifier
local_name : (local : v_ident.Ident) (rest : List Item) → BeginsBound (ident_items r.Binding 0 local ++ rest)
local_name local rest = record { sym = string_bytes local.sym; ctxt = local.ctxt; rest = rest; is = refl }

import_specifier_one : (field : ℕ) (it : v_import_specifier.ImportSpecifier) → IsOne field (import_specifier_items field it)
import_specifier_one field (i_import_specifier.ImportNamedSpecifier local imported) = one_node field _ (join (ident_one r.Binding 0 local).nodes (other_name_nodes imported)) (local_name local (option_items (module_export_name_items r.Word 1) imported))
import_specifier_one field (i_import_specifier.ImportDefaultSpecifier local) = one_node field _ (ident_one r.Binding 0 local).nodes (local_name local [])
import_specifier_one field (i_import_specifier.ImportStarAsSpecifier local) = one_node field _ (ident_one r.Binding 0 local).nodes (local_name local [])

import_specifier_begins : (field : ℕ) (it : v_import_specifier.ImportSpecifier) → begins_with is_import_specifier (import_specifier_items field it) ≡ true
import_specifier_begins field (i_import_specifier.ImportNamedSpecifier local imported) = refl
import_specifier_begins field (i_import_specifier.ImportDefaultSpecifier local) = refl
import_specifier_begins field (i_import_specifier.ImportStarAsSpecifier local) = refl

-- in front of the source stand specifiers
specifiers_in_front : (list : List v_import_specifier.ImportSpecifier) (src : v_str.Str) → HasSpecifiers (flat_map (import_specifier_items 0) list ++ str_items 1 src)
specifiers_in_front [] src part there begins = absurd (false≢true (ap (begins_in 0) (only-one (str_items 1 src) part there) ∙ begins))
specifiers_in_front (it ∷ list) src part there begins =
    let rest : List Item = flat_map (import_specifier_items 0) list ++ str_items 1 src in
    let sides : side_by_side zero ((import_specifier_items 0 it ++ flat_map (import_specifier_items 0) list) ++ str_items 1 src) ≡ import_specifier_items 0 it ∷ side_by_side zero rest = ap (side_by_side zero) (append_assoc (import_specifier_items 0 it) (flat_map (import_specifier_items 0) list) (str_items 1 src)) ∙ (import_specifier_one 0 it).beside rest in
    elim (there-cases (import_specifier_items 0 it) (side_by_side zero rest) part (subst (λ nodes. Contains nodes part) sides there)) [
      | inl same ↦ ap (begins_with is_import_specifier) (sym same) ∙ import_specifier_begins 0 it
      | inr more ↦ specifiers_in_front list src part more begins
    ]

export_specifier_nodes : (role : Role) (field : ℕ) (it : v_export_specifier.ExportSpecifier) → AreNodes (export_specifier_items role field it)
export_specifier_nodes role field (i_export_specifier.ExportNamespaceSpecifier name) = in_node field _ (module_export_name_nodes r.Word 0 name) tt
export_specifier_nodes role field (i_export_specifier.ExportNamedSpecifier orig exported) = in_node field _ (join (module_export_name_nodes role 0 orig) (other_name_nodes exported)) tt

own_name_nodes : (it : Option v_ident.Ident) → AreNodes (option_items (ident_items r.Binding 0) it)
own_name_nodes it = option_nodes (ident_items r.Binding 0) (λ name. (ident_one r.Binding 0 name).nodes) it

default_decl_nodes : (field : ℕ) (it : v_default_decl.DefaultDecl) → AreNodes (default_decl_items field it)
default_decl_nodes field (i_default_decl.ClassExpr name class) = in_node field _ (join (own_name_nodes name) (class_nodes 1 class)) tt
default_decl_nodes field (i_default_decl.FnExpr name function) = in_node field _ (join (own_name_nodes name) (function_nodes 1 function)) tt

source_nodes : (it : Option v_str.Str) → AreNodes (option_items (str_items 1) it)
source_nodes it = option_nodes (str_items 1) (λ source. (str_one 1 source).nodes) it

exports_nodes : (role : Role) (list : List v_export_specifier.ExportSpecifier) → AreNodes (flat_map (export_specifier_items role 0) list)
exports_nodes role list = each_nodes (export_specifier_items role 0) (export_specifier_nodes role 0) list

module_decl_nodes : (field : ℕ) (it : v_module_decl.ModuleDecl) → AreNodes (module_decl_items field it)
module_decl_nodes field (i_module_decl.ImportDecl specifiers src meta) = in_node field _ (join (each_nodes (import_specifier_items 0) (λ it. (import_specifier_one 0 it).nodes) specifiers.items) (str_one 1 src).nodes) (specifiers_in_front specifiers.items src)
module_decl_nodes field (i_module_decl.ExportDecl decl) = in_node field _ (decl_nodes 0 decl) tt
module_decl_nodes field (i_module_decl.NamedExport specifiers src meta) = in_node field _ (join (exports_nodes (role_of_names src) specifiers.items) (source_nodes src)) tt
module_decl_nodes field (i_module_decl.ExportDefaultDecl decl) = in_node field _ (default_decl_nodes 0 decl) tt
module_decl_nodes field (i_module_decl.ExportDefaultExpr expr) = in_node field _ (expr_one 0 expr).nodes tt
module_decl_nodes field (i_module_decl.ExportAll src meta) = in_node field _ (str_one 0 src).nodes tt

module_item_nodes : (field : ℕ) (it : v_module_item.ModuleItem) → AreNodes (module_item_items field it)
module_item_nodes field (i_module_item.ModuleDecl it) = module_decl_nodes field it
module_item_nodes field (i_module_item.Stmt it) = stmt_nodes field it

-- the list of every module is whole nodes in a node
pub module-nodes : (it : Module) → (inside : List Item) × (module_items 0 it ≡ item.Open 0 item.Module ∷ (inside ++ item.Close ∷ [])) × AreNodes inside
module-nodes it = (flat_map (module_item_items 0) it.body.items, refl, each_nodes (module_item_items 0) (module_item_nodes 0) it.body.items)

-- ---- zip
nil_from : {A : Type 0} (xs : List A) → length xs ≡ 0 → xs ≡ []
nil_from [] none = refl
nil_from (x ∷ xs) none = absurd (omega (arith, none))

module _ {A B C D : Type 0} (f : A → C) (g : B → C) (h : A → D) (done : List A) (rest all : List B) (more every : List D)
    (so_far : map f done ++ map g rest ≡ map g all) (so_far_too : map h done ++ more ≡ every) (ended : (length rest ≡ 0) ⊎ (length more ≡ 0)) (long : length every ≡ length all) where
  first_long : length done + length rest ≡ length all
  first_long = omega (arith, ap length so_far, length-append (map f done) (map g rest), length-map done f, length-map rest g, length-map all g)

  second_long : length done + length more ≡ length every
  second_long = omega (arith, ap length so_far_too, length-append (map h done) more, length-map done h)

  rest_none : rest ≡ []
  rest_none = elim ended [
    | inl none ↦ nil_from rest none
    | inr none ↦ nil_from rest (omega (arith, first_long, second_long, none, long))
  ]

  more_none : more ≡ []
  more_none = nil_from more (omega (arith, first_long, second_long, ap length rest_none, long))

  pub first_all : map f done ≡ map g all
  first_all = sym (append-nil (map f done)) ∙ ap (λ l. map f done ++ map g l) (sym rest_none) ∙ so_far

  pub second_all : map h done ≡ every
  second_all = sym (append-nil (map h done)) ∙ ap (λ l. map h done ++ l) (sym more_none) ∙ so_far_too
