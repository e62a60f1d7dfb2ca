-- In the list of each syntax tree each field holds what may stand there: one clause for each kind of node.
use Rattle.std.proofs.Common.{◌≡◌, ℕ, true, false, refl, sym, subst, List, [], ◌∷◌, ◌++◌, append-nil, Option, Some, None, option_map, string_bytes}
use Rattle.std.specs.List.{flat_map}
use Rattle.bundle_syntax.specs.declared.ident.Ident as v_ident
use Rattle.bundle_syntax.specs.declared.ident.IdentName as v_ident_name
use Rattle.bundle_syntax.specs.declared.ident.PrivateName as v_private_name
use Rattle.bundle_syntax.specs.declared.ident.BindingIdent as v_binding_ident
use Rattle.bundle_syntax.specs.declared.lit.Str as v_str
use Rattle.bundle_syntax.specs.declared.lit.Lit as v_lit
use Rattle.bundle_syntax.specs.declared.lit.Lit.TheVariants as i_lit
use Rattle.bundle_syntax.specs.declared.lit.TplElement as v_tpl_element
use Rattle.bundle_syntax.specs.declared.specifier.ModuleExportName as v_module_export_name
use Rattle.bundle_syntax.specs.declared.specifier.ModuleExportName.TheVariants as i_module_export_name
use Rattle.bundle_syntax.specs.declared.specifier.ImportSpecifier as v_import_specifier
use Rattle.bundle_syntax.specs.declared.specifier.ImportSpecifier.TheVariants as i_import_specifier
use Rattle.bundle_syntax.specs.declared.specifier.ExportSpecifier as v_export_specifier
use Rattle.bundle_syntax.specs.declared.specifier.ExportSpecifier.TheVariants as i_export_specifier
use Rattle.bundle_tree_ast.specs.declared.module.Module as v_module
use Rattle.bundle_tree_ast.specs.declared.module.ModuleItem as v_module_item
use Rattle.bundle_tree_ast.specs.declared.module.ModuleItem.TheVariants as i_module_item
use Rattle.bundle_tree_ast.specs.declared.module.ModuleDecl as v_module_decl
use Rattle.bundle_tree_ast.specs.declared.module.ModuleDecl.TheVariants as i_module_decl
use Rattle.bundle_tree_ast.specs.declared.module.DefaultDecl as v_default_decl
use Rattle.bundle_tree_ast.specs.declared.module.DefaultDecl.TheVariants as i_default_decl
use Rattle.bundle_tree_ast.specs.declared.stmt.Stmt as v_stmt
use Rattle.bundle_tree_ast.specs.declared.stmt.ForInit as v_for_init
use Rattle.bundle_tree_ast.specs.declared.stmt.ForHead as v_for_head
use Rattle.bundle_tree_ast.specs.declared.decl.Decl as v_decl
use Rattle.bundle_tree_ast.specs.declared.expr.Expr as v_expr
use Rattle.bundle_tree_ast.specs.declared.expr.ArrowBody as v_arrow_body
use Rattle.bundle_tree_ast.specs.declared.prop.PropOrSpread as v_prop_or_spread
use Rattle.bundle_tree_ast.specs.declared.prop.Prop as v_prop
use Rattle.bundle_tree_ast.specs.declared.prop.KeyValueProp as v_key_value_prop
use Rattle.bundle_tree_ast.specs.declared.pat.Pat as v_pat
use Rattle.bundle_tree_ast.specs.declared.pat.ObjectPatProp as v_object_pat_prop
use Rattle.bundle_tree_ast.specs.declared.pat.AssignTarget as v_assign_target
use Rattle.bundle_tree_ast.specs.declared.class.Function as v_function
use Rattle.bundle_tree_ast.specs.declared.class.Class as v_class
use Rattle.bundle_tree_ast.specs.declared.class.ClassMember as v_class_member
use Rattle.bundle_tree_ast.specs.declared.class.ClassMember.TheBlock as block
use Rattle.bundle_syntax.specs.declared.piece.Role.TheVariants as r
use Rattle.bundle_syntax.specs.declared.piece.Role.{Role}
use Rattle.bundle_syntax.specs.Item as h
use Rattle.bundle_syntax.specs.Item.{Item}
use Rattle.bundle_tree_listed.specs.Tree.{ident_items, ident_name_items, private_name_items, binding_ident_items, str_items, lit_items, tpl_element_items, stmt_items, for_init_items, for_head_items, held_option_boxed_stmt, held_option_block_stmt, held_option_catch_clause, held_option_for_init, row_of_stmt, row_of_switch_case, decl_items, row_of_var_declarator, expr_items, arrow_body_items, held_callee, held_opt_chain_base, held_option_expr, held_option_boxed_expr, place_of_expr_or_spread, held_option_each_expr_or_spread, row_of_expr, row_of_expr_or_spread, row_of_option_expr_or_spread, prop_or_spread_items, prop_items, held_prop_name, held_member_prop, held_super_prop, row_of_prop_or_spread, pat_items, object_pat_prop_items, assign_target_items, held_option_pat, place_of_pat, row_of_pat, row_of_option_pat, row_of_object_pat_prop, class_member_items, row_of_param, row_of_class_member, option_items, class_items, function_items, key_value_prop_items, module_export_name_items, import_specifier_items, export_specifier_items, role_of_names, is_given, default_decl_items, module_decl_items, module_item_items, module_items}
use Rattle.bundle_tree_parse.specs.Sorts.{Sort, Fields, AModule, AnItem, AModuleDecl, AnImport, AnExport, AModuleName, ADefault, ADecl, AStmt, ABlock, ACase, AHandler, AnInit, ALoopHead, ADeclarator, AnExpr, ALiteral, ACallee, AnArgument, ALink, AnArrowBody, APropertyOrSpread, AProperty, AKeyValue, AKey, AMemberKey, ASuperKey, APattern, APatternProperty, ABindingIdent, AnIdent, ATarget, AParameter, AFunction, AClass, AClassMember, AWord, AString, ATextPart, holds}
use Rattle.bundle_tree_parse.specs.Parse.{export_slots}
use Rattle.bundle_tree_parse.specs.Standing.{AreIn, no_more, IsIn, export_list, IsMaybe, none, some, AreEach, ended, next, ArePlaces, closed, empty, held}
use Rattle.bundle_tree_parse.proofs.Sources.{source_is}
use Rattle.bundle_tree_parse.proofs.Rows.{one, last, maybe, last_maybe, each, last_each, last_places, in_node, in_leaf, alone, as_init, as_callee, as_body, as_pattern, as_loop_head, as_stmt, as_item, decl_as_item, as_property_or_spread, literal_as_expr}

-- what stands in an option
option_in : {A : Type 0} {sort : Sort} {field : ℕ} (items : A → List Item) → ((it : A) → IsIn sort field (items it)) → (it : Option A) → IsMaybe sort field (option_items items it)
option_in items each_one None = none
option_in items each_one (Some it) = some (each_one it)

-- one after another
pub flat_in : {A : Type 0} {sort : Sort} {field : ℕ} (items : A → List Item) → ((it : A) → IsIn sort field (items it)) → (list : List A) → AreEach sort field (flat_map items list)
flat_in items each_one [] = ended
flat_in items each_one (x ∷ xs) = next (each_one x) (flat_in items each_one xs)

local_in : (field : ℕ) (it : v_ident.Ident) → IsIn (AnIdent r.Binding) field (ident_items r.Binding field it)
local_in field it = alone field _ _ r.Binding refl

own_in : (field : ℕ) (it : Option v_ident.Ident) → IsMaybe (AnIdent r.Binding) field (option_items (ident_items r.Binding field) it)
own_in field it = option_in (ident_items r.Binding field) (local_in field) it

pub word_in : {sort : Sort} (field : ℕ) (it : v_ident_name.IdentName) → holds sort (h.IdentName (string_bytes it.sym)) ≡ Fields [] → IsIn sort field (ident_name_items field it)
word_in field it held_it = in_leaf field (h.IdentName (string_bytes it.sym)) held_it

label_in : (field : ℕ) (it : v_ident_name.IdentName) → IsIn AWord field (ident_name_items field it)
label_in field it = word_in field it refl

pub private_in : {sort : Sort} (field : ℕ) (it : v_private_name.PrivateName) → holds sort (h.PrivateName (string_bytes it.sym)) ≡ Fields [] → IsIn sort field (private_name_items field it)
private_in field it held_it = in_leaf field (h.PrivateName (string_bytes it.sym)) held_it

pub bound_name_in : (role : Role) (field : ℕ) (it : v_ident.Ident) → IsIn (AnIdent role) field (ident_items role field it)
bound_name_in role field it = alone field _ _ role refl

pub binding_ident_in : (role : Role) (field : ℕ) (it : v_binding_ident.BindingIdent) → IsIn (ABindingIdent role) field (binding_ident_items role field it)
binding_ident_in role field it = in_node field h.BindingIdent refl (last (bound_name_in role 0 it.id))

pattern_ident_in : (role : Role) (field : ℕ) (it : v_binding_ident.BindingIdent) → IsIn (APattern role) field (binding_ident_items role field it)
pattern_ident_in role field it = in_node field h.BindingIdent refl (last (bound_name_in role 0 it.id))

string_in : {sort : Sort} (field : ℕ) (it : v_str.Str) → ((value : List ℕ) (raw : Option (List ℕ)) → holds sort (h.Str value raw) ≡ Fields []) → IsIn sort field (str_items field it)
string_in field it held_it = in_leaf field (h.Str (string_bytes it.value) (option_map string_bytes it.raw)) (held_it (string_bytes it.value) (option_map string_bytes it.raw))

pub source_in : (field : ℕ) (it : v_str.Str) → IsIn AString field (str_items field it)
source_in field it = string_in field it (λ value raw. refl)

pub tpl_element_in : (field : ℕ) (it : v_tpl_element.TplElement) → IsIn ATextPart field (tpl_element_items field it)
tpl_element_in field it = in_leaf field (h.TplElement (string_bytes it.raw)) refl

pub lit_in : (field : ℕ) (it : v_lit.Lit) → IsIn ALiteral field (lit_items field it)
lit_in field (i_lit.Str it) = string_in field it (λ value raw. refl)
lit_in field (i_lit.Bool value) = in_leaf field (h.Bool value) refl
lit_in field i_lit.Null = in_leaf field h.Null refl
lit_in field (i_lit.Number it) = in_leaf field (h.Number (string_bytes it.raw)) refl
lit_in field (i_lit.BigInt it) = in_leaf field (h.BigInt (string_bytes it.raw)) refl
lit_in field (i_lit.Regex it) = in_leaf field (h.Regex (string_bytes it.raw)) refl

mutual
  unfolding stmt_items

  pub stmt_in : (field : ℕ) (it : v_stmt.Stmt) → IsIn AStmt field (stmt_items field it)
  stmt_in field (v_stmt.BlockStmt' _ stmts) = in_node field h.BlockStmt refl (last_each (stmts_in 0 stmts))
  stmt_in field v_stmt.EmptyStmt = in_node field h.EmptyStmt refl no_more
  stmt_in field v_stmt.DebuggerStmt = in_node field h.DebuggerStmt refl no_more
  stmt_in field (v_stmt.WithStmt' obj _ body) = in_node field h.WithStmt refl (one (expr_in 0 obj) (last (stmt_in 1 body)))
  stmt_in field (v_stmt.ReturnStmt' arg) = in_node field h.ReturnStmt refl (last_maybe (maybe_expr_in 0 arg))
  stmt_in field (v_stmt.LabeledStmt' label _ body) = in_node field h.LabeledStmt refl (one (label_in 0 label) (last (stmt_in 1 body)))
  stmt_in field (v_stmt.BreakStmt label) = in_node field h.BreakStmt refl (last_maybe (option_in (ident_name_items 0) (label_in 0) label))
  stmt_in field (v_stmt.ContinueStmt label) = in_node field h.ContinueStmt refl (last_maybe (option_in (ident_name_items 0) (label_in 0) label))
  stmt_in field (v_stmt.IfStmt' test _ cons alt) = in_node field h.IfStmt refl (one (expr_in 0 test) (one (stmt_in 1 cons) (last_maybe (maybe_stmt_in 2 alt))))
  stmt_in field (v_stmt.SwitchStmt' discriminant _ cases) = in_node field h.SwitchStmt refl (one (expr_in 0 discriminant) (last_each (cases_in 1 cases)))
  stmt_in field (v_stmt.ThrowStmt arg) = in_node field h.ThrowStmt refl (last (expr_in 0 arg))
  stmt_in field (v_stmt.TryStmt' _ stmts handler finalizer) = in_node field h.TryStmt refl (one (in_node 0 h.BlockStmt refl (last_each (stmts_in 0 stmts))) (maybe refl (handler_in 1 handler) (last_maybe (maybe_block_in 2 finalizer))))
  stmt_in field (v_stmt.WhileStmt' test _ body) = in_node field h.WhileStmt refl (one (expr_in 0 test) (last (stmt_in 1 body)))
  stmt_in field (v_stmt.DoWhileStmt' _ body test) = in_node field h.DoWhileStmt refl (one (stmt_in 0 body) (last (expr_in 1 test)))
  stmt_in field (v_stmt.ForStmt' init test update _ body) = in_node field h.ForStmt refl (maybe refl (maybe_init_in 0 init) (maybe refl (maybe_expr_in 1 test) (maybe refl (maybe_expr_in 2 update) (last (stmt_in 3 body)))))
  stmt_in field (v_stmt.ForInStmt' left right _ body) = in_node field h.ForInStmt refl (one (loop_head_in 0 left) (one (expr_in 1 right) (last (stmt_in 2 body))))
  stmt_in field (v_stmt.ForOfStmt' is_await left right _ body) = in_node field (h.ForOfStmt is_await) refl (one (loop_head_in 1 left) (one (expr_in 2 right) (last (stmt_in 3 body))))
  stmt_in field (v_stmt.Decl it) = as_stmt (decl_in field it)
  stmt_in field (v_stmt.ExprStmt expr) = in_node field h.ExprStmt refl (last (expr_in 0 expr))

  pub init_in : (field : ℕ) (it : v_for_init.ForInit) → IsIn AnInit field (for_init_items field it)
  init_in field (v_for_init.VarDecl' kind _ decls meta) = in_node field (h.VarDecl kind meta) refl (last_each (declarators_in 1 decls))
  init_in field (v_for_init.Expr it) = as_init (expr_in field it)

  pub loop_head_in : (field : ℕ) (it : v_for_head.ForHead) → IsIn ALoopHead field (for_head_items field it)
  loop_head_in field (v_for_head.VarDecl' kind _ decls meta) = in_node field (h.VarDecl kind meta) refl (last_each (declarators_in 1 decls))
  loop_head_in field (v_for_head.Pat it) = as_loop_head (pat_in r.Reference field it)

  maybe_stmt_in : (field : ℕ) (it : block.Held-Stmt-IfStmt-2) → IsMaybe AStmt field (held_option_boxed_stmt field it)
  maybe_stmt_in field block.Stmt-IfStmt-2-None' = none
  maybe_stmt_in field (block.Stmt-IfStmt-2-Some' _ it) = some (stmt_in field it)

  maybe_block_in : (field : ℕ) (it : block.Held-Stmt-TryStmt-2) → IsMaybe ABlock field (held_option_block_stmt field it)
  maybe_block_in field block.Stmt-TryStmt-2-None' = none
  maybe_block_in field (block.Stmt-TryStmt-2-Some' _ stmts) = some (in_node field h.BlockStmt refl (last_each (stmts_in 0 stmts)))

  handler_in : (field : ℕ) (it : block.Held-Stmt-TryStmt-1) → IsMaybe AHandler field (held_option_catch_clause field it)
  handler_in field block.Stmt-TryStmt-1-None' = none
  handler_in field (block.Stmt-TryStmt-1-Some' param _ stmts) = some (in_node field h.CatchClause refl (maybe refl (maybe_pat_in r.Binding 0 param) (last (in_node 1 h.BlockStmt refl (last_each (stmts_in 0 stmts))))))

  maybe_init_in : (field : ℕ) (it : block.Held-Stmt-ForStmt-0) → IsMaybe AnInit field (held_option_for_init field it)
  maybe_init_in field block.Stmt-ForStmt-0-None' = none
  maybe_init_in field (block.Stmt-ForStmt-0-Some' it) = some (init_in field it)

  pub stmts_in : (field : ℕ) {n : _} (it : block.Row_of-Stmt n) → AreEach AStmt field (row_of_stmt field it)
  stmts_in field block.end_of-Stmt = ended
  stmts_in field (block.more_of-Stmt it rest) = next (stmt_in field it) (stmts_in field rest)

  cases_in : (field : ℕ) {n : _} (it : block.Row_of-SwitchCase n) → AreEach ACase field (row_of_switch_case field it)
  cases_in field block.end_of-SwitchCase = ended
  cases_in field (block.more_of-SwitchCase test _ cons rest) = next (in_node field h.SwitchCase refl (maybe refl (maybe_expr_in 0 test) (last_each (stmts_in 1 cons)))) (cases_in field rest)

  pub decl_in : (field : ℕ) (it : v_decl.Decl) → IsIn ADecl field (decl_items field it)
  decl_in field (v_decl.ClassDecl' ident super_class _ body) = in_node field h.ClassDecl refl (one (local_in 0 ident) (last (in_node 1 h.Class refl (maybe refl (maybe_boxed_expr_in 0 super_class) (last_each (members_in 1 body))))))
  decl_in field (v_decl.FnDecl' ident _ params _ stmts is_generator is_async) = in_node field h.FnDecl refl (one (local_in 0 ident) (last (in_node 1 (h.Function is_generator is_async) refl (each refl (params_in 0 params) (last (in_node 1 h.BlockStmt refl (last_each (stmts_in 0 stmts))))))))
  decl_in field (v_decl.VarDecl' kind _ decls meta) = in_node field (h.VarDecl kind meta) refl (last_each (declarators_in 1 decls))

  pub declarators_in : (field : ℕ) {n : _} (it : block.Row_of-VarDeclarator n) → AreEach ADeclarator field (row_of_var_declarator field it)
  declarators_in field block.end_of-VarDeclarator = ended
  declarators_in field (block.more_of-VarDeclarator name init rest) = next (in_node field h.VarDeclarator refl (one (pat_in r.Binding 0 name) (last_maybe (maybe_expr_in 1 init)))) (declarators_in field rest)

  pub expr_in : (field : ℕ) (it : v_expr.Expr) → IsIn AnExpr field (expr_items field it)
  expr_in field v_expr.ThisExpr = in_node field h.ThisExpr refl no_more
  expr_in field (v_expr.ArrayLit' _ elems) = in_node field h.ArrayLit refl (last_places (elements_in 0 elems))
  expr_in field (v_expr.ObjectLit' _ props) = in_node field h.ObjectLit refl (last_each (props_in 0 props))
  expr_in field (v_expr.FnExpr' ident _ params _ stmts is_generator is_async) = in_node field h.FnExpr refl (maybe refl (own_in 0 ident) (last (in_node 1 (h.Function is_generator is_async) refl (each refl (params_in 0 params) (last (in_node 1 h.BlockStmt refl (last_each (stmts_in 0 stmts))))))))
  expr_in field (v_expr.UnaryExpr' op _ arg) = in_node field (h.UnaryExpr op) refl (last (expr_in 1 arg))
  expr_in field (v_expr.UpdateExpr' op prefix _ arg) = in_node field (h.UpdateExpr op prefix) refl (last (expr_in 2 arg))
  expr_in field (v_expr.BinExpr' op _ left _ right) = in_node field (h.BinExpr op) refl (one (expr_in 1 left) (last (expr_in 2 right)))
  expr_in field (v_expr.AssignExpr' op left _ right) = in_node field (h.AssignExpr op) refl (one (target_in 1 left) (last (expr_in 2 right)))
  expr_in field (v_expr.MemberExpr' _ obj prop) = in_node field h.MemberExpr refl (one (expr_in 0 obj) (last (member_key_in 1 prop)))
  expr_in field (v_expr.SuperPropExpr' prop) = in_node field h.SuperPropExpr refl (last (super_key_in 0 prop))
  expr_in field (v_expr.CondExpr' _ test _ cons _ alt) = in_node field h.CondExpr refl (one (expr_in 0 test) (one (expr_in 1 cons) (last (expr_in 2 alt))))
  expr_in field (v_expr.CallExpr' callee _ args) = in_node field h.CallExpr refl (one (callee_in 0 callee) (last_each (arguments_in 1 args)))
  expr_in field (v_expr.NewExpr' _ callee args) = new_in field args (expr_in 0 callee)
  expr_in field (v_expr.SeqExpr' _ exprs) = in_node field h.SeqExpr refl (last_each (exprs_in 0 exprs))
  expr_in field (v_expr.Ident it) = alone field _ _ r.Reference refl
  expr_in field (v_expr.Lit it) = literal_as_expr (lit_in field it)
  expr_in field (v_expr.Tpl' _ exprs quasis) = in_node field h.Tpl refl (each refl (exprs_in 0 exprs) (last_each (flat_in (tpl_element_items 1) (tpl_element_in 1) quasis.items)))
  expr_in field (v_expr.TaggedTpl' _ tag _ exprs quasis) = in_node field h.TaggedTpl refl (one (expr_in 0 tag) (last (in_node 1 h.Tpl refl (each refl (exprs_in 0 exprs) (last_each (flat_in (tpl_element_items 1) (tpl_element_in 1) quasis.items))))))
  expr_in field (v_expr.ArrowExpr' _ params body is_async) = in_node field (h.ArrowExpr is_async) refl (each refl (pats_in r.Binding 0 params) (last (arrow_body_in 1 body)))
  expr_in field (v_expr.ClassExpr' ident super_class _ body) = in_node field h.ClassExpr refl (maybe refl (own_in 0 ident) (last (in_node 1 h.Class refl (maybe refl (maybe_boxed_expr_in 0 super_class) (last_each (members_in 1 body))))))
  expr_in field (v_expr.YieldExpr' arg delegate) = in_node field (h.YieldExpr delegate) refl (last_maybe (maybe_boxed_expr_in 0 arg))
  expr_in field (v_expr.MetaPropExpr kind) = in_node field (h.MetaPropExpr kind) refl no_more
  expr_in field (v_expr.AwaitExpr' _ arg) = in_node field h.AwaitExpr refl (last (expr_in 0 arg))
  expr_in field (v_expr.ParenExpr' _ expr) = in_node field h.ParenExpr refl (last (expr_in 0 expr))
  expr_in field (v_expr.PrivateName it) = private_in field it refl
  expr_in field (v_expr.OptChainExpr' optional base) = in_node field (h.OptChainExpr optional) refl (last (link_in 1 base))

  -- `new` with a list of arguments, or without
  new_in : (field : ℕ) (args : block.Held-Expr-NewExpr-1) {callee : List Item} → IsIn AnExpr 0 callee → IsIn AnExpr field (h.Open field (h.NewExpr (is_given args)) ∷ ((callee ++ held_option_each_expr_or_spread 1 args) ++ h.Close ∷ []))
  new_in field block.Expr-NewExpr-1-None' callee = in_node field (h.NewExpr false) refl (one callee no_more)
  new_in field (block.Expr-NewExpr-1-Some' _ row) callee = in_node field (h.NewExpr true) refl (one callee (last_each (arguments_in 1 row)))

  pub arrow_body_in : (field : ℕ) (it : v_arrow_body.ArrowBody) → IsIn AnArrowBody field (arrow_body_items field it)
  arrow_body_in field (v_arrow_body.BlockStmt' _ stmts) = in_node field h.BlockStmt refl (last_each (stmts_in 0 stmts))
  arrow_body_in field (v_arrow_body.Expr' _ it) = as_body (expr_in field it)

  pub callee_in : (field : ℕ) (it : block.Held-Expr-CallExpr-0) → IsIn ACallee field (held_callee field it)
  callee_in field block.Super' = in_leaf field h.Super refl
  callee_in field block.Import' = in_leaf field h.Import refl
  callee_in field (block.Expr-CallExpr-0-Expr' _ it) = as_callee (expr_in field it)

  pub link_in : (field : ℕ) (it : block.Held-Expr-OptChainExpr-1) → IsIn ALink field (held_opt_chain_base field it)
  link_in field (block.Expr-OptChainExpr-1-MemberExpr' _ obj prop) = in_node field h.MemberExpr refl (one (expr_in 0 obj) (last (member_key_in 1 prop)))
  link_in field (block.OptCall' _ callee _ args) = in_node field h.OptCall refl (one (expr_in 0 callee) (last_each (arguments_in 1 args)))

  pub maybe_expr_in : (field : ℕ) (it : block.Held-ClassMember-ClassProp-1) → IsMaybe AnExpr field (held_option_expr field it)
  maybe_expr_in field block.ClassMember-ClassProp-1-None' = none
  maybe_expr_in field (block.ClassMember-ClassProp-1-Some' it) = some (expr_in field it)

  maybe_boxed_expr_in : (field : ℕ) (it : block.Held-Expr-YieldExpr-0) → IsMaybe AnExpr field (held_option_boxed_expr field it)
  maybe_boxed_expr_in field block.Expr-YieldExpr-0-None' = none
  maybe_boxed_expr_in field (block.Expr-YieldExpr-0-Some' _ it) = some (expr_in field it)

  pub exprs_in : (field : ℕ) {n : _} (it : block.Row_of-Expr n) → AreEach AnExpr field (row_of_expr field it)
  exprs_in field block.end_of-Expr = ended
  exprs_in field (block.more_of-Expr it rest) = next (expr_in field it) (exprs_in field rest)

  pub arguments_in : (field : ℕ) {n : _} (it : block.Row_of-Expr-CallExpr-1-2 n) → AreEach AnArgument field (row_of_expr_or_spread field it)
  arguments_in field block.end_of-Expr-CallExpr-1-2 = ended
  arguments_in field (block.more_of-Expr-CallExpr-1-2 spread expr rest) = next (in_node field (h.ExprOrSpread spread) refl (last (expr_in 1 expr))) (arguments_in field rest)

  element_in : (field : ℕ) (it : block.Held-Expr-ArrayLit-0-3) {rest : List Item} → ArePlaces AnArgument field rest → ArePlaces AnArgument field (place_of_expr_or_spread field it ++ rest)
  element_in field block.Expr-ArrayLit-0-3-None' more = empty more
  element_in field (block.Expr-ArrayLit-0-3-Some' spread expr) more = held (in_node field (h.ExprOrSpread spread) refl (last (expr_in 1 expr))) more

  elements_in : (field : ℕ) {n : _} (it : block.Row_of-Expr-ArrayLit-0-3 n) → ArePlaces AnArgument field (row_of_option_expr_or_spread field it)
  elements_in field block.end_of-Expr-ArrayLit-0-3 = closed
  elements_in field (block.more_of-Expr-ArrayLit-0-3 it rest) = element_in field it (elements_in field rest)

  pub prop_or_spread_in : (field : ℕ) (it : v_prop_or_spread.PropOrSpread) → IsIn APropertyOrSpread field (prop_or_spread_items field it)
  prop_or_spread_in field (v_prop_or_spread.SpreadElement expr) = in_node field h.SpreadElement refl (last (expr_in 0 expr))
  prop_or_spread_in field (v_prop_or_spread.Prop it) = as_property_or_spread (prop_in field it)

  pub prop_in : (field : ℕ) (it : v_prop.Prop) → IsIn AProperty field (prop_items field it)
  prop_in field (v_prop.Shorthand it) = alone field _ _ r.Reference refl
  prop_in field (v_prop.KeyValueProp' key value) = in_node field h.KeyValueProp refl (one (key_in 0 key) (last (expr_in 1 value)))
  prop_in field (v_prop.GetterProp' key _ stmts) = in_node field h.GetterProp refl (one (key_in 0 key) (last (in_node 1 h.BlockStmt refl (last_each (stmts_in 0 stmts)))))
  prop_in field (v_prop.SetterProp' key param _ stmts) = in_node field h.SetterProp refl (one (key_in 0 key) (one (pat_in r.Binding 1 param) (last (in_node 2 h.BlockStmt refl (last_each (stmts_in 0 stmts))))))
  prop_in field (v_prop.MethodProp' key _ params _ stmts is_generator is_async) = in_node field h.MethodProp refl (one (key_in 0 key) (last (in_node 1 (h.Function is_generator is_async) refl (each refl (params_in 0 params) (last (in_node 1 h.BlockStmt refl (last_each (stmts_in 0 stmts))))))))

  pub key_in : (field : ℕ) (it : block.Held-ClassMember-ClassMethod-0) → IsIn AKey field (held_prop_name field it)
  key_in field (block.ClassMember-ClassMethod-0-IdentName' it) = word_in field it refl
  key_in field (block.Str' it) = string_in field it (λ value raw. refl)
  key_in field (block.Number' it) = in_leaf field (h.Number (string_bytes it.raw)) refl
  key_in field (block.BigInt' it) = in_leaf field (h.BigInt (string_bytes it.raw)) refl
  key_in field (block.ClassMember-ClassMethod-0-ComputedPropName' _ expr) = in_node field h.ComputedPropName refl (last (expr_in 0 expr))

  pub member_key_in : (field : ℕ) (it : block.Held-Expr-MemberExpr-0-7) → IsIn AMemberKey field (held_member_prop field it)
  member_key_in field (block.Expr-MemberExpr-0-7-IdentName' it) = word_in field it refl
  member_key_in field (block.Expr-MemberExpr-0-7-PrivateName' it) = private_in field it refl
  member_key_in field (block.Expr-MemberExpr-0-7-ComputedPropName' _ expr) = in_node field h.ComputedPropName refl (last (expr_in 0 expr))

  pub super_key_in : (field : ℕ) (it : block.Held-Expr-SuperPropExpr-0-4) → IsIn ASuperKey field (held_super_prop field it)
  super_key_in field (block.Expr-SuperPropExpr-0-4-IdentName' it) = word_in field it refl
  super_key_in field (block.Expr-SuperPropExpr-0-4-ComputedPropName' _ expr) = in_node field h.ComputedPropName refl (last (expr_in 0 expr))

  props_in : (field : ℕ) {n : _} (it : block.Row_of-PropOrSpread n) → AreEach APropertyOrSpread field (row_of_prop_or_spread field it)
  props_in field block.end_of-PropOrSpread = ended
  props_in field (block.more_of-PropOrSpread it rest) = next (prop_or_spread_in field it) (props_in field rest)

  pub pat_in : (role : Role) (field : ℕ) (it : v_pat.Pat) → IsIn (APattern role) field (pat_items role field it)
  pat_in role field (v_pat.BindingIdent it) = pattern_ident_in role field it
  pat_in role field (v_pat.ArrayPat' _ elems) = in_node field h.ArrayPat refl (last_places (pat_places_in role 0 elems))
  pat_in role field (v_pat.RestPat' _ arg) = in_node field h.RestPat refl (last (pat_in role 0 arg))
  pat_in role field (v_pat.ObjectPat' _ props) = in_node field h.ObjectPat refl (last_each (pat_props_in role 0 props))
  pat_in role field (v_pat.AssignPat' _ left _ right) = in_node field h.AssignPat refl (one (pat_in role 0 left) (last (expr_in 1 right)))
  pat_in role field (v_pat.Expr' _ it) = as_pattern role (expr_in field it)

  pub pat_prop_in : (role : Role) (field : ℕ) (it : v_object_pat_prop.ObjectPatProp) → IsIn (APatternProperty role) field (object_pat_prop_items role field it)
  pat_prop_in role field (v_object_pat_prop.KeyValuePatProp' key value) = in_node field h.KeyValuePatProp refl (one (key_in 0 key) (last (pat_in role 1 value)))
  pat_prop_in role field (v_object_pat_prop.AssignPatProp' key value) = in_node field h.AssignPatProp refl (one (binding_ident_in role 0 key) (last_maybe (maybe_expr_in 1 value)))
  pat_prop_in role field (v_object_pat_prop.RestPat' _ arg) = in_node field h.RestPat refl (last (pat_in role 0 arg))

  pub target_in : (field : ℕ) (it : v_assign_target.AssignTarget) → IsIn ATarget field (assign_target_items field it)
  target_in field (v_assign_target.BindingIdent it) = in_node field h.BindingIdent refl (last (bound_name_in r.Reference 0 it.id))
  target_in field (v_assign_target.MemberExpr' _ obj prop) = in_node field h.MemberExpr refl (one (expr_in 0 obj) (last (member_key_in 1 prop)))
  target_in field (v_assign_target.SuperPropExpr' prop) = in_node field h.SuperPropExpr refl (last (super_key_in 0 prop))
  target_in field (v_assign_target.ParenExpr' _ expr) = in_node field h.ParenExpr refl (last (expr_in 0 expr))
  target_in field (v_assign_target.ArrayPat' _ elems) = in_node field h.ArrayPat refl (last_places (pat_places_in r.Reference 0 elems))
  target_in field (v_assign_target.ObjectPat' _ props) = in_node field h.ObjectPat refl (last_each (pat_props_in r.Reference 0 props))

  pub maybe_pat_in : (role : Role) (field : ℕ) (it : block.Held-AssignTarget-ArrayPat-0-1) → IsMaybe (APattern role) field (held_option_pat role field it)
  maybe_pat_in role field block.AssignTarget-ArrayPat-0-1-None' = none
  maybe_pat_in role field (block.AssignTarget-ArrayPat-0-1-Some' it) = some (pat_in role field it)

  pat_place_in : (role : Role) (field : ℕ) (it : block.Held-AssignTarget-ArrayPat-0-1) {rest : List Item} → ArePlaces (APattern role) field rest → ArePlaces (APattern role) field (place_of_pat role field it ++ rest)
  pat_place_in role field block.AssignTarget-ArrayPat-0-1-None' more = empty more
  pat_place_in role field (block.AssignTarget-ArrayPat-0-1-Some' it) more = held (pat_in role field it) more

  pats_in : (role : Role) (field : ℕ) {n : _} (it : block.Row_of-Pat n) → AreEach (APattern role) field (row_of_pat role field it)
  pats_in role field block.end_of-Pat = ended
  pats_in role field (block.more_of-Pat it rest) = next (pat_in role field it) (pats_in role field rest)

  pub pat_places_in : (role : Role) (field : ℕ) {n : _} (it : block.Row_of-AssignTarget-ArrayPat-0-1 n) → ArePlaces (APattern role) field (row_of_option_pat role field it)
  pat_places_in role field block.end_of-AssignTarget-ArrayPat-0-1 = closed
  pat_places_in role field (block.more_of-AssignTarget-ArrayPat-0-1 it rest) = pat_place_in role field it (pat_places_in role field rest)

  pub pat_props_in : (role : Role) (field : ℕ) {n : _} (it : block.Row_of-ObjectPatProp n) → AreEach (APatternProperty role) field (row_of_object_pat_prop role field it)
  pat_props_in role field block.end_of-ObjectPatProp = ended
  pat_props_in role field (block.more_of-ObjectPatProp it rest) = next (pat_prop_in role field it) (pat_props_in role field rest)

  pub member_in : (field : ℕ) (it : v_class_member.ClassMember) → IsIn AClassMember field (class_member_items field it)
  member_in field (v_class_member.Constructor' _ params _ stmts) = in_node field h.Constructor refl (each refl (params_in 0 params) (last (in_node 1 h.BlockStmt refl (last_each (stmts_in 0 stmts)))))
  member_in field (v_class_member.ClassMethod' key _ params _ stmts is_generator is_async kind is_static) = in_node field (h.ClassMethod kind is_static) refl (one (key_in 0 key) (last (in_node 1 (h.Function is_generator is_async) refl (each refl (params_in 0 params) (last (in_node 1 h.BlockStmt refl (last_each (stmts_in 0 stmts))))))))
  member_in field (v_class_member.PrivateMethod' key _ params _ stmts is_generator is_async kind is_static) = in_node field (h.PrivateMethod kind is_static) refl (one (private_in 0 key refl) (last (in_node 1 (h.Function is_generator is_async) refl (each refl (params_in 0 params) (last (in_node 1 h.BlockStmt refl (last_each (stmts_in 0 stmts))))))))
  member_in field (v_class_member.ClassProp' key value is_static) = in_node field (h.ClassProp is_static) refl (one (key_in 0 key) (last_maybe (maybe_expr_in 1 value)))
  member_in field (v_class_member.PrivateProp' key value is_static) = in_node field (h.PrivateProp is_static) refl (one (private_in 0 key refl) (last_maybe (maybe_expr_in 1 value)))
  member_in field (v_class_member.StaticBlock' _ stmts) = in_node field h.StaticBlock refl (last (in_node 0 h.BlockStmt refl (last_each (stmts_in 0 stmts))))
  member_in field v_class_member.EmptyStmt = in_node field h.EmptyStmt refl no_more

  params_in : (field : ℕ) {n : _} (it : block.Row_of-ClassMember-Constructor-0-1 n) → AreEach AParameter field (row_of_param field it)
  params_in field block.end_of-ClassMember-Constructor-0-1 = ended
  params_in field (block.more_of-ClassMember-Constructor-0-1 pat rest) = next (in_node field h.Param refl (last (pat_in r.Binding 0 pat))) (params_in field rest)

  members_in : (field : ℕ) {n : _} (it : block.Row_of-ClassMember n) → AreEach AClassMember field (row_of_class_member field it)
  members_in field block.end_of-ClassMember = ended
  members_in field (block.more_of-ClassMember it rest) = next (member_in field it) (members_in field rest)

-- The same of the types as the code sees them.

pub class_in : (field : ℕ) (it : v_class.Class) → IsIn AClass field (class_items field it)
class_in field it = in_node field h.Class refl (maybe refl (maybe_boxed_expr_in 0 (block.back-Expr-YieldExpr-0 it.super_class)) (last_each (members_in 1 (block.hidden-the_row-ClassMember-2 it.body))))

pub function_in : (field : ℕ) (it : v_function.Function) → IsIn AFunction field (function_items field it)
function_in field it = in_node field (h.Function it.is_generator it.is_async) refl (each refl (params_in 0 (block.hidden-the_row-ClassMember-Constructor-0-1-0 it.params)) (last (in_node 1 h.BlockStmt refl (last_each (stmts_in 0 (block.hidden-the_row-Stmt-1 it.body.stmts))))))

pub key_value_prop_in : (field : ℕ) (it : v_key_value_prop.KeyValueProp v_expr.Expr) → IsIn AKeyValue field (key_value_prop_items field it)
key_value_prop_in field it = in_node field h.KeyValueProp refl (one (key_in 0 (block.back-ClassMember-ClassMethod-0 it.key)) (last (expr_in 1 it.value)))

pub properties_in : (field : ℕ) (list : List (v_key_value_prop.KeyValueProp v_expr.Expr)) → AreEach AKeyValue field (flat_map (key_value_prop_items field) list)
properties_in field list = flat_in (key_value_prop_items field) (key_value_prop_in field) list

-- Modules, imports and exports.

outer_in : (field : ℕ) (it : v_module_export_name.ModuleExportName) → IsIn (AModuleName r.Word) field (module_export_name_items r.Word field it)
outer_in field (i_module_export_name.Ident it) = alone field _ _ r.Word refl
outer_in field (i_module_export_name.Str it) = string_in field it (λ value raw. refl)

pub inner_in : (role : Role) (field : ℕ) (it : v_module_export_name.ModuleExportName) → IsIn (AModuleName role) field (module_export_name_items role field it)
inner_in role field (i_module_export_name.Ident it) = alone field _ _ role refl
inner_in role field (i_module_export_name.Str it) = string_in field it (λ value raw. refl)

other_in : (it : Option v_module_export_name.ModuleExportName) → IsMaybe (AModuleName r.Word) 1 (option_items (module_export_name_items r.Word 1) it)
other_in it = option_in (module_export_name_items r.Word 1) (outer_in 1) it

pub import_in : (field : ℕ) (it : v_import_specifier.ImportSpecifier) → IsIn AnImport field (import_specifier_items field it)
import_in field (i_import_specifier.ImportNamedSpecifier local imported) = in_node field h.ImportNamedSpecifier refl (one (local_in 0 local) (last_maybe (other_in imported)))
import_in field (i_import_specifier.ImportDefaultSpecifier local) = in_node field h.ImportDefaultSpecifier refl (last (local_in 0 local))
import_in field (i_import_specifier.ImportStarAsSpecifier local) = in_node field h.ImportStarAsSpecifier refl (last (local_in 0 local))

pub export_in : (role : Role) (field : ℕ) (it : v_export_specifier.ExportSpecifier) → IsIn (AnExport role) field (export_specifier_items role field it)
export_in role field (i_export_specifier.ExportNamespaceSpecifier name) = in_node field h.ExportNamespaceSpecifier refl (last (outer_in 0 name))
export_in role field (i_export_specifier.ExportNamedSpecifier orig exported) = in_node field h.ExportNamedSpecifier refl (one (inner_in role 0 orig) (last_maybe (other_in exported)))

pub default_in : (field : ℕ) (it : v_default_decl.DefaultDecl) → IsIn ADefault field (default_decl_items field it)
default_in field (i_default_decl.ClassExpr name class) = in_node field h.ClassExpr refl (maybe refl (own_in 0 name) (last (class_in 1 class)))
default_in field (i_default_decl.FnExpr name function) = in_node field h.FnExpr refl (maybe refl (own_in 0 name) (last (function_in 1 function)))

-- an export list, by the fields of its names and its source
exports_in : (field : ℕ) (specifiers : List v_export_specifier.ExportSpecifier) (src : Option v_str.Str) (meta : _) → IsIn AModuleDecl field (h.Open field (h.NamedExport meta) ∷ ((flat_map (export_specifier_items (role_of_names src) 0) specifiers ++ option_items (str_items 1) src) ++ h.Close ∷ []))
exports_in field specifiers None meta =
    let them : AreIn (export_slots false) (flat_map (export_specifier_items r.Reference 0) specifiers ++ []) = subst (AreIn _) (sym (append-nil (flat_map (export_specifier_items r.Reference 0) specifiers))) (last_each (flat_in (export_specifier_items r.Reference 0) (export_in r.Reference 0) specifiers)) in
    export_list {source = false} refl (source_is false them) them
exports_in field specifiers (Some src) meta =
    let them : AreIn (export_slots true) (flat_map (export_specifier_items r.Word 0) specifiers ++ str_items 1 src) = each refl (flat_in (export_specifier_items r.Word 0) (export_in r.Word 0) specifiers) (last (source_in 1 src)) in
    export_list {source = true} refl (source_is true them) them

pub module_decl_in : (field : ℕ) (it : v_module_decl.ModuleDecl) → IsIn AModuleDecl field (module_decl_items field it)
module_decl_in field (i_module_decl.ImportDecl specifiers src meta) = in_node field (h.ImportDecl meta) refl (each refl (flat_in (import_specifier_items 0) (import_in 0) specifiers.items) (last (source_in 1 src)))
module_decl_in field (i_module_decl.ExportDecl decl) = in_node field h.ExportDecl refl (last (decl_in 0 decl))
module_decl_in field (i_module_decl.NamedExport specifiers src meta) = exports_in field specifiers.items src meta
module_decl_in field (i_module_decl.ExportDefaultDecl decl) = in_node field h.ExportDefaultDecl refl (last (default_in 0 decl))
module_decl_in field (i_module_decl.ExportDefaultExpr expr) = in_node field h.ExportDefaultExpr refl (last (expr_in 0 expr))
module_decl_in field (i_module_decl.ExportAll src meta) = in_node field (h.ExportAll meta) refl (last (source_in 0 src))

pub module_item_in : (field : ℕ) (it : v_module_item.ModuleItem) → IsIn AnItem field (module_item_items field it)
module_item_in field (i_module_item.ModuleDecl it) = decl_as_item (module_decl_in field it)
module_item_in field (i_module_item.Stmt it) = as_item (stmt_in field it)

pub items_in : (field : ℕ) (list : List v_module_item.ModuleItem) → AreEach AnItem field (flat_map (module_item_items field) list)
items_in field list = flat_in (module_item_items field) (module_item_in field) list

pub module_in : (field : ℕ) (it : v_module.Module) → IsIn AModule field (module_items field it)
module_in field it = in_node field h.Module refl (last_each (items_in 0 it.body.items))
