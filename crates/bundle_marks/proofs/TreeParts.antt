-- The list of each part of a tree is a part as it is edited.
use Rattle.std.proofs.Common.{◌≡◌, ℕ, Bool, true, false, List, [], ◌∷◌, Option, Some, None, refl}
use Rattle.std.specs.Prelude.{option_map, string_bytes}
use Rattle.std.specs.List.{flat_map}
use Rattle.bundle_syntax.specs.declared.ident.Ident as v_ident
use Rattle.bundle_syntax.specs.declared.ident.IdentName as v_ident_name
use Rattle.bundle_syntax.specs.declared.ident.PrivateName as v_private_name
use Rattle.bundle_syntax.specs.declared.ident.BindingIdent as v_binding_ident
use Rattle.bundle_syntax.specs.declared.lit.Str as v_str
use Rattle.bundle_syntax.specs.declared.lit.Number as v_number
use Rattle.bundle_syntax.specs.declared.lit.BigInt as v_big_int
use Rattle.bundle_syntax.specs.declared.lit.Regex as v_regex
use Rattle.bundle_syntax.specs.declared.lit.Lit as v_lit
use Rattle.bundle_syntax.specs.declared.lit.Lit.TheVariants as i_lit
use Rattle.bundle_syntax.specs.declared.lit.TplElement as v_tpl_element
use Rattle.bundle_tree_ast.specs.declared.stmt.Stmt as v_stmt
use Rattle.bundle_tree_ast.specs.declared.stmt.ForInit as v_for_init
use Rattle.bundle_tree_ast.specs.declared.stmt.ForHead as v_for_head
use Rattle.bundle_tree_ast.specs.declared.decl.Decl as v_decl
use Rattle.bundle_tree_ast.specs.declared.expr.Expr as v_expr
use Rattle.bundle_tree_ast.specs.declared.expr.ArrowBody as v_arrow_body
use Rattle.bundle_tree_ast.specs.declared.prop.PropOrSpread as v_prop_or_spread
use Rattle.bundle_tree_ast.specs.declared.prop.Prop as v_prop
use Rattle.bundle_tree_ast.specs.declared.pat.Pat as v_pat
use Rattle.bundle_tree_ast.specs.declared.pat.ObjectPatProp as v_object_pat_prop
use Rattle.bundle_tree_ast.specs.declared.pat.AssignTarget as v_assign_target
use Rattle.bundle_tree_ast.specs.declared.class.ClassMember as v_class_member
use Rattle.bundle_tree_ast.specs.declared.class.ClassMember.TheBlock as block
use Rattle.bundle_syntax.specs.declared.piece.Role.TheVariants as r
use Rattle.bundle_syntax.specs.declared.piece.Role.{Role}
use Rattle.bundle_syntax.specs.declared.specifier.ModuleExportName as v_module_export_name
use Rattle.bundle_syntax.specs.declared.specifier.ModuleExportName.TheVariants as i_module_export_name
use Rattle.bundle_syntax.specs.declared.specifier.ImportSpecifier as v_import_specifier
use Rattle.bundle_syntax.specs.declared.specifier.ImportSpecifier.TheVariants as i_import_specifier
use Rattle.bundle_syntax.specs.declared.specifier.ExportSpecifier as v_export_specifier
use Rattle.bundle_syntax.specs.declared.specifier.ExportSpecifier.TheVariants as i_export_specifier
use Rattle.bundle_tree_ast.specs.declared.class.Class as v_class
use Rattle.bundle_tree_ast.specs.declared.class.Function as v_function
use Rattle.bundle_tree_ast.specs.declared.module.ModuleItem as v_module_item
use Rattle.bundle_tree_ast.specs.declared.module.ModuleItem.TheVariants as i_module_item
use Rattle.bundle_tree_ast.specs.declared.module.ModuleDecl as v_module_decl
use Rattle.bundle_tree_ast.specs.declared.module.ModuleDecl.TheVariants as i_module_decl
use Rattle.bundle_tree_ast.specs.declared.module.DefaultDecl as v_default_decl
use Rattle.bundle_tree_ast.specs.declared.module.DefaultDecl.TheVariants as i_default_decl
use Rattle.bundle_syntax.specs.Item as h
use Rattle.bundle_syntax.specs.Item.{Item}
use Rattle.bundle_tree_listed.specs.Tree.{ident_items, ident_name_items, private_name_items, binding_ident_items, str_items, number_items, big_int_items, regex_items, lit_items, tpl_element_items, stmt_items, for_init_items, for_head_items, held_option_boxed_stmt, held_option_block_stmt, held_option_catch_clause, held_option_for_init, row_of_stmt, row_of_switch_case, decl_items, row_of_var_declarator, expr_items, arrow_body_items, held_callee, held_opt_chain_base, held_option_expr, held_option_boxed_expr, is_given, place_of_expr_or_spread, held_option_each_expr_or_spread, row_of_expr, row_of_expr_or_spread, row_of_option_expr_or_spread, prop_or_spread_items, prop_items, held_prop_name, held_member_prop, held_super_prop, row_of_prop_or_spread, pat_items, object_pat_prop_items, assign_target_items, held_option_pat, place_of_pat, row_of_pat, row_of_option_pat, row_of_object_pat_prop, class_member_items, row_of_param, row_of_class_member, option_items, class_items, function_items, default_decl_items, export_specifier_items, import_specifier_items, module_decl_items, module_export_name_items, module_item_items}
use Rattle.bundle_tree_places.specs.Edits.{is_occurrence}
use Rattle.bundle_marks.proofs.Shapes.{Part, Nothing, Joined, Hole, Plain, Name, Inside, Specifier, Shorthand, IsPlainName, word, text, alone, named, plain, plains}

-- Lists.

option_part : {o : Bool} {A : Type 0} (items : A → List Item) → ((it : A) → Part o (items it)) → (it : Option A) → Part o (option_items items it)
option_part items each None = Nothing
option_part items each (Some it) = each it

each_part : {o : Bool} {A : Type 0} (items : A → List Item) → ((it : A) → Part o (items it)) → (all : List A) → Part o (flat_map items all)
each_part items each [] = Nothing
each_part items each (it ∷ rest) = Joined (each it) (each_part items each rest)

-- Names and literals.

ident_part : {o : Bool} (role : Role) (occurs : is_occurrence role ≡ true) (field : ℕ) (it : v_ident.Ident) → Part o (ident_items role field it)
ident_part {o = o} role occurs field it = Name o field (string_bytes it.sym) it.ctxt role occurs

ident_name_part : (field : ℕ) (it : v_ident_name.IdentName) → Part false (ident_name_items field it)
ident_name_part field it = Inside field (h.IdentName (string_bytes it.sym)) refl Nothing

private_name_part : (field : ℕ) (it : v_private_name.PrivateName) → Part false (private_name_items field it)
private_name_part field it = Inside field (h.PrivateName (string_bytes it.sym)) refl Nothing

binding_ident_part : (role : Role) (occurs : is_occurrence role ≡ true) (field : ℕ) (it : v_binding_ident.BindingIdent) → Part false (binding_ident_items role field it)
binding_ident_part role occurs field it = Inside field h.BindingIdent refl (ident_part role occurs 0 it.id)

str_part : (field : ℕ) (it : v_str.Str) → Part false (str_items field it)
str_part field it = Inside field (h.Str (string_bytes it.value) (option_map string_bytes it.raw)) refl Nothing

number_part : (field : ℕ) (it : v_number.Number) → Part false (number_items field it)
number_part field it = Inside field (h.Number (string_bytes it.raw)) refl Nothing

big_int_part : (field : ℕ) (it : v_big_int.BigInt) → Part false (big_int_items field it)
big_int_part field it = Inside field (h.BigInt (string_bytes it.raw)) refl Nothing

regex_part : (field : ℕ) (it : v_regex.Regex) → Part false (regex_items field it)
regex_part field it = Inside field (h.Regex (string_bytes it.raw)) refl Nothing

tpl_element_part : (field : ℕ) (it : v_tpl_element.TplElement) → Part false (tpl_element_items field it)
tpl_element_part field it = Inside field (h.TplElement (string_bytes it.raw)) refl Nothing

lit_part : (field : ℕ) (it : v_lit.Lit) → Part false (lit_items field it)
lit_part field (i_lit.Str it) = str_part field it
lit_part field (i_lit.Bool value) = Inside field (h.Bool value) refl Nothing
lit_part field i_lit.Null = Inside field h.Null refl Nothing
lit_part field (i_lit.Number it) = number_part field it
lit_part field (i_lit.BigInt it) = big_int_part field it
lit_part field (i_lit.Regex it) = regex_part field it

-- All that leads back to itself.

mutual
  unfolding stmt_items

  pub stmt_part : (field : ℕ) (it : v_stmt.Stmt) → Part false (stmt_items field it)
  stmt_part field (v_stmt.BlockStmt' _ stmts) = Inside field h.BlockStmt refl (row_of_stmt_part 0 stmts)
  stmt_part field v_stmt.EmptyStmt = Inside field h.EmptyStmt refl Nothing
  stmt_part field v_stmt.DebuggerStmt = Inside field h.DebuggerStmt refl Nothing
  stmt_part field (v_stmt.WithStmt' obj _ body) = Inside field h.WithStmt refl (Joined (expr_part 0 obj) (stmt_part 1 body))
  stmt_part field (v_stmt.ReturnStmt' arg) = Inside field h.ReturnStmt refl (held_option_expr_part 0 arg)
  stmt_part field (v_stmt.LabeledStmt' label _ body) = Inside field h.LabeledStmt refl (Joined (ident_name_part 0 label) (stmt_part 1 body))
  stmt_part field (v_stmt.BreakStmt label) = Inside field h.BreakStmt refl (option_part (ident_name_items 0) (λ it. ident_name_part 0 it) label)
  stmt_part field (v_stmt.ContinueStmt label) = Inside field h.ContinueStmt refl (option_part (ident_name_items 0) (λ it. ident_name_part 0 it) label)
  stmt_part field (v_stmt.IfStmt' test _ cons alt) = Inside field h.IfStmt refl (Joined (expr_part 0 test) (Joined (stmt_part 1 cons) (held_option_boxed_stmt_part 2 alt)))
  stmt_part field (v_stmt.SwitchStmt' discriminant _ cases) = Inside field h.SwitchStmt refl (Joined (expr_part 0 discriminant) (row_of_switch_case_part 1 cases))
  stmt_part field (v_stmt.ThrowStmt arg) = Inside field h.ThrowStmt refl (expr_part 0 arg)
  stmt_part field (v_stmt.TryStmt' _ stmts handler finalizer) = Inside field h.TryStmt refl (Joined (Inside 0 h.BlockStmt refl (row_of_stmt_part 0 stmts)) (Joined (held_option_catch_clause_part 1 handler) (held_option_block_stmt_part 2 finalizer)))
  stmt_part field (v_stmt.WhileStmt' test _ body) = Inside field h.WhileStmt refl (Joined (expr_part 0 test) (stmt_part 1 body))
  stmt_part field (v_stmt.DoWhileStmt' _ body test) = Inside field h.DoWhileStmt refl (Joined (stmt_part 0 body) (expr_part 1 test))
  stmt_part field (v_stmt.ForStmt' init test update _ body) = Inside field h.ForStmt refl (Joined (held_option_for_init_part 0 init) (Joined (held_option_expr_part 1 test) (Joined (held_option_expr_part 2 update) (stmt_part 3 body))))
  stmt_part field (v_stmt.ForInStmt' left right _ body) = Inside field h.ForInStmt refl (Joined (for_head_part 0 left) (Joined (expr_part 1 right) (stmt_part 2 body)))
  stmt_part field (v_stmt.ForOfStmt' is_await left right _ body) = Inside field (h.ForOfStmt is_await) refl (Joined (for_head_part 1 left) (Joined (expr_part 2 right) (stmt_part 3 body)))
  stmt_part field (v_stmt.Decl it) = decl_part field it
  stmt_part field (v_stmt.ExprStmt expr) = Inside field h.ExprStmt refl (expr_part 0 expr)

  pub for_init_part : (field : ℕ) (it : v_for_init.ForInit) → Part false (for_init_items field it)
  for_init_part field (v_for_init.VarDecl' kind _ decls meta) = Inside field (h.VarDecl kind meta) refl (row_of_var_declarator_part 1 decls)
  for_init_part field (v_for_init.Expr it) = expr_part field it

  pub for_head_part : (field : ℕ) (it : v_for_head.ForHead) → Part false (for_head_items field it)
  for_head_part field (v_for_head.VarDecl' kind _ decls meta) = Inside field (h.VarDecl kind meta) refl (row_of_var_declarator_part 1 decls)
  for_head_part field (v_for_head.Pat it) = pat_part r.Reference refl field it

  pub held_option_boxed_stmt_part : (field : ℕ) (it : block.Held-Stmt-IfStmt-2) → Part false (held_option_boxed_stmt field it)
  held_option_boxed_stmt_part field block.Stmt-IfStmt-2-None' = Nothing
  held_option_boxed_stmt_part field (block.Stmt-IfStmt-2-Some' _ it) = stmt_part field it

  pub held_option_block_stmt_part : (field : ℕ) (it : block.Held-Stmt-TryStmt-2) → Part false (held_option_block_stmt field it)
  held_option_block_stmt_part field block.Stmt-TryStmt-2-None' = Nothing
  held_option_block_stmt_part field (block.Stmt-TryStmt-2-Some' _ stmts) = Inside field h.BlockStmt refl (row_of_stmt_part 0 stmts)

  pub held_option_catch_clause_part : (field : ℕ) (it : block.Held-Stmt-TryStmt-1) → Part false (held_option_catch_clause field it)
  held_option_catch_clause_part field block.Stmt-TryStmt-1-None' = Nothing
  held_option_catch_clause_part field (block.Stmt-TryStmt-1-Some' param _ stmts) = Inside field h.CatchClause refl (Joined (held_option_pat_part r.Binding refl 0 param) (Inside 1 h.BlockStmt refl (row_of_stmt_part 0 stmts)))

  pub held_option_for_init_part : (field : ℕ) (it : block.Held-Stmt-ForStmt-0) → Part false (held_option_for_init field it)
  held_option_for_init_part field block.Stmt-ForStmt-0-None' = Nothing
  held_option_for_init_part field (block.Stmt-ForStmt-0-Some' it) = for_init_part field it

  pub row_of_stmt_part : (field : ℕ) {n : _} (it : block.Row_of-Stmt n) → Part false (row_of_stmt field it)
  row_of_stmt_part field block.end_of-Stmt = Nothing
  row_of_stmt_part field (block.more_of-Stmt it rest) = Joined (stmt_part field it) (row_of_stmt_part field rest)

  pub row_of_switch_case_part : (field : ℕ) {n : _} (it : block.Row_of-SwitchCase n) → Part false (row_of_switch_case field it)
  row_of_switch_case_part field block.end_of-SwitchCase = Nothing
  row_of_switch_case_part field (block.more_of-SwitchCase test _ cons rest) = Joined (Inside field h.SwitchCase refl (Joined (held_option_expr_part 0 test) (row_of_stmt_part 1 cons))) (row_of_switch_case_part field rest)

  pub decl_part : (field : ℕ) (it : v_decl.Decl) → Part false (decl_items field it)
  decl_part field (v_decl.ClassDecl' ident super_class _ body) = Inside field h.ClassDecl refl (Joined (ident_part r.Binding refl 0 ident) (Inside 1 h.Class refl (Joined (held_option_boxed_expr_part 0 super_class) (row_of_class_member_part 1 body))))
  decl_part field (v_decl.FnDecl' ident _ params _ stmts is_generator is_async) = Inside field h.FnDecl refl (Joined (ident_part r.Binding refl 0 ident) (Inside 1 (h.Function is_generator is_async) refl (Joined (row_of_param_part 0 params) (Inside 1 h.BlockStmt refl (row_of_stmt_part 0 stmts)))))
  decl_part field (v_decl.VarDecl' kind _ decls meta) = Inside field (h.VarDecl kind meta) refl (row_of_var_declarator_part 1 decls)

  pub row_of_var_declarator_part : (field : ℕ) {n : _} (it : block.Row_of-VarDeclarator n) → Part false (row_of_var_declarator field it)
  row_of_var_declarator_part field block.end_of-VarDeclarator = Nothing
  row_of_var_declarator_part field (block.more_of-VarDeclarator name init rest) = Joined (Inside field h.VarDeclarator refl (Joined (pat_part r.Binding refl 0 name) (held_option_expr_part 1 init))) (row_of_var_declarator_part field rest)

  pub expr_part : (field : ℕ) (it : v_expr.Expr) → Part false (expr_items field it)
  expr_part field v_expr.ThisExpr = Inside field h.ThisExpr refl Nothing
  expr_part field (v_expr.ArrayLit' _ elems) = Inside field h.ArrayLit refl (row_of_option_expr_or_spread_part 0 elems)
  expr_part field (v_expr.ObjectLit' _ props) = Inside field h.ObjectLit refl (row_of_prop_or_spread_part 0 props)
  expr_part field (v_expr.FnExpr' ident _ params _ stmts is_generator is_async) = Inside field h.FnExpr refl (Joined (option_part (ident_items r.Binding 0) (λ it. ident_part r.Binding refl 0 it) ident) (Inside 1 (h.Function is_generator is_async) refl (Joined (row_of_param_part 0 params) (Inside 1 h.BlockStmt refl (row_of_stmt_part 0 stmts)))))
  expr_part field (v_expr.UnaryExpr' op _ arg) = Inside field (h.UnaryExpr op) refl (expr_part 1 arg)
  expr_part field (v_expr.UpdateExpr' op prefix _ arg) = Inside field (h.UpdateExpr op prefix) refl (expr_part 2 arg)
  expr_part field (v_expr.BinExpr' op _ left _ right) = Inside field (h.BinExpr op) refl (Joined (expr_part 1 left) (expr_part 2 right))
  expr_part field (v_expr.AssignExpr' op left _ right) = Inside field (h.AssignExpr op) refl (Joined (assign_target_part 1 left) (expr_part 2 right))
  expr_part field (v_expr.MemberExpr' _ obj prop) = Inside field h.MemberExpr refl (Joined (expr_part 0 obj) (held_member_prop_part 1 prop))
  expr_part field (v_expr.SuperPropExpr' prop) = Inside field h.SuperPropExpr refl (held_super_prop_part 0 prop)
  expr_part field (v_expr.CondExpr' _ test _ cons _ alt) = Inside field h.CondExpr refl (Joined (expr_part 0 test) (Joined (expr_part 1 cons) (expr_part 2 alt)))
  expr_part field (v_expr.CallExpr' callee _ args) = Inside field h.CallExpr refl (Joined (held_callee_part 0 callee) (row_of_expr_or_spread_part 1 args))
  expr_part field (v_expr.NewExpr' _ callee args) = Inside field (h.NewExpr (is_given args)) refl (Joined (expr_part 0 callee) (held_option_each_expr_or_spread_part 1 args))
  expr_part field (v_expr.SeqExpr' _ exprs) = Inside field h.SeqExpr refl (row_of_expr_part 0 exprs)
  expr_part field (v_expr.Ident it) = ident_part r.Reference refl field it
  expr_part field (v_expr.Lit it) = lit_part field it
  expr_part field (v_expr.Tpl' _ exprs quasis) = Inside field h.Tpl refl (Joined (row_of_expr_part 0 exprs) (each_part (tpl_element_items 1) (λ it. tpl_element_part 1 it) quasis.items))
  expr_part field (v_expr.TaggedTpl' _ tag _ exprs quasis) = Inside field h.TaggedTpl refl (Joined (expr_part 0 tag) (Inside 1 h.Tpl refl (Joined (row_of_expr_part 0 exprs) (each_part (tpl_element_items 1) (λ it. tpl_element_part 1 it) quasis.items))))
  expr_part field (v_expr.ArrowExpr' _ params body is_async) = Inside field (h.ArrowExpr is_async) refl (Joined (row_of_pat_part r.Binding refl 0 params) (arrow_body_part 1 body))
  expr_part field (v_expr.ClassExpr' ident super_class _ body) = Inside field h.ClassExpr refl (Joined (option_part (ident_items r.Binding 0) (λ it. ident_part r.Binding refl 0 it) ident) (Inside 1 h.Class refl (Joined (held_option_boxed_expr_part 0 super_class) (row_of_class_member_part 1 body))))
  expr_part field (v_expr.YieldExpr' arg delegate) = Inside field (h.YieldExpr delegate) refl (held_option_boxed_expr_part 0 arg)
  expr_part field (v_expr.MetaPropExpr kind) = Inside field (h.MetaPropExpr kind) refl Nothing
  expr_part field (v_expr.AwaitExpr' _ arg) = Inside field h.AwaitExpr refl (expr_part 0 arg)
  expr_part field (v_expr.ParenExpr' _ expr) = Inside field h.ParenExpr refl (expr_part 0 expr)
  expr_part field (v_expr.PrivateName it) = private_name_part field it
  expr_part field (v_expr.OptChainExpr' optional base) = Inside field (h.OptChainExpr optional) refl (held_opt_chain_base_part 1 base)

  pub arrow_body_part : (field : ℕ) (it : v_arrow_body.ArrowBody) → Part false (arrow_body_items field it)
  arrow_body_part field (v_arrow_body.BlockStmt' _ stmts) = Inside field h.BlockStmt refl (row_of_stmt_part 0 stmts)
  arrow_body_part field (v_arrow_body.Expr' _ it) = expr_part field it

  pub held_callee_part : (field : ℕ) (it : block.Held-Expr-CallExpr-0) → Part false (held_callee field it)
  held_callee_part field block.Super' = Inside field h.Super refl Nothing
  held_callee_part field block.Import' = Inside field h.Import refl Nothing
  held_callee_part field (block.Expr-CallExpr-0-Expr' _ it) = expr_part field it

  pub held_opt_chain_base_part : (field : ℕ) (it : block.Held-Expr-OptChainExpr-1) → Part false (held_opt_chain_base field it)
  held_opt_chain_base_part field (block.Expr-OptChainExpr-1-MemberExpr' _ obj prop) = Inside field h.MemberExpr refl (Joined (expr_part 0 obj) (held_member_prop_part 1 prop))
  held_opt_chain_base_part field (block.OptCall' _ callee _ args) = Inside field h.OptCall refl (Joined (expr_part 0 callee) (row_of_expr_or_spread_part 1 args))

  pub held_option_expr_part : (field : ℕ) (it : block.Held-ClassMember-ClassProp-1) → Part false (held_option_expr field it)
  held_option_expr_part field block.ClassMember-ClassProp-1-None' = Nothing
  held_option_expr_part field (block.ClassMember-ClassProp-1-Some' it) = expr_part field it

  pub held_option_boxed_expr_part : (field : ℕ) (it : block.Held-Expr-YieldExpr-0) → Part false (held_option_boxed_expr field it)
  held_option_boxed_expr_part field block.Expr-YieldExpr-0-None' = Nothing
  held_option_boxed_expr_part field (block.Expr-YieldExpr-0-Some' _ it) = expr_part field it

  pub place_of_expr_or_spread_part : (field : ℕ) (it : block.Held-Expr-ArrayLit-0-3) → Part false (place_of_expr_or_spread field it)
  place_of_expr_or_spread_part field block.Expr-ArrayLit-0-3-None' = Hole field
  place_of_expr_or_spread_part field (block.Expr-ArrayLit-0-3-Some' spread expr) = Inside field (h.ExprOrSpread spread) refl (expr_part 1 expr)

  pub held_option_each_expr_or_spread_part : (field : ℕ) (it : block.Held-Expr-NewExpr-1) → Part false (held_option_each_expr_or_spread field it)
  held_option_each_expr_or_spread_part field block.Expr-NewExpr-1-None' = Nothing
  held_option_each_expr_or_spread_part field (block.Expr-NewExpr-1-Some' _ row) = row_of_expr_or_spread_part field row

  pub row_of_expr_part : (field : ℕ) {n : _} (it : block.Row_of-Expr n) → Part false (row_of_expr field it)
  row_of_expr_part field block.end_of-Expr = Nothing
  row_of_expr_part field (block.more_of-Expr it rest) = Joined (expr_part field it) (row_of_expr_part field rest)

  pub row_of_expr_or_spread_part : (field : ℕ) {n : _} (it : block.Row_of-Expr-CallExpr-1-2 n) → Part false (row_of_expr_or_spread field it)
  row_of_expr_or_spread_part field block.end_of-Expr-CallExpr-1-2 = Nothing
  row_of_expr_or_spread_part field (block.more_of-Expr-CallExpr-1-2 spread expr rest) = Joined (Inside field (h.ExprOrSpread spread) refl (expr_part 1 expr)) (row_of_expr_or_spread_part field rest)

  pub row_of_option_expr_or_spread_part : (field : ℕ) {n : _} (it : block.Row_of-Expr-ArrayLit-0-3 n) → Part false (row_of_option_expr_or_spread field it)
  row_of_option_expr_or_spread_part field block.end_of-Expr-ArrayLit-0-3 = Nothing
  row_of_option_expr_or_spread_part field (block.more_of-Expr-ArrayLit-0-3 it rest) = Joined (place_of_expr_or_spread_part field it) (row_of_option_expr_or_spread_part field rest)

  pub prop_or_spread_part : (field : ℕ) (it : v_prop_or_spread.PropOrSpread) → Part true (prop_or_spread_items field it)
  prop_or_spread_part field (v_prop_or_spread.SpreadElement expr) = Inside field h.SpreadElement refl (expr_part 0 expr)
  prop_or_spread_part field (v_prop_or_spread.Prop it) = prop_part field it

  pub prop_part : (field : ℕ) (it : v_prop.Prop) → Part true (prop_items field it)
  prop_part field (v_prop.Shorthand it) = ident_part r.Reference refl field it
  prop_part field (v_prop.KeyValueProp' key value) = Inside field h.KeyValueProp refl (Joined (held_prop_name_part 0 key) (expr_part 1 value))
  prop_part field (v_prop.GetterProp' key _ stmts) = Inside field h.GetterProp refl (Joined (held_prop_name_part 0 key) (Inside 1 h.BlockStmt refl (row_of_stmt_part 0 stmts)))
  prop_part field (v_prop.SetterProp' key param _ stmts) = Inside field h.SetterProp refl (Joined (held_prop_name_part 0 key) (Joined (pat_part r.Binding refl 1 param) (Inside 2 h.BlockStmt refl (row_of_stmt_part 0 stmts))))
  prop_part field (v_prop.MethodProp' key _ params _ stmts is_generator is_async) = Inside field h.MethodProp refl (Joined (held_prop_name_part 0 key) (Inside 1 (h.Function is_generator is_async) refl (Joined (row_of_param_part 0 params) (Inside 1 h.BlockStmt refl (row_of_stmt_part 0 stmts)))))

  pub held_prop_name_part : (field : ℕ) (it : block.Held-ClassMember-ClassMethod-0) → Part false (held_prop_name field it)
  held_prop_name_part field (block.ClassMember-ClassMethod-0-IdentName' it) = ident_name_part field it
  held_prop_name_part field (block.Str' it) = str_part field it
  held_prop_name_part field (block.Number' it) = number_part field it
  held_prop_name_part field (block.BigInt' it) = big_int_part field it
  held_prop_name_part field (block.ClassMember-ClassMethod-0-ComputedPropName' _ expr) = Inside field h.ComputedPropName refl (expr_part 0 expr)

  pub held_member_prop_part : (field : ℕ) (it : block.Held-Expr-MemberExpr-0-7) → Part false (held_member_prop field it)
  held_member_prop_part field (block.Expr-MemberExpr-0-7-IdentName' it) = ident_name_part field it
  held_member_prop_part field (block.Expr-MemberExpr-0-7-PrivateName' it) = private_name_part field it
  held_member_prop_part field (block.Expr-MemberExpr-0-7-ComputedPropName' _ expr) = Inside field h.ComputedPropName refl (expr_part 0 expr)

  pub held_super_prop_part : (field : ℕ) (it : block.Held-Expr-SuperPropExpr-0-4) → Part false (held_super_prop field it)
  held_super_prop_part field (block.Expr-SuperPropExpr-0-4-IdentName' it) = ident_name_part field it
  held_super_prop_part field (block.Expr-SuperPropExpr-0-4-ComputedPropName' _ expr) = Inside field h.ComputedPropName refl (expr_part 0 expr)

  pub row_of_prop_or_spread_part : (field : ℕ) {n : _} (it : block.Row_of-PropOrSpread n) → Part true (row_of_prop_or_spread field it)
  row_of_prop_or_spread_part field block.end_of-PropOrSpread = Nothing
  row_of_prop_or_spread_part field (block.more_of-PropOrSpread it rest) = Joined (prop_or_spread_part field it) (row_of_prop_or_spread_part field rest)

  pub pat_part : (role : Role) (occurs : is_occurrence role ≡ true) (field : ℕ) (it : v_pat.Pat) → Part false (pat_items role field it)
  pat_part role occurs field (v_pat.BindingIdent it) = binding_ident_part role occurs field it
  pat_part role occurs field (v_pat.ArrayPat' _ elems) = Inside field h.ArrayPat refl (row_of_option_pat_part role occurs 0 elems)
  pat_part role occurs field (v_pat.RestPat' _ arg) = Inside field h.RestPat refl (pat_part role occurs 0 arg)
  pat_part role occurs field (v_pat.ObjectPat' _ props) = Inside field h.ObjectPat refl (row_of_object_pat_prop_part role occurs 0 props)
  pat_part role occurs field (v_pat.AssignPat' _ left _ right) = Inside field h.AssignPat refl (Joined (pat_part role occurs 0 left) (expr_part 1 right))
  pat_part role occurs field (v_pat.Expr' _ it) = expr_part field it

  pub object_pat_prop_part : (role : Role) (occurs : is_occurrence role ≡ true) (field : ℕ) (it : v_object_pat_prop.ObjectPatProp) → Part false (object_pat_prop_items role field it)
  object_pat_prop_part role occurs field (v_object_pat_prop.KeyValuePatProp' key value) = Inside field h.KeyValuePatProp refl (Joined (held_prop_name_part 0 key) (pat_part role occurs 1 value))
  object_pat_prop_part role occurs field (v_object_pat_prop.AssignPatProp' key value) = Shorthand field (string_bytes key.id.sym) key.id.ctxt role occurs (held_option_expr_part 1 value)
  object_pat_prop_part role occurs field (v_object_pat_prop.RestPat' _ arg) = Inside field h.RestPat refl (pat_part role occurs 0 arg)

  pub assign_target_part : (field : ℕ) (it : v_assign_target.AssignTarget) → Part false (assign_target_items field it)
  assign_target_part field (v_assign_target.BindingIdent it) = binding_ident_part r.Reference refl field it
  assign_target_part field (v_assign_target.MemberExpr' _ obj prop) = Inside field h.MemberExpr refl (Joined (expr_part 0 obj) (held_member_prop_part 1 prop))
  assign_target_part field (v_assign_target.SuperPropExpr' prop) = Inside field h.SuperPropExpr refl (held_super_prop_part 0 prop)
  assign_target_part field (v_assign_target.ParenExpr' _ expr) = Inside field h.ParenExpr refl (expr_part 0 expr)
  assign_target_part field (v_assign_target.ArrayPat' _ elems) = Inside field h.ArrayPat refl (row_of_option_pat_part r.Reference refl 0 elems)
  assign_target_part field (v_assign_target.ObjectPat' _ props) = Inside field h.ObjectPat refl (row_of_object_pat_prop_part r.Reference refl 0 props)

  pub held_option_pat_part : (role : Role) (occurs : is_occurrence role ≡ true) (field : ℕ) (it : block.Held-AssignTarget-ArrayPat-0-1) → Part false (held_option_pat role field it)
  held_option_pat_part role occurs field block.AssignTarget-ArrayPat-0-1-None' = Nothing
  held_option_pat_part role occurs field (block.AssignTarget-ArrayPat-0-1-Some' it) = pat_part role occurs field it

  pub place_of_pat_part : (role : Role) (occurs : is_occurrence role ≡ true) (field : ℕ) (it : block.Held-AssignTarget-ArrayPat-0-1) → Part false (place_of_pat role field it)
  place_of_pat_part role occurs field block.AssignTarget-ArrayPat-0-1-None' = Hole field
  place_of_pat_part role occurs field (block.AssignTarget-ArrayPat-0-1-Some' it) = pat_part role occurs field it

  pub row_of_pat_part : (role : Role) (occurs : is_occurrence role ≡ true) (field : ℕ) {n : _} (it : block.Row_of-Pat n) → Part false (row_of_pat role field it)
  row_of_pat_part role occurs field block.end_of-Pat = Nothing
  row_of_pat_part role occurs field (block.more_of-Pat it rest) = Joined (pat_part role occurs field it) (row_of_pat_part role occurs field rest)

  pub row_of_option_pat_part : (role : Role) (occurs : is_occurrence role ≡ true) (field : ℕ) {n : _} (it : block.Row_of-AssignTarget-ArrayPat-0-1 n) → Part false (row_of_option_pat role field it)
  row_of_option_pat_part role occurs field block.end_of-AssignTarget-ArrayPat-0-1 = Nothing
  row_of_option_pat_part role occurs field (block.more_of-AssignTarget-ArrayPat-0-1 it rest) = Joined (place_of_pat_part role occurs field it) (row_of_option_pat_part role occurs field rest)

  pub row_of_object_pat_prop_part : (role : Role) (occurs : is_occurrence role ≡ true) (field : ℕ) {n : _} (it : block.Row_of-ObjectPatProp n) → Part false (row_of_object_pat_prop role field it)
  row_of_object_pat_prop_part role occurs field block.end_of-ObjectPatProp = Nothing
  row_of_object_pat_prop_part role occurs field (block.more_of-ObjectPatProp it rest) = Joined (object_pat_prop_part role occurs field it) (row_of_object_pat_prop_part role occurs field rest)

  pub class_member_part : (field : ℕ) (it : v_class_member.ClassMember) → Part false (class_member_items field it)
  class_member_part field (v_class_member.Constructor' _ params _ stmts) = Inside field h.Constructor refl (Joined (row_of_param_part 0 params) (Inside 1 h.BlockStmt refl (row_of_stmt_part 0 stmts)))
  class_member_part field (v_class_member.ClassMethod' key _ params _ stmts is_generator is_async kind is_static) = Inside field (h.ClassMethod kind is_static) refl (Joined (held_prop_name_part 0 key) (Inside 1 (h.Function is_generator is_async) refl (Joined (row_of_param_part 0 params) (Inside 1 h.BlockStmt refl (row_of_stmt_part 0 stmts)))))
  class_member_part field (v_class_member.PrivateMethod' key _ params _ stmts is_generator is_async kind is_static) = Inside field (h.PrivateMethod kind is_static) refl (Joined (private_name_part 0 key) (Inside 1 (h.Function is_generator is_async) refl (Joined (row_of_param_part 0 params) (Inside 1 h.BlockStmt refl (row_of_stmt_part 0 stmts)))))
  class_member_part field (v_class_member.ClassProp' key value is_static) = Inside field (h.ClassProp is_static) refl (Joined (held_prop_name_part 0 key) (held_option_expr_part 1 value))
  class_member_part field (v_class_member.PrivateProp' key value is_static) = Inside field (h.PrivateProp is_static) refl (Joined (private_name_part 0 key) (held_option_expr_part 1 value))
  class_member_part field (v_class_member.StaticBlock' _ stmts) = Inside field h.StaticBlock refl (Inside 0 h.BlockStmt refl (row_of_stmt_part 0 stmts))
  class_member_part field v_class_member.EmptyStmt = Inside field h.EmptyStmt refl Nothing

  pub row_of_param_part : (field : ℕ) {n : _} (it : block.Row_of-ClassMember-Constructor-0-1 n) → Part false (row_of_param field it)
  row_of_param_part field block.end_of-ClassMember-Constructor-0-1 = Nothing
  row_of_param_part field (block.more_of-ClassMember-Constructor-0-1 pat rest) = Joined (Inside field h.Param refl (pat_part r.Binding refl 0 pat)) (row_of_param_part field rest)

  pub row_of_class_member_part : (field : ℕ) {n : _} (it : block.Row_of-ClassMember n) → Part false (row_of_class_member field it)
  row_of_class_member_part field block.end_of-ClassMember = Nothing
  row_of_class_member_part field (block.more_of-ClassMember it rest) = Joined (class_member_part field it) (row_of_class_member_part field rest)

-- Modules.

plain_name : (field : ℕ) (it : v_module_export_name.ModuleExportName) → IsPlainName (module_export_name_items r.Word field it)
plain_name field (i_module_export_name.Ident it) = word field (string_bytes it.sym) it.ctxt
plain_name field (i_module_export_name.Str it) = text field (string_bytes it.value) (option_map string_bytes it.raw)

import_specifier_part : (field : ℕ) (it : v_import_specifier.ImportSpecifier) → Part false (import_specifier_items field it)
import_specifier_part field (i_import_specifier.ImportNamedSpecifier local None) = Specifier field h.ImportNamedSpecifier refl (alone 0 (string_bytes local.sym) local.ctxt r.Binding refl)
import_specifier_part field (i_import_specifier.ImportNamedSpecifier local (Some name)) = Specifier field h.ImportNamedSpecifier refl (named 0 (string_bytes local.sym) local.ctxt r.Binding refl (plain_name 1 name))
import_specifier_part field (i_import_specifier.ImportDefaultSpecifier local) = Inside field h.ImportDefaultSpecifier refl (ident_part r.Binding refl 0 local)
import_specifier_part field (i_import_specifier.ImportStarAsSpecifier local) = Inside field h.ImportStarAsSpecifier refl (ident_part r.Binding refl 0 local)

-- a specifier with a name of this module
export_part : (field : ℕ) (it : v_export_specifier.ExportSpecifier) → Part false (export_specifier_items r.Reference field it)
export_part field (i_export_specifier.ExportNamespaceSpecifier name) = Inside field h.ExportNamespaceSpecifier refl (Plain (plain_name 0 name))
export_part field (i_export_specifier.ExportNamedSpecifier (i_module_export_name.Ident it) None) = Specifier field h.ExportNamedSpecifier refl (alone 0 (string_bytes it.sym) it.ctxt r.Reference refl)
export_part field (i_export_specifier.ExportNamedSpecifier (i_module_export_name.Ident it) (Some name)) = Specifier field h.ExportNamedSpecifier refl (named 0 (string_bytes it.sym) it.ctxt r.Reference refl (plain_name 1 name))
export_part field (i_export_specifier.ExportNamedSpecifier (i_module_export_name.Str it) None) = Specifier field h.ExportNamedSpecifier refl (plain (text 0 (string_bytes it.value) (option_map string_bytes it.raw)))
export_part field (i_export_specifier.ExportNamedSpecifier (i_module_export_name.Str it) (Some name)) = Specifier field h.ExportNamedSpecifier refl (plains (text 0 (string_bytes it.value) (option_map string_bytes it.raw)) (plain_name 1 name))

-- a specifier with a name of another module
reexport_part : (field : ℕ) (it : v_export_specifier.ExportSpecifier) → Part false (export_specifier_items r.Word field it)
reexport_part field (i_export_specifier.ExportNamespaceSpecifier name) = Inside field h.ExportNamespaceSpecifier refl (Plain (plain_name 0 name))
reexport_part field (i_export_specifier.ExportNamedSpecifier (i_module_export_name.Ident it) None) = Specifier field h.ExportNamedSpecifier refl (plain (word 0 (string_bytes it.sym) it.ctxt))
reexport_part field (i_export_specifier.ExportNamedSpecifier (i_module_export_name.Ident it) (Some name)) = Specifier field h.ExportNamedSpecifier refl (plains (word 0 (string_bytes it.sym) it.ctxt) (plain_name 1 name))
reexport_part field (i_export_specifier.ExportNamedSpecifier (i_module_export_name.Str it) None) = Specifier field h.ExportNamedSpecifier refl (plain (text 0 (string_bytes it.value) (option_map string_bytes it.raw)))
reexport_part field (i_export_specifier.ExportNamedSpecifier (i_module_export_name.Str it) (Some name)) = Specifier field h.ExportNamedSpecifier refl (plains (text 0 (string_bytes it.value) (option_map string_bytes it.raw)) (plain_name 1 name))

class_part : (field : ℕ) (it : v_class.Class) → Part false (class_items field it)
class_part field it = Inside field h.Class refl (Joined (held_option_boxed_expr_part 0 (block.back-Expr-YieldExpr-0 (v_class.out-Class it).super_class)) (row_of_class_member_part 1 (block.hidden-the_row-ClassMember-2 (v_class.out-Class it).body)))

function_part : (field : ℕ) (it : v_function.Function) → Part false (function_items field it)
function_part field it = Inside field (h.Function (v_function.out-Function it).is_generator (v_function.out-Function it).is_async) refl (Joined (row_of_param_part 0 (block.hidden-the_row-ClassMember-Constructor-0-1-0 (v_function.out-Function it).params)) (Inside 1 h.BlockStmt refl (row_of_stmt_part 0 (block.hidden-the_row-Stmt-1 (v_function.out-Function it).body.stmts))))

default_decl_part : (field : ℕ) (it : v_default_decl.DefaultDecl) → Part false (default_decl_items field it)
default_decl_part field (i_default_decl.ClassExpr ident class) = Inside field h.ClassExpr refl (Joined (option_part (ident_items r.Binding 0) (λ it. ident_part r.Binding refl 0 it) ident) (class_part 1 class))
default_decl_part field (i_default_decl.FnExpr ident function) = Inside field h.FnExpr refl (Joined (option_part (ident_items r.Binding 0) (λ it. ident_part r.Binding refl 0 it) ident) (function_part 1 function))

module_decl_part : (field : ℕ) (it : v_module_decl.ModuleDecl) → Part false (module_decl_items field it)
module_decl_part field (i_module_decl.ImportDecl specifiers src meta) = Inside field (h.ImportDecl meta) refl (Joined (each_part (import_specifier_items 0) (λ it. import_specifier_part 0 it) specifiers.items) (str_part 1 src))
module_decl_part field (i_module_decl.ExportDecl decl) = Inside field h.ExportDecl refl (decl_part 0 decl)
module_decl_part field (i_module_decl.NamedExport specifiers None meta) = Inside field (h.NamedExport meta) refl (Joined (each_part (export_specifier_items r.Reference 0) (λ it. export_part 0 it) specifiers.items) Nothing)
module_decl_part field (i_module_decl.NamedExport specifiers (Some src) meta) = Inside field (h.NamedExport meta) refl (Joined (each_part (export_specifier_items r.Word 0) (λ it. reexport_part 0 it) specifiers.items) (str_part 1 src))
module_decl_part field (i_module_decl.ExportDefaultDecl decl) = Inside field h.ExportDefaultDecl refl (default_decl_part 0 decl)
module_decl_part field (i_module_decl.ExportDefaultExpr expr) = Inside field h.ExportDefaultExpr refl (expr_part 0 expr)
module_decl_part field (i_module_decl.ExportAll src meta) = Inside field (h.ExportAll meta) refl (str_part 0 src)

module_item_part : (field : ℕ) (it : v_module_item.ModuleItem) → Part false (module_item_items field it)
module_item_part field (i_module_item.ModuleDecl it) = module_decl_part field it
module_item_part field (i_module_item.Stmt it) = stmt_part field it

-- the items of a module
pub items_part : (items : List v_module_item.ModuleItem) → Part false (flat_map (module_item_items 0) items)
items_part items = each_part (module_item_items 0) (λ it. module_item_part 0 it) items
