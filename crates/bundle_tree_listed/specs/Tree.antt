-- The list of a syntax tree, in the order of the source (ECMA-262, 12 to 16). In each definition
-- `field` is the number of the field in which the node stands, and `role` what the names of a
-- pattern are.
use Rattle.std.specs.Prelude.{ℕ, Bool as Truth, true, false, List, [], ◌∷◌, ◌++◌, Option, Some, None, Box, option_map, string_bytes}
use Rattle.std.specs.List.{flat_map}
use Rattle.std.specs.declared.vec.Vec.{Vec}
use Rattle.std.specs.declared.alloc.Global.{Global}
use Rattle.bundle_syntax.specs.declared.ident.Ident as v_ident
use Rattle.bundle_syntax.specs.declared.ident.IdentName as v_ident_name
use Rattle.bundle_syntax.specs.declared.ident.PrivateName as v_private_name
use Rattle.bundle_syntax.specs.declared.ident.BindingIdent as v_binding_ident
use Rattle.bundle_syntax.specs.declared.lit.Str as v_str
use Rattle.bundle_syntax.specs.declared.lit.Number as v_number
use Rattle.bundle_syntax.specs.declared.lit.BigInt as v_big_int
use Rattle.bundle_syntax.specs.declared.lit.Regex as v_regex
use Rattle.bundle_syntax.specs.declared.lit.Lit as v_lit
use Rattle.bundle_syntax.specs.declared.lit.Lit.TheVariants as i_lit
use Rattle.bundle_syntax.specs.declared.lit.TplElement as v_tpl_element
use Rattle.bundle_syntax.specs.declared.specifier.ModuleExportName as v_module_export_name
use Rattle.bundle_syntax.specs.declared.specifier.ModuleExportName.TheVariants as i_module_export_name
use Rattle.bundle_syntax.specs.declared.specifier.ImportSpecifier as v_import_specifier
use Rattle.bundle_syntax.specs.declared.specifier.ImportSpecifier.TheVariants as i_import_specifier
use Rattle.bundle_syntax.specs.declared.specifier.ExportSpecifier as v_export_specifier
use Rattle.bundle_syntax.specs.declared.specifier.ExportSpecifier.TheVariants as i_export_specifier
use Rattle.bundle_tree_ast.specs.declared.module.Module as v_module
use Rattle.bundle_tree_ast.specs.declared.module.ModuleItem as v_module_item
use Rattle.bundle_tree_ast.specs.declared.module.ModuleItem.TheVariants as i_module_item
use Rattle.bundle_tree_ast.specs.declared.module.ModuleDecl as v_module_decl
use Rattle.bundle_tree_ast.specs.declared.module.ModuleDecl.TheVariants as i_module_decl
use Rattle.bundle_tree_ast.specs.declared.module.DefaultDecl as v_default_decl
use Rattle.bundle_tree_ast.specs.declared.module.DefaultDecl.TheVariants as i_default_decl
use Rattle.bundle_tree_ast.specs.declared.stmt.BlockStmt as v_block_stmt
use Rattle.bundle_tree_ast.specs.declared.stmt.Stmt as v_stmt
use Rattle.bundle_tree_ast.specs.declared.stmt.SwitchCase as v_switch_case
use Rattle.bundle_tree_ast.specs.declared.stmt.CatchClause as v_catch_clause
use Rattle.bundle_tree_ast.specs.declared.stmt.ForInit as v_for_init
use Rattle.bundle_tree_ast.specs.declared.stmt.ForHead as v_for_head
use Rattle.bundle_tree_ast.specs.declared.decl.Decl as v_decl
use Rattle.bundle_tree_ast.specs.declared.decl.VarDecl as v_var_decl
use Rattle.bundle_tree_ast.specs.declared.decl.VarDeclarator as v_var_declarator
use Rattle.bundle_tree_ast.specs.declared.expr.Expr as v_expr
use Rattle.bundle_tree_ast.specs.declared.expr.ParenExpr as v_paren_expr
use Rattle.bundle_tree_ast.specs.declared.expr.MemberExpr as v_member_expr
use Rattle.bundle_tree_ast.specs.declared.expr.SuperPropExpr as v_super_prop_expr
use Rattle.bundle_tree_ast.specs.declared.expr.Callee as v_callee
use Rattle.bundle_tree_ast.specs.declared.expr.ExprOrSpread as v_expr_or_spread
use Rattle.bundle_tree_ast.specs.declared.expr.ArrowBody as v_arrow_body
use Rattle.bundle_tree_ast.specs.declared.expr.OptChainBase as v_opt_chain_base
use Rattle.bundle_tree_ast.specs.declared.expr.OptCall as v_opt_call
use Rattle.bundle_tree_ast.specs.declared.expr.Tpl as v_tpl
use Rattle.bundle_tree_ast.specs.declared.prop.PropOrSpread as v_prop_or_spread
use Rattle.bundle_tree_ast.specs.declared.prop.Prop as v_prop
use Rattle.bundle_tree_ast.specs.declared.prop.KeyValueProp as v_key_value_prop
use Rattle.bundle_tree_ast.specs.declared.prop.ComputedPropName as v_computed_prop_name
use Rattle.bundle_tree_ast.specs.declared.prop.PropName as v_prop_name
use Rattle.bundle_tree_ast.specs.declared.prop.MemberProp as v_member_prop
use Rattle.bundle_tree_ast.specs.declared.prop.SuperProp as v_super_prop
use Rattle.bundle_tree_ast.specs.declared.pat.Pat as v_pat
use Rattle.bundle_tree_ast.specs.declared.pat.ArrayPat as v_array_pat
use Rattle.bundle_tree_ast.specs.declared.pat.RestPat as v_rest_pat
use Rattle.bundle_tree_ast.specs.declared.pat.ObjectPat as v_object_pat
use Rattle.bundle_tree_ast.specs.declared.pat.ObjectPatProp as v_object_pat_prop
use Rattle.bundle_tree_ast.specs.declared.pat.AssignTarget as v_assign_target
use Rattle.bundle_tree_ast.specs.declared.class.Function as v_function
use Rattle.bundle_tree_ast.specs.declared.class.Param as v_param
use Rattle.bundle_tree_ast.specs.declared.class.Class as v_class
use Rattle.bundle_tree_ast.specs.declared.class.ClassMember as v_class_member
use Rattle.bundle_tree_ast.specs.declared.class.ClassMember.TheBlock as block
use Rattle.bundle_syntax.specs.declared.piece.Role.TheVariants as r
use Rattle.bundle_syntax.specs.declared.piece.Role.{Role}
use Rattle.bundle_syntax.specs.Item as h
use Rattle.bundle_syntax.specs.Item.{Item, Head}

-- a node: its beginning, what stands inside, its end
abbrev pub node : ℕ → Head → List Item → List Item
node field head inside = h.Open field head ∷ (inside ++ (h.Close ∷ []))

-- nothing where there is none
abbrev pub option_items : {A : Type 0} → (A → List Item) → Option A → List Item
option_items items None = []
option_items items (Some it) = items it

-- Names and literals (ECMA-262, 12.7 and 13.2.3).

abbrev pub ident_items : Role → ℕ → v_ident.Ident → List Item
ident_items role field it = h.Ident field (string_bytes it.sym) it.ctxt role ∷ []

abbrev pub ident_name_items : ℕ → v_ident_name.IdentName → List Item
ident_name_items field it = node field (h.IdentName (string_bytes it.sym)) []

abbrev pub private_name_items : ℕ → v_private_name.PrivateName → List Item
private_name_items field it = node field (h.PrivateName (string_bytes it.sym)) []

abbrev pub binding_ident_items : Role → ℕ → v_binding_ident.BindingIdent → List Item
binding_ident_items role field it = node field h.BindingIdent (ident_items role 0 it.id)

abbrev pub str_items : ℕ → v_str.Str → List Item
str_items field it = node field (h.Str (string_bytes it.value) (option_map string_bytes it.raw)) []

abbrev pub number_items : ℕ → v_number.Number → List Item
number_items field it = node field (h.Number (string_bytes it.raw)) []

abbrev pub big_int_items : ℕ → v_big_int.BigInt → List Item
big_int_items field it = node field (h.BigInt (string_bytes it.raw)) []

abbrev pub regex_items : ℕ → v_regex.Regex → List Item
regex_items field it = node field (h.Regex (string_bytes it.raw)) []

abbrev pub tpl_element_items : ℕ → v_tpl_element.TplElement → List Item
tpl_element_items field it = node field (h.TplElement (string_bytes it.raw)) []

abbrev pub lit_items : ℕ → v_lit.Lit → List Item
lit_items field (i_lit.Str it) = str_items field it
lit_items field (i_lit.Bool value) = node field (h.Bool value) []
lit_items field i_lit.Null = node field h.Null []
lit_items field (i_lit.Number it) = number_items field it
lit_items field (i_lit.BigInt it) = big_int_items field it
lit_items field (i_lit.Regex it) = regex_items field it

-- whether a `new` has a list of arguments
abbrev pub is_given : block.Held-Expr-NewExpr-1 → Truth
is_given block.Expr-NewExpr-1-None' = false
is_given (block.Expr-NewExpr-1-Some' _ _) = true

-- Expressions, statements and all else that leads back to them. Where a type holds another in an
-- `Option`, a `Vec` or an enum with a parameter, Rattle makes one type of both, `Held-..` or
-- `Row_of-..`.
unfoldable mutual
  -- Statements (ECMA-262, 14).
  pub stmt_items : ℕ → v_stmt.Stmt → List Item
  stmt_items field (v_stmt.BlockStmt' _ stmts) = node field h.BlockStmt (row_of_stmt 0 stmts)
  stmt_items field v_stmt.EmptyStmt = node field h.EmptyStmt []
  stmt_items field v_stmt.DebuggerStmt = node field h.DebuggerStmt []
  stmt_items field (v_stmt.WithStmt' obj _ body) =
      node field h.WithStmt (expr_items 0 obj ++ stmt_items 1 body)
  stmt_items field (v_stmt.ReturnStmt' arg) = node field h.ReturnStmt (held_option_expr 0 arg)
  stmt_items field (v_stmt.LabeledStmt' label _ body) =
      node field h.LabeledStmt (ident_name_items 0 label ++ stmt_items 1 body)
  stmt_items field (v_stmt.BreakStmt label) =
      node field h.BreakStmt (option_items (ident_name_items 0) label)
  stmt_items field (v_stmt.ContinueStmt label) =
      node field h.ContinueStmt (option_items (ident_name_items 0) label)
  stmt_items field (v_stmt.IfStmt' test _ cons alt) =
      node field h.IfStmt (expr_items 0 test ++ (stmt_items 1 cons ++ held_option_boxed_stmt 2 alt))
  stmt_items field (v_stmt.SwitchStmt' discriminant _ cases) =
      node field h.SwitchStmt (expr_items 0 discriminant ++ row_of_switch_case 1 cases)
  stmt_items field (v_stmt.ThrowStmt arg) = node field h.ThrowStmt (expr_items 0 arg)
  stmt_items field (v_stmt.TryStmt' _ stmts handler finalizer) =
      node field h.TryStmt
      (node 0 h.BlockStmt (row_of_stmt 0 stmts)
      ++ (held_option_catch_clause 1 handler ++ held_option_block_stmt 2 finalizer))
  stmt_items field (v_stmt.WhileStmt' test _ body) =
      node field h.WhileStmt (expr_items 0 test ++ stmt_items 1 body)
  stmt_items field (v_stmt.DoWhileStmt' _ body test) =
      node field h.DoWhileStmt (stmt_items 0 body ++ expr_items 1 test)
  stmt_items field (v_stmt.ForStmt' init test update _ body) =
      node field h.ForStmt
      (held_option_for_init 0 init
      ++ (held_option_expr 1 test ++ (held_option_expr 2 update ++ stmt_items 3 body)))
  stmt_items field (v_stmt.ForInStmt' left right _ body) =
      node field h.ForInStmt (for_head_items 0 left ++ (expr_items 1 right ++ stmt_items 2 body))
  stmt_items field (v_stmt.ForOfStmt' is_await left right _ body) =
      node field (h.ForOfStmt is_await)
      (for_head_items 1 left ++ (expr_items 2 right ++ stmt_items 3 body))
  stmt_items field (v_stmt.Decl it) = decl_items field it
  stmt_items field (v_stmt.ExprStmt expr) = node field h.ExprStmt (expr_items 0 expr)

  pub for_init_items : ℕ → v_for_init.ForInit → List Item
  for_init_items field (v_for_init.VarDecl' kind _ decls meta) =
      node field (h.VarDecl kind meta) (row_of_var_declarator 1 decls)
  for_init_items field (v_for_init.Expr it) = expr_items field it

  pub for_head_items : ℕ → v_for_head.ForHead → List Item
  for_head_items field (v_for_head.VarDecl' kind _ decls meta) =
      node field (h.VarDecl kind meta) (row_of_var_declarator 1 decls)
  for_head_items field (v_for_head.Pat it) = pat_items r.Reference field it

  pub held_option_boxed_stmt : ℕ → block.Held-Stmt-IfStmt-2 → List Item
  held_option_boxed_stmt field block.Stmt-IfStmt-2-None' = []
  held_option_boxed_stmt field (block.Stmt-IfStmt-2-Some' _ it) = stmt_items field it

  pub held_option_block_stmt : ℕ → block.Held-Stmt-TryStmt-2 → List Item
  held_option_block_stmt field block.Stmt-TryStmt-2-None' = []
  held_option_block_stmt field (block.Stmt-TryStmt-2-Some' _ stmts) =
      node field h.BlockStmt (row_of_stmt 0 stmts)

  pub held_option_catch_clause : ℕ → block.Held-Stmt-TryStmt-1 → List Item
  held_option_catch_clause field block.Stmt-TryStmt-1-None' = []
  held_option_catch_clause field (block.Stmt-TryStmt-1-Some' param _ stmts) =
      node field h.CatchClause
      (held_option_pat r.Binding 0 param ++ (node 1 h.BlockStmt (row_of_stmt 0 stmts)))

  pub held_option_for_init : ℕ → block.Held-Stmt-ForStmt-0 → List Item
  held_option_for_init field block.Stmt-ForStmt-0-None' = []
  held_option_for_init field (block.Stmt-ForStmt-0-Some' it) = for_init_items field it

  pub row_of_stmt : ℕ → {n : _} → block.Row_of-Stmt n → List Item
  row_of_stmt field block.end_of-Stmt = []
  row_of_stmt field (block.more_of-Stmt it rest) = stmt_items field it ++ row_of_stmt field rest

  pub row_of_switch_case : ℕ → {n : _} → block.Row_of-SwitchCase n → List Item
  row_of_switch_case field block.end_of-SwitchCase = []
  row_of_switch_case field (block.more_of-SwitchCase test _ cons rest) =
      (node field h.SwitchCase (held_option_expr 0 test ++ row_of_stmt 1 cons))
      ++ row_of_switch_case field rest

  -- Declarations (ECMA-262, 14.3, 15.2 and 15.7).
  pub decl_items : ℕ → v_decl.Decl → List Item
  decl_items field (v_decl.ClassDecl' ident super_class _ body) =
      node field h.ClassDecl
      (ident_items r.Binding 0 ident
      ++ (node 1 h.Class (held_option_boxed_expr 0 super_class ++ row_of_class_member 1 body)))
  decl_items field (v_decl.FnDecl' ident _ params _ stmts is_generator is_async) =
      node field h.FnDecl
      (ident_items r.Binding 0 ident
      ++ (node 1 (h.Function is_generator is_async)
      (row_of_param 0 params ++ (node 1 h.BlockStmt (row_of_stmt 0 stmts)))))
  decl_items field (v_decl.VarDecl' kind _ decls meta) =
      node field (h.VarDecl kind meta) (row_of_var_declarator 1 decls)

  pub row_of_var_declarator : ℕ → {n : _} → block.Row_of-VarDeclarator n → List Item
  row_of_var_declarator field block.end_of-VarDeclarator = []
  row_of_var_declarator field (block.more_of-VarDeclarator name init rest) =
      (node field h.VarDeclarator (pat_items r.Binding 0 name ++ held_option_expr 1 init))
      ++ row_of_var_declarator field rest

  -- Expressions (ECMA-262, 13).
  pub expr_items : ℕ → v_expr.Expr → List Item
  expr_items field v_expr.ThisExpr = node field h.ThisExpr []
  expr_items field (v_expr.ArrayLit' _ elems) =
      node field h.ArrayLit (row_of_option_expr_or_spread 0 elems)
  expr_items field (v_expr.ObjectLit' _ props) =
      node field h.ObjectLit (row_of_prop_or_spread 0 props)
  expr_items field (v_expr.FnExpr' ident _ params _ stmts is_generator is_async) =
      node field h.FnExpr
      (option_items (ident_items r.Binding 0) ident
      ++ (node 1 (h.Function is_generator is_async)
      (row_of_param 0 params ++ (node 1 h.BlockStmt (row_of_stmt 0 stmts)))))
  expr_items field (v_expr.UnaryExpr' op _ arg) = node field (h.UnaryExpr op) (expr_items 1 arg)
  expr_items field (v_expr.UpdateExpr' op prefix _ arg) =
      node field (h.UpdateExpr op prefix) (expr_items 2 arg)
  expr_items field (v_expr.BinExpr' op _ left _ right) =
      node field (h.BinExpr op) (expr_items 1 left ++ expr_items 2 right)
  expr_items field (v_expr.AssignExpr' op left _ right) =
      node field (h.AssignExpr op) (assign_target_items 1 left ++ expr_items 2 right)
  expr_items field (v_expr.MemberExpr' _ obj prop) =
      node field h.MemberExpr (expr_items 0 obj ++ held_member_prop 1 prop)
  expr_items field (v_expr.SuperPropExpr' prop) =
      node field h.SuperPropExpr (held_super_prop 0 prop)
  expr_items field (v_expr.CondExpr' _ test _ cons _ alt) =
      node field h.CondExpr (expr_items 0 test ++ (expr_items 1 cons ++ expr_items 2 alt))
  expr_items field (v_expr.CallExpr' callee _ args) =
      node field h.CallExpr (held_callee 0 callee ++ row_of_expr_or_spread 1 args)
  expr_items field (v_expr.NewExpr' _ callee args) =
      node field (h.NewExpr (is_given args))
      (expr_items 0 callee ++ held_option_each_expr_or_spread 1 args)
  expr_items field (v_expr.SeqExpr' _ exprs) = node field h.SeqExpr (row_of_expr 0 exprs)
  expr_items field (v_expr.Ident it) = ident_items r.Reference field it
  expr_items field (v_expr.Lit it) = lit_items field it
  expr_items field (v_expr.Tpl' _ exprs quasis) =
      node field h.Tpl (row_of_expr 0 exprs ++ flat_map (tpl_element_items 1) quasis.items)
  expr_items field (v_expr.TaggedTpl' _ tag _ exprs quasis) =
      node field h.TaggedTpl
      (expr_items 0 tag
      ++ (node 1 h.Tpl (row_of_expr 0 exprs ++ flat_map (tpl_element_items 1) quasis.items)))
  expr_items field (v_expr.ArrowExpr' _ params body is_async) =
      node field (h.ArrowExpr is_async) (row_of_pat r.Binding 0 params ++ arrow_body_items 1 body)
  expr_items field (v_expr.ClassExpr' ident super_class _ body) =
      node field h.ClassExpr
      (option_items (ident_items r.Binding 0) ident
      ++ (node 1 h.Class (held_option_boxed_expr 0 super_class ++ row_of_class_member 1 body)))
  expr_items field (v_expr.YieldExpr' arg delegate) =
      node field (h.YieldExpr delegate) (held_option_boxed_expr 0 arg)
  expr_items field (v_expr.MetaPropExpr kind) = node field (h.MetaPropExpr kind) []
  expr_items field (v_expr.AwaitExpr' _ arg) = node field h.AwaitExpr (expr_items 0 arg)
  expr_items field (v_expr.ParenExpr' _ expr) = node field h.ParenExpr (expr_items 0 expr)
  expr_items field (v_expr.PrivateName it) = private_name_items field it
  expr_items field (v_expr.OptChainExpr' optional base) =
      node field (h.OptChainExpr optional) (held_opt_chain_base 1 base)

  pub arrow_body_items : ℕ → v_arrow_body.ArrowBody → List Item
  arrow_body_items field (v_arrow_body.BlockStmt' _ stmts) =
      node field h.BlockStmt (row_of_stmt 0 stmts)
  arrow_body_items field (v_arrow_body.Expr' _ it) = expr_items field it

  pub held_callee : ℕ → block.Held-Expr-CallExpr-0 → List Item
  held_callee field block.Super' = node field h.Super []
  held_callee field block.Import' = node field h.Import []
  held_callee field (block.Expr-CallExpr-0-Expr' _ it) = expr_items field it

  pub held_opt_chain_base : ℕ → block.Held-Expr-OptChainExpr-1 → List Item
  held_opt_chain_base field (block.Expr-OptChainExpr-1-MemberExpr' _ obj prop) =
      node field h.MemberExpr (expr_items 0 obj ++ held_member_prop 1 prop)
  held_opt_chain_base field (block.OptCall' _ callee _ args) =
      node field h.OptCall (expr_items 0 callee ++ row_of_expr_or_spread 1 args)

  pub held_option_expr : ℕ → block.Held-ClassMember-ClassProp-1 → List Item
  held_option_expr field block.ClassMember-ClassProp-1-None' = []
  held_option_expr field (block.ClassMember-ClassProp-1-Some' it) = expr_items field it

  pub held_option_boxed_expr : ℕ → block.Held-Expr-YieldExpr-0 → List Item
  held_option_boxed_expr field block.Expr-YieldExpr-0-None' = []
  held_option_boxed_expr field (block.Expr-YieldExpr-0-Some' _ it) = expr_items field it

  pub place_of_expr_or_spread : ℕ → block.Held-Expr-ArrayLit-0-3 → List Item
  place_of_expr_or_spread field block.Expr-ArrayLit-0-3-None' = h.Hole field ∷ []
  place_of_expr_or_spread field (block.Expr-ArrayLit-0-3-Some' spread expr) =
      node field (h.ExprOrSpread spread) (expr_items 1 expr)

  pub held_option_each_expr_or_spread : ℕ → block.Held-Expr-NewExpr-1 → List Item
  held_option_each_expr_or_spread field block.Expr-NewExpr-1-None' = []
  held_option_each_expr_or_spread field (block.Expr-NewExpr-1-Some' _ row) =
      row_of_expr_or_spread field row

  pub row_of_expr : ℕ → {n : _} → block.Row_of-Expr n → List Item
  row_of_expr field block.end_of-Expr = []
  row_of_expr field (block.more_of-Expr it rest) = expr_items field it ++ row_of_expr field rest

  pub row_of_expr_or_spread : ℕ → {n : _} → block.Row_of-Expr-CallExpr-1-2 n → List Item
  row_of_expr_or_spread field block.end_of-Expr-CallExpr-1-2 = []
  row_of_expr_or_spread field (block.more_of-Expr-CallExpr-1-2 spread expr rest) =
      (node field (h.ExprOrSpread spread) (expr_items 1 expr)) ++ row_of_expr_or_spread field rest

  pub row_of_option_expr_or_spread : ℕ → {n : _} → block.Row_of-Expr-ArrayLit-0-3 n → List Item
  row_of_option_expr_or_spread field block.end_of-Expr-ArrayLit-0-3 = []
  row_of_option_expr_or_spread field (block.more_of-Expr-ArrayLit-0-3 it rest) =
      place_of_expr_or_spread field it ++ row_of_option_expr_or_spread field rest

  -- Properties (ECMA-262, 13.2.5 and 13.3.2).
  pub prop_or_spread_items : ℕ → v_prop_or_spread.PropOrSpread → List Item
  prop_or_spread_items field (v_prop_or_spread.SpreadElement expr) =
      node field h.SpreadElement (expr_items 0 expr)
  prop_or_spread_items field (v_prop_or_spread.Prop it) = prop_items field it

  pub prop_items : ℕ → v_prop.Prop → List Item
  prop_items field (v_prop.Shorthand it) = ident_items r.Reference field it
  prop_items field (v_prop.KeyValueProp' key value) =
      node field h.KeyValueProp (held_prop_name 0 key ++ expr_items 1 value)
  prop_items field (v_prop.GetterProp' key _ stmts) =
      node field h.GetterProp (held_prop_name 0 key ++ (node 1 h.BlockStmt (row_of_stmt 0 stmts)))
  prop_items field (v_prop.SetterProp' key param _ stmts) =
      node field h.SetterProp
      (held_prop_name 0 key
      ++ (pat_items r.Binding 1 param ++ (node 2 h.BlockStmt (row_of_stmt 0 stmts))))
  prop_items field (v_prop.MethodProp' key _ params _ stmts is_generator is_async) =
      node field h.MethodProp
      (held_prop_name 0 key
      ++ (node 1 (h.Function is_generator is_async)
      (row_of_param 0 params ++ (node 1 h.BlockStmt (row_of_stmt 0 stmts)))))

  pub held_prop_name : ℕ → block.Held-ClassMember-ClassMethod-0 → List Item
  held_prop_name field (block.ClassMember-ClassMethod-0-IdentName' it) = ident_name_items field it
  held_prop_name field (block.Str' it) = str_items field it
  held_prop_name field (block.Number' it) = number_items field it
  held_prop_name field (block.BigInt' it) = big_int_items field it
  held_prop_name field (block.ClassMember-ClassMethod-0-ComputedPropName' _ expr) =
      node field h.ComputedPropName (expr_items 0 expr)

  pub held_member_prop : ℕ → block.Held-Expr-MemberExpr-0-7 → List Item
  held_member_prop field (block.Expr-MemberExpr-0-7-IdentName' it) = ident_name_items field it
  held_member_prop field (block.Expr-MemberExpr-0-7-PrivateName' it) = private_name_items field it
  held_member_prop field (block.Expr-MemberExpr-0-7-ComputedPropName' _ expr) =
      node field h.ComputedPropName (expr_items 0 expr)

  pub held_super_prop : ℕ → block.Held-Expr-SuperPropExpr-0-4 → List Item
  held_super_prop field (block.Expr-SuperPropExpr-0-4-IdentName' it) = ident_name_items field it
  held_super_prop field (block.Expr-SuperPropExpr-0-4-ComputedPropName' _ expr) =
      node field h.ComputedPropName (expr_items 0 expr)

  pub row_of_prop_or_spread : ℕ → {n : _} → block.Row_of-PropOrSpread n → List Item
  row_of_prop_or_spread field block.end_of-PropOrSpread = []
  row_of_prop_or_spread field (block.more_of-PropOrSpread it rest) =
      prop_or_spread_items field it ++ row_of_prop_or_spread field rest

  -- Patterns, and what is assigned to (ECMA-262, 13.15.5 and 14.3.3).
  pub pat_items : Role → ℕ → v_pat.Pat → List Item
  pat_items role field (v_pat.BindingIdent it) = binding_ident_items role field it
  pat_items role field (v_pat.ArrayPat' _ elems) =
      node field h.ArrayPat (row_of_option_pat role 0 elems)
  pat_items role field (v_pat.RestPat' _ arg) = node field h.RestPat (pat_items role 0 arg)
  pat_items role field (v_pat.ObjectPat' _ props) =
      node field h.ObjectPat (row_of_object_pat_prop role 0 props)
  pat_items role field (v_pat.AssignPat' _ left _ right) =
      node field h.AssignPat (pat_items role 0 left ++ expr_items 1 right)
  pat_items role field (v_pat.Expr' _ it) = expr_items field it

  pub object_pat_prop_items : Role → ℕ → v_object_pat_prop.ObjectPatProp → List Item
  object_pat_prop_items role field (v_object_pat_prop.KeyValuePatProp' key value) =
      node field h.KeyValuePatProp (held_prop_name 0 key ++ pat_items role 1 value)
  object_pat_prop_items role field (v_object_pat_prop.AssignPatProp' key value) =
      node field h.AssignPatProp (binding_ident_items role 0 key ++ held_option_expr 1 value)
  object_pat_prop_items role field (v_object_pat_prop.RestPat' _ arg) =
      node field h.RestPat (pat_items role 0 arg)

  pub assign_target_items : ℕ → v_assign_target.AssignTarget → List Item
  assign_target_items field (v_assign_target.BindingIdent it) =
      binding_ident_items r.Reference field it
  assign_target_items field (v_assign_target.MemberExpr' _ obj prop) =
      node field h.MemberExpr (expr_items 0 obj ++ held_member_prop 1 prop)
  assign_target_items field (v_assign_target.SuperPropExpr' prop) =
      node field h.SuperPropExpr (held_super_prop 0 prop)
  assign_target_items field (v_assign_target.ParenExpr' _ expr) =
      node field h.ParenExpr (expr_items 0 expr)
  assign_target_items field (v_assign_target.ArrayPat' _ elems) =
      node field h.ArrayPat (row_of_option_pat r.Reference 0 elems)
  assign_target_items field (v_assign_target.ObjectPat' _ props) =
      node field h.ObjectPat (row_of_object_pat_prop r.Reference 0 props)

  pub held_option_pat : Role → ℕ → block.Held-AssignTarget-ArrayPat-0-1 → List Item
  held_option_pat role field block.AssignTarget-ArrayPat-0-1-None' = []
  held_option_pat role field (block.AssignTarget-ArrayPat-0-1-Some' it) = pat_items role field it

  pub place_of_pat : Role → ℕ → block.Held-AssignTarget-ArrayPat-0-1 → List Item
  place_of_pat role field block.AssignTarget-ArrayPat-0-1-None' = h.Hole field ∷ []
  place_of_pat role field (block.AssignTarget-ArrayPat-0-1-Some' it) = pat_items role field it

  pub row_of_pat : Role → ℕ → {n : _} → block.Row_of-Pat n → List Item
  row_of_pat role field block.end_of-Pat = []
  row_of_pat role field (block.more_of-Pat it rest) =
      pat_items role field it ++ row_of_pat role field rest

  pub row_of_option_pat : Role → ℕ → {n : _} → block.Row_of-AssignTarget-ArrayPat-0-1 n → List Item
  row_of_option_pat role field block.end_of-AssignTarget-ArrayPat-0-1 = []
  row_of_option_pat role field (block.more_of-AssignTarget-ArrayPat-0-1 it rest) =
      place_of_pat role field it ++ row_of_option_pat role field rest

  pub row_of_object_pat_prop : Role → ℕ → {n : _} → block.Row_of-ObjectPatProp n → List Item
  row_of_object_pat_prop role field block.end_of-ObjectPatProp = []
  row_of_object_pat_prop role field (block.more_of-ObjectPatProp it rest) =
      object_pat_prop_items role field it ++ row_of_object_pat_prop role field rest

  -- Functions and classes (ECMA-262, 15).
  pub class_member_items : ℕ → v_class_member.ClassMember → List Item
  class_member_items field (v_class_member.Constructor' _ params _ stmts) =
      node field h.Constructor (row_of_param 0 params ++ (node 1 h.BlockStmt (row_of_stmt 0 stmts)))
  class_member_items field
      (v_class_member.ClassMethod' key _ params _ stmts is_generator is_async kind is_static) =
      node field (h.ClassMethod kind is_static)
      (held_prop_name 0 key
      ++ (node 1 (h.Function is_generator is_async)
      (row_of_param 0 params ++ (node 1 h.BlockStmt (row_of_stmt 0 stmts)))))
  class_member_items field
      (v_class_member.PrivateMethod' key _ params _ stmts is_generator is_async kind is_static) =
      node field (h.PrivateMethod kind is_static)
      (private_name_items 0 key
      ++ (node 1 (h.Function is_generator is_async)
      (row_of_param 0 params ++ (node 1 h.BlockStmt (row_of_stmt 0 stmts)))))
  class_member_items field (v_class_member.ClassProp' key value is_static) =
      node field (h.ClassProp is_static) (held_prop_name 0 key ++ held_option_expr 1 value)
  class_member_items field (v_class_member.PrivateProp' key value is_static) =
      node field (h.PrivateProp is_static) (private_name_items 0 key ++ held_option_expr 1 value)
  class_member_items field (v_class_member.StaticBlock' _ stmts) =
      node field h.StaticBlock (node 0 h.BlockStmt (row_of_stmt 0 stmts))
  class_member_items field v_class_member.EmptyStmt = node field h.EmptyStmt []

  pub row_of_param : ℕ → {n : _} → block.Row_of-ClassMember-Constructor-0-1 n → List Item
  row_of_param field block.end_of-ClassMember-Constructor-0-1 = []
  row_of_param field (block.more_of-ClassMember-Constructor-0-1 pat rest) =
      (node field h.Param (pat_items r.Binding 0 pat)) ++ row_of_param field rest

  pub row_of_class_member : ℕ → {n : _} → block.Row_of-ClassMember n → List Item
  row_of_class_member field block.end_of-ClassMember = []
  row_of_class_member field (block.more_of-ClassMember it rest) =
      class_member_items field it ++ row_of_class_member field rest

-- The same of the types as the code sees them.

abbrev pub option_block_stmt_items : ℕ → Option (v_block_stmt.BlockStmt v_stmt.Stmt) → List Item
option_block_stmt_items field it = held_option_block_stmt field (block.back-Stmt-TryStmt-2 it)

abbrev pub each_stmt_items : ℕ → Vec v_stmt.Stmt Global → List Item
each_stmt_items field it = row_of_stmt field (block.hidden-the_row-Stmt-1 it)

abbrev pub block_stmt_items : ℕ → v_block_stmt.BlockStmt v_stmt.Stmt → List Item
block_stmt_items field it = node field h.BlockStmt (each_stmt_items 0 it.stmts)

abbrev pub option_boxed_stmt_items : ℕ → Option (Box v_stmt.Stmt Global) → List Item
option_boxed_stmt_items field it = held_option_boxed_stmt field (block.back-Stmt-IfStmt-2 it)

abbrev pub each_switch_case_items : ℕ → Vec v_switch_case.SwitchCase Global → List Item
each_switch_case_items field it = row_of_switch_case field (block.hidden-the_row-SwitchCase-11 it)

abbrev pub option_catch_clause_items : ℕ → Option v_catch_clause.CatchClause → List Item
option_catch_clause_items field it = held_option_catch_clause field (block.back-Stmt-TryStmt-1 it)

abbrev pub option_for_init_items : ℕ → Option v_for_init.ForInit → List Item
option_for_init_items field it = held_option_for_init field (block.back-Stmt-ForStmt-0 it)

abbrev pub each_var_declarator_items : ℕ → Vec v_var_declarator.VarDeclarator Global → List Item
each_var_declarator_items field it =
    row_of_var_declarator field (block.hidden-the_row-VarDeclarator-3 it)

abbrev pub var_decl_items : ℕ → v_var_decl.VarDecl v_var_declarator.VarDeclarator → List Item
var_decl_items field it =
    node field (h.VarDecl it.kind it.meta) (each_var_declarator_items 1 it.decls)

abbrev pub option_expr_items : ℕ → Option v_expr.Expr → List Item
option_expr_items field it = held_option_expr field (block.back-ClassMember-ClassProp-1 it)

abbrev pub switch_case_items : ℕ → v_switch_case.SwitchCase → List Item
switch_case_items field it =
    node field h.SwitchCase
    (option_expr_items 0 (v_switch_case.out-SwitchCase it).test
    ++ each_stmt_items 1 (v_switch_case.out-SwitchCase it).cons)

abbrev pub var_declarator_items : ℕ → v_var_declarator.VarDeclarator → List Item
var_declarator_items field it =
    node field h.VarDeclarator
    (pat_items r.Binding 0 (v_var_declarator.out-VarDeclarator it).name
    ++ option_expr_items 1 (v_var_declarator.out-VarDeclarator it).init)

abbrev pub each_expr_items : ℕ → Vec v_expr.Expr Global → List Item
each_expr_items field it = row_of_expr field (block.hidden-the_row-Expr-7 it)

abbrev pub option_boxed_expr_items : ℕ → Option (Box v_expr.Expr Global) → List Item
option_boxed_expr_items field it = held_option_boxed_expr field (block.back-Expr-YieldExpr-0 it)

abbrev pub paren_expr_items : ℕ → v_paren_expr.ParenExpr v_expr.Expr → List Item
paren_expr_items field it = node field h.ParenExpr (expr_items 0 it.expr.value)

abbrev pub callee_items : ℕ → v_callee.Callee v_expr.Expr → List Item
callee_items field it = held_callee field (block.back-Expr-CallExpr-0 it)

abbrev pub expr_or_spread_items : ℕ → v_expr_or_spread.ExprOrSpread v_expr.Expr → List Item
expr_or_spread_items field it = node field (h.ExprOrSpread it.spread) (expr_items 1 it.expr)

abbrev pub each_option_expr_or_spread_items :
    ℕ → Vec (Option (v_expr_or_spread.ExprOrSpread v_expr.Expr)) Global → List Item
each_option_expr_or_spread_items field it =
    row_of_option_expr_or_spread field (block.hidden-the_row-Expr-ArrayLit-0-3-4 it)

abbrev pub each_expr_or_spread_items :
    ℕ → Vec (v_expr_or_spread.ExprOrSpread v_expr.Expr) Global → List Item
each_expr_or_spread_items field it =
    row_of_expr_or_spread field (block.hidden-the_row-Expr-CallExpr-1-2-6 it)

abbrev pub option_each_expr_or_spread_items :
    ℕ → Option (Vec (v_expr_or_spread.ExprOrSpread v_expr.Expr) Global) → List Item
option_each_expr_or_spread_items field it =
    held_option_each_expr_or_spread field (block.back-Expr-NewExpr-1 it)

abbrev pub opt_chain_base_items : ℕ → v_opt_chain_base.OptChainBase v_expr.Expr → List Item
opt_chain_base_items field it = held_opt_chain_base field (block.back-Expr-OptChainExpr-1 it)

abbrev pub opt_call_items : ℕ → v_opt_call.OptCall v_expr.Expr → List Item
opt_call_items field it =
    node field h.OptCall (expr_items 0 it.callee.value ++ each_expr_or_spread_items 1 it.args)

abbrev pub tpl_items : ℕ → v_tpl.Tpl v_expr.Expr → List Item
tpl_items field it =
    node field h.Tpl (each_expr_items 0 it.exprs ++ flat_map (tpl_element_items 1) it.quasis.items)

abbrev pub each_prop_or_spread_items : ℕ → Vec v_prop_or_spread.PropOrSpread Global → List Item
each_prop_or_spread_items field it =
    row_of_prop_or_spread field (block.hidden-the_row-PropOrSpread-5 it)

abbrev pub computed_prop_name_items :
    ℕ → v_computed_prop_name.ComputedPropName v_expr.Expr → List Item
computed_prop_name_items field it = node field h.ComputedPropName (expr_items 0 it.expr.value)

abbrev pub prop_name_items : ℕ → v_prop_name.PropName v_expr.Expr → List Item
prop_name_items field it = held_prop_name field (block.back-ClassMember-ClassMethod-0 it)

abbrev pub key_value_prop_items : ℕ → v_key_value_prop.KeyValueProp v_expr.Expr → List Item
key_value_prop_items field it =
    node field h.KeyValueProp (prop_name_items 0 it.key ++ expr_items 1 it.value)

abbrev pub member_prop_items : ℕ → v_member_prop.MemberProp v_expr.Expr → List Item
member_prop_items field it = held_member_prop field (block.back-Expr-MemberExpr-0-7 it)

abbrev pub member_expr_items : ℕ → v_member_expr.MemberExpr v_expr.Expr → List Item
member_expr_items field it =
    node field h.MemberExpr (expr_items 0 it.obj.value ++ member_prop_items 1 it.prop)

abbrev pub super_prop_items : ℕ → v_super_prop.SuperProp v_expr.Expr → List Item
super_prop_items field it = held_super_prop field (block.back-Expr-SuperPropExpr-0-4 it)

abbrev pub super_prop_expr_items : ℕ → v_super_prop_expr.SuperPropExpr v_expr.Expr → List Item
super_prop_expr_items field it = node field h.SuperPropExpr (super_prop_items 0 it.prop)

abbrev pub option_pat_items : Role → ℕ → Option v_pat.Pat → List Item
option_pat_items role field it =
    held_option_pat role field (block.back-AssignTarget-ArrayPat-0-1 it)

abbrev pub catch_clause_items : ℕ → v_catch_clause.CatchClause → List Item
catch_clause_items field it =
    node field h.CatchClause
    (option_pat_items r.Binding 0 (v_catch_clause.out-CatchClause it).param
    ++ block_stmt_items 1 (v_catch_clause.out-CatchClause it).body)

abbrev pub each_pat_items : Role → ℕ → Vec v_pat.Pat Global → List Item
each_pat_items role field it = row_of_pat role field (block.hidden-the_row-Pat-8 it)

abbrev pub each_option_pat_items : Role → ℕ → Vec (Option v_pat.Pat) Global → List Item
each_option_pat_items role field it =
    row_of_option_pat role field (block.hidden-the_row-AssignTarget-ArrayPat-0-1-9 it)

abbrev pub array_pat_items : Role → ℕ → v_array_pat.ArrayPat v_pat.Pat → List Item
array_pat_items role field it = node field h.ArrayPat (each_option_pat_items role 0 it.elems)

abbrev pub rest_pat_items : Role → ℕ → v_rest_pat.RestPat v_pat.Pat → List Item
rest_pat_items role field it = node field h.RestPat (pat_items role 0 it.arg.value)

abbrev pub each_object_pat_prop_items :
    Role → ℕ → Vec v_object_pat_prop.ObjectPatProp Global → List Item
each_object_pat_prop_items role field it =
    row_of_object_pat_prop role field (block.hidden-the_row-ObjectPatProp-10 it)

abbrev pub object_pat_items :
    Role → ℕ → v_object_pat.ObjectPat v_object_pat_prop.ObjectPatProp → List Item
object_pat_items role field it = node field h.ObjectPat (each_object_pat_prop_items role 0 it.props)

abbrev pub param_items : ℕ → v_param.Param v_pat.Pat → List Item
param_items field it = node field h.Param (pat_items r.Binding 0 it.pat)

abbrev pub each_param_items : ℕ → Vec (v_param.Param v_pat.Pat) Global → List Item
each_param_items field it =
    row_of_param field (block.hidden-the_row-ClassMember-Constructor-0-1-0 it)

abbrev pub function_items : ℕ → v_function.Function → List Item
function_items field it =
    node field
    (h.Function (v_function.out-Function it).is_generator (v_function.out-Function it).is_async)
    (each_param_items 0 (v_function.out-Function it).params
    ++ block_stmt_items 1 (v_function.out-Function it).body)

abbrev pub each_class_member_items : ℕ → Vec v_class_member.ClassMember Global → List Item
each_class_member_items field it = row_of_class_member field (block.hidden-the_row-ClassMember-2 it)

abbrev pub class_items : ℕ → v_class.Class → List Item
class_items field it =
    node field h.Class
    (option_boxed_expr_items 0 (v_class.out-Class it).super_class
    ++ each_class_member_items 1 (v_class.out-Class it).body)

-- a place of a list, which may hold nothing
abbrev pub pat_place_items : Role → ℕ → Option v_pat.Pat → List Item
pat_place_items role field None = h.Hole field ∷ []
pat_place_items role field (Some it) = pat_items role field it

-- a place of a list, which may hold nothing
abbrev pub expr_or_spread_place_items :
    ℕ → Option (v_expr_or_spread.ExprOrSpread v_expr.Expr) → List Item
expr_or_spread_place_items field None = h.Hole field ∷ []
expr_or_spread_place_items field (Some it) = expr_or_spread_items field it

-- Modules, imports and exports (ECMA-262, 16.2).

abbrev pub module_export_name_items : Role → ℕ → v_module_export_name.ModuleExportName → List Item
module_export_name_items role field (i_module_export_name.Ident it) = ident_items role field it
module_export_name_items role field (i_module_export_name.Str it) = str_items field it

abbrev pub import_specifier_items : ℕ → v_import_specifier.ImportSpecifier → List Item
import_specifier_items field (i_import_specifier.ImportNamedSpecifier local imported) =
    node field h.ImportNamedSpecifier
    (ident_items r.Binding 0 local ++ option_items (module_export_name_items r.Word 1) imported)
import_specifier_items field (i_import_specifier.ImportDefaultSpecifier local) =
    node field h.ImportDefaultSpecifier (ident_items r.Binding 0 local)
import_specifier_items field (i_import_specifier.ImportStarAsSpecifier local) =
    node field h.ImportStarAsSpecifier (ident_items r.Binding 0 local)

abbrev pub export_specifier_items : Role → ℕ → v_export_specifier.ExportSpecifier → List Item
export_specifier_items role field (i_export_specifier.ExportNamespaceSpecifier name) =
    node field h.ExportNamespaceSpecifier (module_export_name_items r.Word 0 name)
export_specifier_items role field (i_export_specifier.ExportNamedSpecifier orig exported) =
    node field h.ExportNamedSpecifier
    (module_export_name_items role 0 orig
    ++ option_items (module_export_name_items r.Word 1) exported)

-- what the names of an export list are: words of the module that `from` gives, or else names of
-- this one
abbrev pub role_of_names : Option v_str.Str → Role
role_of_names None = r.Reference
role_of_names (Some _) = r.Word

abbrev pub default_decl_items : ℕ → v_default_decl.DefaultDecl → List Item
default_decl_items field (i_default_decl.ClassExpr ident class) =
    node field h.ClassExpr (option_items (ident_items r.Binding 0) ident ++ class_items 1 class)
default_decl_items field (i_default_decl.FnExpr ident function) =
    node field h.FnExpr (option_items (ident_items r.Binding 0) ident ++ function_items 1 function)

abbrev pub module_decl_items : ℕ → v_module_decl.ModuleDecl → List Item
module_decl_items field (i_module_decl.ImportDecl specifiers src meta) =
    node field (h.ImportDecl meta)
    (flat_map (import_specifier_items 0) specifiers.items ++ str_items 1 src)
module_decl_items field (i_module_decl.ExportDecl decl) =
    node field h.ExportDecl (decl_items 0 decl)
module_decl_items field (i_module_decl.NamedExport specifiers src meta) =
    node field (h.NamedExport meta)
    (flat_map (export_specifier_items (role_of_names src) 0) specifiers.items
    ++ option_items (str_items 1) src)
module_decl_items field (i_module_decl.ExportDefaultDecl decl) =
    node field h.ExportDefaultDecl (default_decl_items 0 decl)
module_decl_items field (i_module_decl.ExportDefaultExpr expr) =
    node field h.ExportDefaultExpr (expr_items 0 expr)
module_decl_items field (i_module_decl.ExportAll src meta) =
    node field (h.ExportAll meta) (str_items 0 src)

abbrev pub module_item_items : ℕ → v_module_item.ModuleItem → List Item
module_item_items field (i_module_item.ModuleDecl it) = module_decl_items field it
module_item_items field (i_module_item.Stmt it) = stmt_items field it

abbrev pub module_items : ℕ → v_module.Module → List Item
module_items field it = node field h.Module (flat_map (module_item_items 0) it.body.items)
