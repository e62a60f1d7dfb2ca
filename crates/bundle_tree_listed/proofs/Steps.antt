-- An equation for each clause of the list of a tree.
use Rattle.std.proofs.Common.{◌≡◌, refl, [], ◌∷◌, ◌++◌, Option, Some, None, Vec, Global, is_some}
use Rattle.std.specs.List.{flat_map}
use Rattle.std.proofs.lemmas.Grind.{common_steps}
use Rattle.bundle_syntax.specs.Item as h
use Rattle.bundle_tree_listed.specs.Tree as k
use Rattle.bundle_tree_listed.specs.Tree.{stmt_items}
use Rattle.bundle_tree_ast.specs.declared.stmt.Stmt as v_stmt
use Rattle.bundle_tree_ast.specs.declared.stmt.ForInit as v_for_init
use Rattle.bundle_tree_ast.specs.declared.stmt.ForHead as v_for_head
use Rattle.bundle_tree_ast.specs.declared.decl.Decl as v_decl
use Rattle.bundle_tree_ast.specs.declared.expr.Expr as v_expr
use Rattle.bundle_tree_ast.specs.declared.expr.ExprOrSpread as v_expr_or_spread
use Rattle.bundle_tree_ast.specs.declared.expr.ArrowBody as v_arrow_body
use Rattle.bundle_tree_ast.specs.declared.prop.PropOrSpread as v_prop_or_spread
use Rattle.bundle_tree_ast.specs.declared.prop.Prop as v_prop
use Rattle.bundle_tree_ast.specs.declared.pat.Pat as v_pat
use Rattle.bundle_tree_ast.specs.declared.pat.ObjectPatProp as v_object_pat_prop
use Rattle.bundle_tree_ast.specs.declared.pat.AssignTarget as v_assign_target
use Rattle.bundle_tree_ast.specs.declared.class.ClassMember as v_class_member
use Rattle.bundle_tree_ast.specs.declared.class.ClassMember.TheBlock as block
use Rattle.bundle_syntax.specs.declared.piece.Role.TheVariants as r

pub stmt_items-BlockStmt : (field : _) (u1 : _) (stmts : _) → k.stmt_items field (v_stmt.BlockStmt' u1 stmts) ≡ k.node field h.BlockStmt (k.row_of_stmt 0 stmts)
unfolding stmt_items
stmt_items-BlockStmt field u1 stmts = refl

pub stmt_items-EmptyStmt : (field : _) → k.stmt_items field v_stmt.EmptyStmt ≡ k.node field h.EmptyStmt []
unfolding stmt_items
stmt_items-EmptyStmt field = refl

pub stmt_items-DebuggerStmt : (field : _) → k.stmt_items field v_stmt.DebuggerStmt ≡ k.node field h.DebuggerStmt []
unfolding stmt_items
stmt_items-DebuggerStmt field = refl

pub stmt_items-WithStmt : (field : _) (obj : _) (u1 : _) (body : _) → k.stmt_items field (v_stmt.WithStmt' obj u1 body) ≡ k.node field h.WithStmt (k.expr_items 0 obj ++ k.stmt_items 1 body)
unfolding stmt_items
stmt_items-WithStmt field obj u1 body = refl

pub stmt_items-ReturnStmt : (field : _) (arg : _) → k.stmt_items field (v_stmt.ReturnStmt' arg) ≡ k.node field h.ReturnStmt (k.held_option_expr 0 arg)
unfolding stmt_items
stmt_items-ReturnStmt field arg = refl

pub stmt_items-LabeledStmt : (field : _) (label : _) (u1 : _) (body : _) → k.stmt_items field (v_stmt.LabeledStmt' label u1 body) ≡ k.node field h.LabeledStmt (k.ident_name_items 0 label ++ k.stmt_items 1 body)
unfolding stmt_items
stmt_items-LabeledStmt field label u1 body = refl

pub stmt_items-BreakStmt : (field : _) (label : _) → k.stmt_items field (v_stmt.BreakStmt label) ≡ k.node field h.BreakStmt (k.option_items (k.ident_name_items 0) label)
unfolding stmt_items
stmt_items-BreakStmt field label = refl

pub stmt_items-ContinueStmt : (field : _) (label : _) → k.stmt_items field (v_stmt.ContinueStmt label) ≡ k.node field h.ContinueStmt (k.option_items (k.ident_name_items 0) label)
unfolding stmt_items
stmt_items-ContinueStmt field label = refl

pub stmt_items-IfStmt : (field : _) (test : _) (u1 : _) (cons : _) (alt : _) → k.stmt_items field (v_stmt.IfStmt' test u1 cons alt) ≡ k.node field h.IfStmt (k.expr_items 0 test ++ (k.stmt_items 1 cons ++ k.held_option_boxed_stmt 2 alt))
unfolding stmt_items
stmt_items-IfStmt field test u1 cons alt = refl

pub stmt_items-SwitchStmt : (field : _) (discriminant : _) (u1 : _) (cases : _) → k.stmt_items field (v_stmt.SwitchStmt' discriminant u1 cases) ≡ k.node field h.SwitchStmt (k.expr_items 0 discriminant ++ k.row_of_switch_case 1 cases)
unfolding stmt_items
stmt_items-SwitchStmt field discriminant u1 cases = refl

pub stmt_items-ThrowStmt : (field : _) (arg : _) → k.stmt_items field (v_stmt.ThrowStmt arg) ≡ k.node field h.ThrowStmt (k.expr_items 0 arg)
unfolding stmt_items
stmt_items-ThrowStmt field arg = refl

pub stmt_items-TryStmt : (field : _) (u1 : _) (stmts : _) (handler : _) (finalizer : _) → k.stmt_items field (v_stmt.TryStmt' u1 stmts handler finalizer) ≡ k.node field h.TryStmt (k.node 0 h.BlockStmt (k.row_of_stmt 0 stmts) ++ (k.held_option_catch_clause 1 handler ++ k.held_option_block_stmt 2 finalizer))
unfolding stmt_items
stmt_items-TryStmt field u1 stmts handler finalizer = refl

pub stmt_items-WhileStmt : (field : _) (test : _) (u1 : _) (body : _) → k.stmt_items field (v_stmt.WhileStmt' test u1 body) ≡ k.node field h.WhileStmt (k.expr_items 0 test ++ k.stmt_items 1 body)
unfolding stmt_items
stmt_items-WhileStmt field test u1 body = refl

pub stmt_items-DoWhileStmt : (field : _) (u1 : _) (body : _) (test : _) → k.stmt_items field (v_stmt.DoWhileStmt' u1 body test) ≡ k.node field h.DoWhileStmt (k.stmt_items 0 body ++ k.expr_items 1 test)
unfolding stmt_items
stmt_items-DoWhileStmt field u1 body test = refl

pub stmt_items-ForStmt : (field : _) (init : _) (test : _) (update : _) (u1 : _) (body : _) → k.stmt_items field (v_stmt.ForStmt' init test update u1 body) ≡ k.node field h.ForStmt (k.held_option_for_init 0 init ++ (k.held_option_expr 1 test ++ (k.held_option_expr 2 update ++ k.stmt_items 3 body)))
unfolding stmt_items
stmt_items-ForStmt field init test update u1 body = refl

pub stmt_items-ForInStmt : (field : _) (left : _) (right : _) (u1 : _) (body : _) → k.stmt_items field (v_stmt.ForInStmt' left right u1 body) ≡ k.node field h.ForInStmt (k.for_head_items 0 left ++ (k.expr_items 1 right ++ k.stmt_items 2 body))
unfolding stmt_items
stmt_items-ForInStmt field left right u1 body = refl

pub stmt_items-ForOfStmt : (field : _) (is_await : _) (left : _) (right : _) (u1 : _) (body : _) → k.stmt_items field (v_stmt.ForOfStmt' is_await left right u1 body) ≡ k.node field (h.ForOfStmt is_await) (k.for_head_items 1 left ++ (k.expr_items 2 right ++ k.stmt_items 3 body))
unfolding stmt_items
stmt_items-ForOfStmt field is_await left right u1 body = refl

pub stmt_items-Decl : (field : _) (it : _) → k.stmt_items field (v_stmt.Decl it) ≡ k.decl_items field it
unfolding stmt_items
stmt_items-Decl field it = refl

pub stmt_items-ExprStmt : (field : _) (expr : _) → k.stmt_items field (v_stmt.ExprStmt expr) ≡ k.node field h.ExprStmt (k.expr_items 0 expr)
unfolding stmt_items
stmt_items-ExprStmt field expr = refl

pub for_init_items-VarDecl : (field : _) (kind : _) (u1 : _) (decls : _) (meta : _) → k.for_init_items field (v_for_init.VarDecl' kind u1 decls meta) ≡ k.node field (h.VarDecl kind meta) (k.row_of_var_declarator 1 decls)
unfolding stmt_items
for_init_items-VarDecl field kind u1 decls meta = refl

pub for_init_items-Expr : (field : _) (it : _) → k.for_init_items field (v_for_init.Expr it) ≡ k.expr_items field it
unfolding stmt_items
for_init_items-Expr field it = refl

pub for_head_items-VarDecl : (field : _) (kind : _) (u1 : _) (decls : _) (meta : _) → k.for_head_items field (v_for_head.VarDecl' kind u1 decls meta) ≡ k.node field (h.VarDecl kind meta) (k.row_of_var_declarator 1 decls)
unfolding stmt_items
for_head_items-VarDecl field kind u1 decls meta = refl

pub for_head_items-Pat : (field : _) (it : _) → k.for_head_items field (v_for_head.Pat it) ≡ k.pat_items r.Reference field it
unfolding stmt_items
for_head_items-Pat field it = refl

pub decl_items-ClassDecl : (field : _) (ident : _) (super_class : _) (u1 : _) (body : _) → k.decl_items field (v_decl.ClassDecl' ident super_class u1 body) ≡ k.node field h.ClassDecl (k.ident_items r.Binding 0 ident ++ (k.node 1 h.Class (k.held_option_boxed_expr 0 super_class ++ k.row_of_class_member 1 body)))
unfolding stmt_items
decl_items-ClassDecl field ident super_class u1 body = refl

pub decl_items-FnDecl : (field : _) (ident : _) (u1 : _) (params : _) (u2 : _) (stmts : _) (is_generator : _) (is_async : _) → k.decl_items field (v_decl.FnDecl' ident u1 params u2 stmts is_generator is_async) ≡ k.node field h.FnDecl (k.ident_items r.Binding 0 ident ++ (k.node 1 (h.Function is_generator is_async) (k.row_of_param 0 params ++ (k.node 1 h.BlockStmt (k.row_of_stmt 0 stmts)))))
unfolding stmt_items
decl_items-FnDecl field ident u1 params u2 stmts is_generator is_async = refl

pub decl_items-VarDecl : (field : _) (kind : _) (u1 : _) (decls : _) (meta : _) → k.decl_items field (v_decl.VarDecl' kind u1 decls meta) ≡ k.node field (h.VarDecl kind meta) (k.row_of_var_declarator 1 decls)
unfolding stmt_items
decl_items-VarDecl field kind u1 decls meta = refl

pub expr_items-ThisExpr : (field : _) → k.expr_items field v_expr.ThisExpr ≡ k.node field h.ThisExpr []
unfolding stmt_items
expr_items-ThisExpr field = refl

pub expr_items-ArrayLit : (field : _) (u1 : _) (elems : _) → k.expr_items field (v_expr.ArrayLit' u1 elems) ≡ k.node field h.ArrayLit (k.row_of_option_expr_or_spread 0 elems)
unfolding stmt_items
expr_items-ArrayLit field u1 elems = refl

pub expr_items-ObjectLit : (field : _) (u1 : _) (props : _) → k.expr_items field (v_expr.ObjectLit' u1 props) ≡ k.node field h.ObjectLit (k.row_of_prop_or_spread 0 props)
unfolding stmt_items
expr_items-ObjectLit field u1 props = refl

pub expr_items-FnExpr : (field : _) (ident : _) (u1 : _) (params : _) (u2 : _) (stmts : _) (is_generator : _) (is_async : _) → k.expr_items field (v_expr.FnExpr' ident u1 params u2 stmts is_generator is_async) ≡ k.node field h.FnExpr (k.option_items (k.ident_items r.Binding 0) ident ++ (k.node 1 (h.Function is_generator is_async) (k.row_of_param 0 params ++ (k.node 1 h.BlockStmt (k.row_of_stmt 0 stmts)))))
unfolding stmt_items
expr_items-FnExpr field ident u1 params u2 stmts is_generator is_async = refl

pub expr_items-UnaryExpr : (field : _) (op : _) (u1 : _) (arg : _) → k.expr_items field (v_expr.UnaryExpr' op u1 arg) ≡ k.node field (h.UnaryExpr op) (k.expr_items 1 arg)
unfolding stmt_items
expr_items-UnaryExpr field op u1 arg = refl

pub expr_items-UpdateExpr : (field : _) (op : _) (prefix : _) (u1 : _) (arg : _) → k.expr_items field (v_expr.UpdateExpr' op prefix u1 arg) ≡ k.node field (h.UpdateExpr op prefix) (k.expr_items 2 arg)
unfolding stmt_items
expr_items-UpdateExpr field op prefix u1 arg = refl

pub expr_items-BinExpr : (field : _) (op : _) (u1 : _) (left : _) (u2 : _) (right : _) → k.expr_items field (v_expr.BinExpr' op u1 left u2 right) ≡ k.node field (h.BinExpr op) (k.expr_items 1 left ++ k.expr_items 2 right)
unfolding stmt_items
expr_items-BinExpr field op u1 left u2 right = refl

pub expr_items-AssignExpr : (field : _) (op : _) (left : _) (u1 : _) (right : _) → k.expr_items field (v_expr.AssignExpr' op left u1 right) ≡ k.node field (h.AssignExpr op) (k.assign_target_items 1 left ++ k.expr_items 2 right)
unfolding stmt_items
expr_items-AssignExpr field op left u1 right = refl

pub expr_items-MemberExpr : (field : _) (u1 : _) (obj : _) (prop : _) → k.expr_items field (v_expr.MemberExpr' u1 obj prop) ≡ k.node field h.MemberExpr (k.expr_items 0 obj ++ k.held_member_prop 1 prop)
unfolding stmt_items
expr_items-MemberExpr field u1 obj prop = refl

pub expr_items-SuperPropExpr : (field : _) (prop : _) → k.expr_items field (v_expr.SuperPropExpr' prop) ≡ k.node field h.SuperPropExpr (k.held_super_prop 0 prop)
unfolding stmt_items
expr_items-SuperPropExpr field prop = refl

pub expr_items-CondExpr : (field : _) (u1 : _) (test : _) (u2 : _) (cons : _) (u3 : _) (alt : _) → k.expr_items field (v_expr.CondExpr' u1 test u2 cons u3 alt) ≡ k.node field h.CondExpr (k.expr_items 0 test ++ (k.expr_items 1 cons ++ k.expr_items 2 alt))
unfolding stmt_items
expr_items-CondExpr field u1 test u2 cons u3 alt = refl

pub expr_items-CallExpr : (field : _) (callee : _) (u1 : _) (args : _) → k.expr_items field (v_expr.CallExpr' callee u1 args) ≡ k.node field h.CallExpr (k.held_callee 0 callee ++ k.row_of_expr_or_spread 1 args)
unfolding stmt_items
expr_items-CallExpr field callee u1 args = refl

pub expr_items-NewExpr : (field : _) (u1 : _) (callee : _) (args : _) → k.expr_items field (v_expr.NewExpr' u1 callee args) ≡ k.node field (h.NewExpr (k.is_given args)) (k.expr_items 0 callee ++ k.held_option_each_expr_or_spread 1 args)
unfolding stmt_items
expr_items-NewExpr field u1 callee args = refl

pub expr_items-SeqExpr : (field : _) (u1 : _) (exprs : _) → k.expr_items field (v_expr.SeqExpr' u1 exprs) ≡ k.node field h.SeqExpr (k.row_of_expr 0 exprs)
unfolding stmt_items
expr_items-SeqExpr field u1 exprs = refl

pub expr_items-Ident : (field : _) (it : _) → k.expr_items field (v_expr.Ident it) ≡ k.ident_items r.Reference field it
unfolding stmt_items
expr_items-Ident field it = refl

pub expr_items-Lit : (field : _) (it : _) → k.expr_items field (v_expr.Lit it) ≡ k.lit_items field it
unfolding stmt_items
expr_items-Lit field it = refl

pub expr_items-Tpl : (field : _) (u1 : _) (exprs : _) (quasis : _) → k.expr_items field (v_expr.Tpl' u1 exprs quasis) ≡ k.node field h.Tpl (k.row_of_expr 0 exprs ++ flat_map (k.tpl_element_items 1) quasis.items)
unfolding stmt_items
expr_items-Tpl field u1 exprs quasis = refl

pub expr_items-TaggedTpl : (field : _) (u1 : _) (tag : _) (u2 : _) (exprs : _) (quasis : _) → k.expr_items field (v_expr.TaggedTpl' u1 tag u2 exprs quasis) ≡ k.node field h.TaggedTpl (k.expr_items 0 tag ++ (k.node 1 h.Tpl (k.row_of_expr 0 exprs ++ flat_map (k.tpl_element_items 1) quasis.items)))
unfolding stmt_items
expr_items-TaggedTpl field u1 tag u2 exprs quasis = refl

pub expr_items-ArrowExpr : (field : _) (u1 : _) (params : _) (body : _) (is_async : _) → k.expr_items field (v_expr.ArrowExpr' u1 params body is_async) ≡ k.node field (h.ArrowExpr is_async) (k.row_of_pat r.Binding 0 params ++ k.arrow_body_items 1 body)
unfolding stmt_items
expr_items-ArrowExpr field u1 params body is_async = refl

pub expr_items-ClassExpr : (field : _) (ident : _) (super_class : _) (u1 : _) (body : _) → k.expr_items field (v_expr.ClassExpr' ident super_class u1 body) ≡ k.node field h.ClassExpr (k.option_items (k.ident_items r.Binding 0) ident ++ (k.node 1 h.Class (k.held_option_boxed_expr 0 super_class ++ k.row_of_class_member 1 body)))
unfolding stmt_items
expr_items-ClassExpr field ident super_class u1 body = refl

pub expr_items-YieldExpr : (field : _) (arg : _) (delegate : _) → k.expr_items field (v_expr.YieldExpr' arg delegate) ≡ k.node field (h.YieldExpr delegate) (k.held_option_boxed_expr 0 arg)
unfolding stmt_items
expr_items-YieldExpr field arg delegate = refl

pub expr_items-MetaPropExpr : (field : _) (kind : _) → k.expr_items field (v_expr.MetaPropExpr kind) ≡ k.node field (h.MetaPropExpr kind) []
unfolding stmt_items
expr_items-MetaPropExpr field kind = refl

pub expr_items-AwaitExpr : (field : _) (u1 : _) (arg : _) → k.expr_items field (v_expr.AwaitExpr' u1 arg) ≡ k.node field h.AwaitExpr (k.expr_items 0 arg)
unfolding stmt_items
expr_items-AwaitExpr field u1 arg = refl

pub expr_items-ParenExpr : (field : _) (u1 : _) (expr : _) → k.expr_items field (v_expr.ParenExpr' u1 expr) ≡ k.node field h.ParenExpr (k.expr_items 0 expr)
unfolding stmt_items
expr_items-ParenExpr field u1 expr = refl

pub expr_items-PrivateName : (field : _) (it : _) → k.expr_items field (v_expr.PrivateName it) ≡ k.private_name_items field it
unfolding stmt_items
expr_items-PrivateName field it = refl

pub expr_items-OptChainExpr : (field : _) (optional : _) (base : _) → k.expr_items field (v_expr.OptChainExpr' optional base) ≡ k.node field (h.OptChainExpr optional) (k.held_opt_chain_base 1 base)
unfolding stmt_items
expr_items-OptChainExpr field optional base = refl

pub arrow_body_items-BlockStmt : (field : _) (u1 : _) (stmts : _) → k.arrow_body_items field (v_arrow_body.BlockStmt' u1 stmts) ≡ k.node field h.BlockStmt (k.row_of_stmt 0 stmts)
unfolding stmt_items
arrow_body_items-BlockStmt field u1 stmts = refl

pub arrow_body_items-Expr : (field : _) (u1 : _) (it : _) → k.arrow_body_items field (v_arrow_body.Expr' u1 it) ≡ k.expr_items field it
unfolding stmt_items
arrow_body_items-Expr field u1 it = refl

pub prop_or_spread_items-SpreadElement : (field : _) (expr : _) → k.prop_or_spread_items field (v_prop_or_spread.SpreadElement expr) ≡ k.node field h.SpreadElement (k.expr_items 0 expr)
unfolding stmt_items
prop_or_spread_items-SpreadElement field expr = refl

pub prop_or_spread_items-Prop : (field : _) (it : _) → k.prop_or_spread_items field (v_prop_or_spread.Prop it) ≡ k.prop_items field it
unfolding stmt_items
prop_or_spread_items-Prop field it = refl

pub prop_items-Shorthand : (field : _) (it : _) → k.prop_items field (v_prop.Shorthand it) ≡ k.ident_items r.Reference field it
unfolding stmt_items
prop_items-Shorthand field it = refl

pub prop_items-KeyValueProp : (field : _) (key : _) (value : _) → k.prop_items field (v_prop.KeyValueProp' key value) ≡ k.node field h.KeyValueProp (k.held_prop_name 0 key ++ k.expr_items 1 value)
unfolding stmt_items
prop_items-KeyValueProp field key value = refl

pub prop_items-GetterProp : (field : _) (key : _) (u1 : _) (stmts : _) → k.prop_items field (v_prop.GetterProp' key u1 stmts) ≡ k.node field h.GetterProp (k.held_prop_name 0 key ++ (k.node 1 h.BlockStmt (k.row_of_stmt 0 stmts)))
unfolding stmt_items
prop_items-GetterProp field key u1 stmts = refl

pub prop_items-SetterProp : (field : _) (key : _) (param : _) (u1 : _) (stmts : _) → k.prop_items field (v_prop.SetterProp' key param u1 stmts) ≡ k.node field h.SetterProp (k.held_prop_name 0 key ++ (k.pat_items r.Binding 1 param ++ (k.node 2 h.BlockStmt (k.row_of_stmt 0 stmts))))
unfolding stmt_items
prop_items-SetterProp field key param u1 stmts = refl

pub prop_items-MethodProp : (field : _) (key : _) (u1 : _) (params : _) (u2 : _) (stmts : _) (is_generator : _) (is_async : _) → k.prop_items field (v_prop.MethodProp' key u1 params u2 stmts is_generator is_async) ≡ k.node field h.MethodProp (k.held_prop_name 0 key ++ (k.node 1 (h.Function is_generator is_async) (k.row_of_param 0 params ++ (k.node 1 h.BlockStmt (k.row_of_stmt 0 stmts)))))
unfolding stmt_items
prop_items-MethodProp field key u1 params u2 stmts is_generator is_async = refl

pub pat_items-BindingIdent : (role : _) (field : _) (it : _) → k.pat_items role field (v_pat.BindingIdent it) ≡ k.binding_ident_items role field it
unfolding stmt_items
pat_items-BindingIdent role field it = refl

pub pat_items-ArrayPat : (role : _) (field : _) (u1 : _) (elems : _) → k.pat_items role field (v_pat.ArrayPat' u1 elems) ≡ k.node field h.ArrayPat (k.row_of_option_pat role 0 elems)
unfolding stmt_items
pat_items-ArrayPat role field u1 elems = refl

pub pat_items-RestPat : (role : _) (field : _) (u1 : _) (arg : _) → k.pat_items role field (v_pat.RestPat' u1 arg) ≡ k.node field h.RestPat (k.pat_items role 0 arg)
unfolding stmt_items
pat_items-RestPat role field u1 arg = refl

pub pat_items-ObjectPat : (role : _) (field : _) (u1 : _) (props : _) → k.pat_items role field (v_pat.ObjectPat' u1 props) ≡ k.node field h.ObjectPat (k.row_of_object_pat_prop role 0 props)
unfolding stmt_items
pat_items-ObjectPat role field u1 props = refl

pub pat_items-AssignPat : (role : _) (field : _) (u1 : _) (left : _) (u2 : _) (right : _) → k.pat_items role field (v_pat.AssignPat' u1 left u2 right) ≡ k.node field h.AssignPat (k.pat_items role 0 left ++ k.expr_items 1 right)
unfolding stmt_items
pat_items-AssignPat role field u1 left u2 right = refl

pub pat_items-Expr : (role : _) (field : _) (u1 : _) (it : _) → k.pat_items role field (v_pat.Expr' u1 it) ≡ k.expr_items field it
unfolding stmt_items
pat_items-Expr role field u1 it = refl

pub object_pat_prop_items-KeyValuePatProp : (role : _) (field : _) (key : _) (value : _) → k.object_pat_prop_items role field (v_object_pat_prop.KeyValuePatProp' key value) ≡ k.node field h.KeyValuePatProp (k.held_prop_name 0 key ++ k.pat_items role 1 value)
unfolding stmt_items
object_pat_prop_items-KeyValuePatProp role field key value = refl

pub object_pat_prop_items-AssignPatProp : (role : _) (field : _) (key : _) (value : _) → k.object_pat_prop_items role field (v_object_pat_prop.AssignPatProp' key value) ≡ k.node field h.AssignPatProp (k.binding_ident_items role 0 key ++ k.held_option_expr 1 value)
unfolding stmt_items
object_pat_prop_items-AssignPatProp role field key value = refl

pub object_pat_prop_items-RestPat : (role : _) (field : _) (u1 : _) (arg : _) → k.object_pat_prop_items role field (v_object_pat_prop.RestPat' u1 arg) ≡ k.node field h.RestPat (k.pat_items role 0 arg)
unfolding stmt_items
object_pat_prop_items-RestPat role field u1 arg = refl

pub assign_target_items-BindingIdent : (field : _) (it : _) → k.assign_target_items field (v_assign_target.BindingIdent it) ≡ k.binding_ident_items r.Reference field it
unfolding stmt_items
assign_target_items-BindingIdent field it = refl

pub assign_target_items-MemberExpr : (field : _) (u1 : _) (obj : _) (prop : _) → k.assign_target_items field (v_assign_target.MemberExpr' u1 obj prop) ≡ k.node field h.MemberExpr (k.expr_items 0 obj ++ k.held_member_prop 1 prop)
unfolding stmt_items
assign_target_items-MemberExpr field u1 obj prop = refl

pub assign_target_items-SuperPropExpr : (field : _) (prop : _) → k.assign_target_items field (v_assign_target.SuperPropExpr' prop) ≡ k.node field h.SuperPropExpr (k.held_super_prop 0 prop)
unfolding stmt_items
assign_target_items-SuperPropExpr field prop = refl

pub assign_target_items-ParenExpr : (field : _) (u1 : _) (expr : _) → k.assign_target_items field (v_assign_target.ParenExpr' u1 expr) ≡ k.node field h.ParenExpr (k.expr_items 0 expr)
unfolding stmt_items
assign_target_items-ParenExpr field u1 expr = refl

pub assign_target_items-ArrayPat : (field : _) (u1 : _) (elems : _) → k.assign_target_items field (v_assign_target.ArrayPat' u1 elems) ≡ k.node field h.ArrayPat (k.row_of_option_pat r.Reference 0 elems)
unfolding stmt_items
assign_target_items-ArrayPat field u1 elems = refl

pub assign_target_items-ObjectPat : (field : _) (u1 : _) (props : _) → k.assign_target_items field (v_assign_target.ObjectPat' u1 props) ≡ k.node field h.ObjectPat (k.row_of_object_pat_prop r.Reference 0 props)
unfolding stmt_items
assign_target_items-ObjectPat field u1 props = refl

pub class_member_items-Constructor : (field : _) (u1 : _) (params : _) (u2 : _) (stmts : _) → k.class_member_items field (v_class_member.Constructor' u1 params u2 stmts) ≡ k.node field h.Constructor (k.row_of_param 0 params ++ (k.node 1 h.BlockStmt (k.row_of_stmt 0 stmts)))
unfolding stmt_items
class_member_items-Constructor field u1 params u2 stmts = refl

pub class_member_items-ClassMethod : (field : _) (key : _) (u1 : _) (params : _) (u2 : _) (stmts : _) (is_generator : _) (is_async : _) (kind : _) (is_static : _) → k.class_member_items field (v_class_member.ClassMethod' key u1 params u2 stmts is_generator is_async kind is_static) ≡ k.node field (h.ClassMethod kind is_static) (k.held_prop_name 0 key ++ (k.node 1 (h.Function is_generator is_async) (k.row_of_param 0 params ++ (k.node 1 h.BlockStmt (k.row_of_stmt 0 stmts)))))
unfolding stmt_items
class_member_items-ClassMethod field key u1 params u2 stmts is_generator is_async kind is_static = refl

pub class_member_items-PrivateMethod : (field : _) (key : _) (u1 : _) (params : _) (u2 : _) (stmts : _) (is_generator : _) (is_async : _) (kind : _) (is_static : _) → k.class_member_items field (v_class_member.PrivateMethod' key u1 params u2 stmts is_generator is_async kind is_static) ≡ k.node field (h.PrivateMethod kind is_static) (k.private_name_items 0 key ++ (k.node 1 (h.Function is_generator is_async) (k.row_of_param 0 params ++ (k.node 1 h.BlockStmt (k.row_of_stmt 0 stmts)))))
unfolding stmt_items
class_member_items-PrivateMethod field key u1 params u2 stmts is_generator is_async kind is_static = refl

pub class_member_items-ClassProp : (field : _) (key : _) (value : _) (is_static : _) → k.class_member_items field (v_class_member.ClassProp' key value is_static) ≡ k.node field (h.ClassProp is_static) (k.held_prop_name 0 key ++ k.held_option_expr 1 value)
unfolding stmt_items
class_member_items-ClassProp field key value is_static = refl

pub class_member_items-PrivateProp : (field : _) (key : _) (value : _) (is_static : _) → k.class_member_items field (v_class_member.PrivateProp' key value is_static) ≡ k.node field (h.PrivateProp is_static) (k.private_name_items 0 key ++ k.held_option_expr 1 value)
unfolding stmt_items
class_member_items-PrivateProp field key value is_static = refl

pub class_member_items-StaticBlock : (field : _) (u1 : _) (stmts : _) → k.class_member_items field (v_class_member.StaticBlock' u1 stmts) ≡ k.node field h.StaticBlock (k.node 0 h.BlockStmt (k.row_of_stmt 0 stmts))
unfolding stmt_items
class_member_items-StaticBlock field u1 stmts = refl

pub class_member_items-EmptyStmt : (field : _) → k.class_member_items field v_class_member.EmptyStmt ≡ k.node field h.EmptyStmt []
unfolding stmt_items
class_member_items-EmptyStmt field = refl

pub held_prop_name-IdentName : (field : _) (it : _) → k.held_prop_name field (block.ClassMember-ClassMethod-0-IdentName' it) ≡ k.ident_name_items field it
unfolding stmt_items
held_prop_name-IdentName field it = refl

pub held_prop_name-Str : (field : _) (it : _) → k.held_prop_name field (block.Str' it) ≡ k.str_items field it
unfolding stmt_items
held_prop_name-Str field it = refl

pub held_prop_name-Number : (field : _) (it : _) → k.held_prop_name field (block.Number' it) ≡ k.number_items field it
unfolding stmt_items
held_prop_name-Number field it = refl

pub held_prop_name-BigInt : (field : _) (it : _) → k.held_prop_name field (block.BigInt' it) ≡ k.big_int_items field it
unfolding stmt_items
held_prop_name-BigInt field it = refl

pub held_prop_name-ComputedPropName : (field : _) (u1 : _) (expr : _) → k.held_prop_name field (block.ClassMember-ClassMethod-0-ComputedPropName' u1 expr) ≡ k.node field h.ComputedPropName (k.expr_items 0 expr)
unfolding stmt_items
held_prop_name-ComputedPropName field u1 expr = refl

pub held_option_expr-None : (field : _) → k.held_option_expr field block.ClassMember-ClassProp-1-None' ≡ []
unfolding stmt_items
held_option_expr-None field = refl

pub held_option_expr-Some : (field : _) (it : _) → k.held_option_expr field (block.ClassMember-ClassProp-1-Some' it) ≡ k.expr_items field it
unfolding stmt_items
held_option_expr-Some field it = refl

pub held_option_boxed_expr-None : (field : _) → k.held_option_boxed_expr field block.Expr-YieldExpr-0-None' ≡ []
unfolding stmt_items
held_option_boxed_expr-None field = refl

pub held_option_boxed_expr-Some : (field : _) (u1 : _) (it : _) → k.held_option_boxed_expr field (block.Expr-YieldExpr-0-Some' u1 it) ≡ k.expr_items field it
unfolding stmt_items
held_option_boxed_expr-Some field u1 it = refl

pub place_of_expr_or_spread-None : (field : _) → k.place_of_expr_or_spread field block.Expr-ArrayLit-0-3-None' ≡ h.Hole field ∷ []
unfolding stmt_items
place_of_expr_or_spread-None field = refl

pub place_of_expr_or_spread-Some : (field : _) (spread : _) (expr : _) → k.place_of_expr_or_spread field (block.Expr-ArrayLit-0-3-Some' spread expr) ≡ k.node field (h.ExprOrSpread spread) (k.expr_items 1 expr)
unfolding stmt_items
place_of_expr_or_spread-Some field spread expr = refl

pub held_member_prop-IdentName : (field : _) (it : _) → k.held_member_prop field (block.Expr-MemberExpr-0-7-IdentName' it) ≡ k.ident_name_items field it
unfolding stmt_items
held_member_prop-IdentName field it = refl

pub held_member_prop-PrivateName : (field : _) (it : _) → k.held_member_prop field (block.Expr-MemberExpr-0-7-PrivateName' it) ≡ k.private_name_items field it
unfolding stmt_items
held_member_prop-PrivateName field it = refl

pub held_member_prop-ComputedPropName : (field : _) (u1 : _) (expr : _) → k.held_member_prop field (block.Expr-MemberExpr-0-7-ComputedPropName' u1 expr) ≡ k.node field h.ComputedPropName (k.expr_items 0 expr)
unfolding stmt_items
held_member_prop-ComputedPropName field u1 expr = refl

pub held_super_prop-IdentName : (field : _) (it : _) → k.held_super_prop field (block.Expr-SuperPropExpr-0-4-IdentName' it) ≡ k.ident_name_items field it
unfolding stmt_items
held_super_prop-IdentName field it = refl

pub held_super_prop-ComputedPropName : (field : _) (u1 : _) (expr : _) → k.held_super_prop field (block.Expr-SuperPropExpr-0-4-ComputedPropName' u1 expr) ≡ k.node field h.ComputedPropName (k.expr_items 0 expr)
unfolding stmt_items
held_super_prop-ComputedPropName field u1 expr = refl

pub held_callee-Super : (field : _) → k.held_callee field block.Super' ≡ k.node field h.Super []
unfolding stmt_items
held_callee-Super field = refl

pub held_callee-Import : (field : _) → k.held_callee field block.Import' ≡ k.node field h.Import []
unfolding stmt_items
held_callee-Import field = refl

pub held_callee-Expr : (field : _) (u1 : _) (it : _) → k.held_callee field (block.Expr-CallExpr-0-Expr' u1 it) ≡ k.expr_items field it
unfolding stmt_items
held_callee-Expr field u1 it = refl

pub held_option_each_expr_or_spread-None : (field : _) → k.held_option_each_expr_or_spread field block.Expr-NewExpr-1-None' ≡ []
unfolding stmt_items
held_option_each_expr_or_spread-None field = refl

pub held_option_each_expr_or_spread-Some : (field : _) (u1 : _) (row : _) → k.held_option_each_expr_or_spread field (block.Expr-NewExpr-1-Some' u1 row) ≡ k.row_of_expr_or_spread field row
unfolding stmt_items
held_option_each_expr_or_spread-Some field u1 row = refl

pub held_opt_chain_base-MemberExpr : (field : _) (u1 : _) (obj : _) (prop : _) → k.held_opt_chain_base field (block.Expr-OptChainExpr-1-MemberExpr' u1 obj prop) ≡ k.node field h.MemberExpr (k.expr_items 0 obj ++ k.held_member_prop 1 prop)
unfolding stmt_items
held_opt_chain_base-MemberExpr field u1 obj prop = refl

pub held_opt_chain_base-OptCall : (field : _) (u1 : _) (callee : _) (u2 : _) (args : _) → k.held_opt_chain_base field (block.OptCall' u1 callee u2 args) ≡ k.node field h.OptCall (k.expr_items 0 callee ++ k.row_of_expr_or_spread 1 args)
unfolding stmt_items
held_opt_chain_base-OptCall field u1 callee u2 args = refl

pub held_option_pat-None : (role : _) (field : _) → k.held_option_pat role field block.AssignTarget-ArrayPat-0-1-None' ≡ []
unfolding stmt_items
held_option_pat-None role field = refl

pub held_option_pat-Some : (role : _) (field : _) (it : _) → k.held_option_pat role field (block.AssignTarget-ArrayPat-0-1-Some' it) ≡ k.pat_items role field it
unfolding stmt_items
held_option_pat-Some role field it = refl

pub place_of_pat-None : (role : _) (field : _) → k.place_of_pat role field block.AssignTarget-ArrayPat-0-1-None' ≡ h.Hole field ∷ []
unfolding stmt_items
place_of_pat-None role field = refl

pub place_of_pat-Some : (role : _) (field : _) (it : _) → k.place_of_pat role field (block.AssignTarget-ArrayPat-0-1-Some' it) ≡ k.pat_items role field it
unfolding stmt_items
place_of_pat-Some role field it = refl

pub held_option_boxed_stmt-None : (field : _) → k.held_option_boxed_stmt field block.Stmt-IfStmt-2-None' ≡ []
unfolding stmt_items
held_option_boxed_stmt-None field = refl

pub held_option_boxed_stmt-Some : (field : _) (u1 : _) (it : _) → k.held_option_boxed_stmt field (block.Stmt-IfStmt-2-Some' u1 it) ≡ k.stmt_items field it
unfolding stmt_items
held_option_boxed_stmt-Some field u1 it = refl

pub held_option_catch_clause-None : (field : _) → k.held_option_catch_clause field block.Stmt-TryStmt-1-None' ≡ []
unfolding stmt_items
held_option_catch_clause-None field = refl

pub held_option_catch_clause-Some : (field : _) (param : _) (u1 : _) (stmts : _) → k.held_option_catch_clause field (block.Stmt-TryStmt-1-Some' param u1 stmts) ≡ k.node field h.CatchClause (k.held_option_pat r.Binding 0 param ++ (k.node 1 h.BlockStmt (k.row_of_stmt 0 stmts)))
unfolding stmt_items
held_option_catch_clause-Some field param u1 stmts = refl

pub held_option_block_stmt-None : (field : _) → k.held_option_block_stmt field block.Stmt-TryStmt-2-None' ≡ []
unfolding stmt_items
held_option_block_stmt-None field = refl

pub held_option_block_stmt-Some : (field : _) (u1 : _) (stmts : _) → k.held_option_block_stmt field (block.Stmt-TryStmt-2-Some' u1 stmts) ≡ k.node field h.BlockStmt (k.row_of_stmt 0 stmts)
unfolding stmt_items
held_option_block_stmt-Some field u1 stmts = refl

pub held_option_for_init-None : (field : _) → k.held_option_for_init field block.Stmt-ForStmt-0-None' ≡ []
unfolding stmt_items
held_option_for_init-None field = refl

pub held_option_for_init-Some : (field : _) (it : _) → k.held_option_for_init field (block.Stmt-ForStmt-0-Some' it) ≡ k.for_init_items field it
unfolding stmt_items
held_option_for_init-Some field it = refl

pub given : (args : Option (Vec (v_expr_or_spread.ExprOrSpread v_expr.Expr) Global)) → k.is_given (block.back-Expr-NewExpr-1 args) ≡ is_some args
given None = refl
given (Some _) = refl

-- all of them, as the proofs of the walk use them
pub ruleset steps = (
  common_steps,
  stmt_items-BlockStmt,
  stmt_items-EmptyStmt,
  stmt_items-DebuggerStmt,
  stmt_items-WithStmt,
  stmt_items-ReturnStmt,
  stmt_items-LabeledStmt,
  stmt_items-BreakStmt,
  stmt_items-ContinueStmt,
  stmt_items-IfStmt,
  stmt_items-SwitchStmt,
  stmt_items-ThrowStmt,
  stmt_items-TryStmt,
  stmt_items-WhileStmt,
  stmt_items-DoWhileStmt,
  stmt_items-ForStmt,
  stmt_items-ForInStmt,
  stmt_items-ForOfStmt,
  stmt_items-Decl,
  stmt_items-ExprStmt,
  for_init_items-VarDecl,
  for_init_items-Expr,
  for_head_items-VarDecl,
  for_head_items-Pat,
  decl_items-ClassDecl,
  decl_items-FnDecl,
  decl_items-VarDecl,
  expr_items-ThisExpr,
  expr_items-ArrayLit,
  expr_items-ObjectLit,
  expr_items-FnExpr,
  expr_items-UnaryExpr,
  expr_items-UpdateExpr,
  expr_items-BinExpr,
  expr_items-AssignExpr,
  expr_items-MemberExpr,
  expr_items-SuperPropExpr,
  expr_items-CondExpr,
  expr_items-CallExpr,
  expr_items-NewExpr,
  expr_items-SeqExpr,
  expr_items-Ident,
  expr_items-Lit,
  expr_items-Tpl,
  expr_items-TaggedTpl,
  expr_items-ArrowExpr,
  expr_items-ClassExpr,
  expr_items-YieldExpr,
  expr_items-MetaPropExpr,
  expr_items-AwaitExpr,
  expr_items-ParenExpr,
  expr_items-PrivateName,
  expr_items-OptChainExpr,
  arrow_body_items-BlockStmt,
  arrow_body_items-Expr,
  prop_or_spread_items-SpreadElement,
  prop_or_spread_items-Prop,
  prop_items-Shorthand,
  prop_items-KeyValueProp,
  prop_items-GetterProp,
  prop_items-SetterProp,
  prop_items-MethodProp,
  pat_items-BindingIdent,
  pat_items-ArrayPat,
  pat_items-RestPat,
  pat_items-ObjectPat,
  pat_items-AssignPat,
  pat_items-Expr,
  object_pat_prop_items-KeyValuePatProp,
  object_pat_prop_items-AssignPatProp,
  object_pat_prop_items-RestPat,
  assign_target_items-BindingIdent,
  assign_target_items-MemberExpr,
  assign_target_items-SuperPropExpr,
  assign_target_items-ParenExpr,
  assign_target_items-ArrayPat,
  assign_target_items-ObjectPat,
  class_member_items-Constructor,
  class_member_items-ClassMethod,
  class_member_items-PrivateMethod,
  class_member_items-ClassProp,
  class_member_items-PrivateProp,
  class_member_items-StaticBlock,
  class_member_items-EmptyStmt,
  held_prop_name-IdentName,
  held_prop_name-Str,
  held_prop_name-Number,
  held_prop_name-BigInt,
  held_prop_name-ComputedPropName,
  held_option_expr-None,
  held_option_expr-Some,
  held_option_boxed_expr-None,
  held_option_boxed_expr-Some,
  place_of_expr_or_spread-None,
  place_of_expr_or_spread-Some,
  held_member_prop-IdentName,
  held_member_prop-PrivateName,
  held_member_prop-ComputedPropName,
  held_super_prop-IdentName,
  held_super_prop-ComputedPropName,
  held_callee-Super,
  held_callee-Import,
  held_callee-Expr,
  held_option_each_expr_or_spread-None,
  held_option_each_expr_or_spread-Some,
  held_opt_chain_base-MemberExpr,
  held_opt_chain_base-OptCall,
  held_option_pat-None,
  held_option_pat-Some,
  place_of_pat-None,
  place_of_pat-Some,
  held_option_boxed_stmt-None,
  held_option_boxed_stmt-Some,
  held_option_catch_clause-None,
  held_option_catch_clause-Some,
  held_option_block_stmt-None,
  held_option_block_stmt-Some,
  held_option_for_init-None,
  held_option_for_init-Some,
  given,
)
