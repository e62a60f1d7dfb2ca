-- The list of a node tells which kind of node it is.
use Rattle.std.proofs.Common.{◌≡◌, ℕ, Bool, true, false, cond, refl, sym, ap, List, [], ◌∷◌}
use Rattle.bundle_syntax.specs.declared.lit.Lit.TheVariants as i_lit
use Rattle.bundle_tree_ast.specs.declared.stmt.Stmt as v_stmt
use Rattle.bundle_tree_ast.specs.declared.stmt.ForInit as v_for_init
use Rattle.bundle_tree_ast.specs.declared.stmt.ForHead as v_for_head
use Rattle.bundle_tree_ast.specs.declared.decl.Decl as v_decl
use Rattle.bundle_tree_ast.specs.declared.expr.Expr as v_expr
use Rattle.bundle_tree_ast.specs.declared.expr.ArrowBody as v_arrow_body
use Rattle.bundle_tree_ast.specs.declared.prop.PropOrSpread as v_prop_or_spread
use Rattle.bundle_tree_ast.specs.declared.prop.Prop as v_prop
use Rattle.bundle_tree_ast.specs.declared.pat.Pat as v_pat
use Rattle.bundle_tree_ast.specs.declared.pat.ObjectPatProp as v_object_pat_prop
use Rattle.bundle_tree_ast.specs.declared.pat.AssignTarget as v_assign_target
use Rattle.bundle_tree_ast.specs.declared.class.ClassMember as v_class_member
use Rattle.bundle_syntax.specs.declared.piece.Role.{Role}
use Rattle.bundle_tree_ast.specs.contracts.stmt.Stmt as c_stmt
use Rattle.bundle_tree_ast.specs.contracts.stmt.ForInit as c_for_init
use Rattle.bundle_tree_ast.specs.contracts.stmt.ForHead as c_for_head
use Rattle.bundle_tree_ast.specs.contracts.decl.Decl as c_decl
use Rattle.bundle_tree_ast.specs.contracts.expr.Expr as c_expr
use Rattle.bundle_tree_ast.specs.contracts.expr.ArrowBody as c_arrow_body
use Rattle.bundle_tree_ast.specs.contracts.prop.PropOrSpread as c_prop_or_spread
use Rattle.bundle_tree_ast.specs.contracts.prop.Prop as c_prop
use Rattle.bundle_tree_ast.specs.contracts.pat.Pat as c_pat
use Rattle.bundle_tree_ast.specs.contracts.pat.ObjectPatProp as c_object_pat_prop
use Rattle.bundle_tree_ast.specs.contracts.pat.AssignTarget as c_assign_target
use Rattle.bundle_tree_ast.specs.contracts.class.ClassMember as c_class_member
use Rattle.bundle_tree_ast.specs.declared.class.ClassMember.TheViews as views
use denote.Hole.Carrier as carrier
use Rattle.bundle_syntax.specs.Item as h
use Rattle.bundle_syntax.specs.Item.{Item}
use Rattle.bundle_tree_listed.specs.Tree.{stmt_items, for_init_items, for_head_items, decl_items, expr_items, arrow_body_items, prop_or_spread_items, prop_items, pat_items, object_pat_prop_items, assign_target_items, class_member_items}
use Rattle.bundle_tree_list.proofs.Agree.{nth}
use Rattle.bundle_tree_list.proofs.Part.{begins}

-- the beginnings of expressions
unfoldable pub is_expr : List Item → Bool
is_expr (h.Open f h.ThisExpr ∷ rest) = true
is_expr (h.Open f h.ArrayLit ∷ rest) = true
is_expr (h.Open f h.ObjectLit ∷ rest) = true
is_expr (h.Open f h.FnExpr ∷ rest) = true
is_expr (h.Open f (h.UnaryExpr a) ∷ rest) = true
is_expr (h.Open f (h.UpdateExpr a b) ∷ rest) = true
is_expr (h.Open f (h.BinExpr a) ∷ rest) = true
is_expr (h.Open f (h.AssignExpr a) ∷ rest) = true
is_expr (h.Open f h.MemberExpr ∷ rest) = true
is_expr (h.Open f h.SuperPropExpr ∷ rest) = true
is_expr (h.Open f h.CondExpr ∷ rest) = true
is_expr (h.Open f h.CallExpr ∷ rest) = true
is_expr (h.Open f (h.NewExpr a) ∷ rest) = true
is_expr (h.Open f h.SeqExpr ∷ rest) = true
is_expr (h.Open f h.Tpl ∷ rest) = true
is_expr (h.Open f h.TaggedTpl ∷ rest) = true
is_expr (h.Open f (h.ArrowExpr a) ∷ rest) = true
is_expr (h.Open f h.ClassExpr ∷ rest) = true
is_expr (h.Open f (h.YieldExpr a) ∷ rest) = true
is_expr (h.Open f (h.MetaPropExpr a) ∷ rest) = true
is_expr (h.Open f h.AwaitExpr ∷ rest) = true
is_expr (h.Open f h.ParenExpr ∷ rest) = true
is_expr (h.Open f (h.OptChainExpr a) ∷ rest) = true
is_expr (h.Open f (h.Str a b) ∷ rest) = true
is_expr (h.Open f (h.Bool a) ∷ rest) = true
is_expr (h.Open f h.Null ∷ rest) = true
is_expr (h.Open f (h.Number a) ∷ rest) = true
is_expr (h.Open f (h.BigInt a) ∷ rest) = true
is_expr (h.Open f (h.Regex a) ∷ rest) = true
is_expr (h.Open f (h.PrivateName a) ∷ rest) = true
is_expr (h.Ident f sym ctxt role ∷ rest) = true
is_expr list = false

pub expr_is : (field : ℕ) (it : v_expr.Expr) → is_expr (expr_items field it) ≡ true
unfolding stmt_items is_expr
expr_is field v_expr.ThisExpr = refl
expr_is field (v_expr.ArrayLit' _ elems) = refl
expr_is field (v_expr.ObjectLit' _ props) = refl
expr_is field (v_expr.FnExpr' ident _ params _ stmts is_generator is_async) = refl
expr_is field (v_expr.UnaryExpr' op _ arg) = refl
expr_is field (v_expr.UpdateExpr' op prefix _ arg) = refl
expr_is field (v_expr.BinExpr' op _ left _ right) = refl
expr_is field (v_expr.AssignExpr' op left _ right) = refl
expr_is field (v_expr.MemberExpr' _ obj prop) = refl
expr_is field (v_expr.SuperPropExpr' prop) = refl
expr_is field (v_expr.CondExpr' _ test _ cons _ alt) = refl
expr_is field (v_expr.CallExpr' callee _ args) = refl
expr_is field (v_expr.NewExpr' _ callee args) = refl
expr_is field (v_expr.SeqExpr' _ exprs) = refl
expr_is field (v_expr.Ident it) = refl
expr_is field (v_expr.Lit (i_lit.Str it)) = refl
expr_is field (v_expr.Lit (i_lit.Bool value)) = refl
expr_is field (v_expr.Lit i_lit.Null) = refl
expr_is field (v_expr.Lit (i_lit.Number it)) = refl
expr_is field (v_expr.Lit (i_lit.BigInt it)) = refl
expr_is field (v_expr.Lit (i_lit.Regex it)) = refl
expr_is field (v_expr.Tpl' _ exprs quasis) = refl
expr_is field (v_expr.TaggedTpl' _ tag _ exprs quasis) = refl
expr_is field (v_expr.ArrowExpr' _ params body is_async) = refl
expr_is field (v_expr.ClassExpr' ident super_class _ body) = refl
expr_is field (v_expr.YieldExpr' arg delegate) = refl
expr_is field (v_expr.MetaPropExpr kind) = refl
expr_is field (v_expr.AwaitExpr' _ arg) = refl
expr_is field (v_expr.ParenExpr' _ expr) = refl
expr_is field (v_expr.PrivateName it) = refl
expr_is field (v_expr.OptChainExpr' optional base) = refl

some_there : (list : List Item) → is_expr list ≡ true → begins list ≡ true
unfolding is_expr begins
some_there [] wrong = wrong
some_there (x ∷ xs) is = refl

-- a list that is not empty
pub expr_begins : (field : ℕ) (it : v_expr.Expr) → begins (expr_items field it) ≡ true
expr_begins field it = some_there (expr_items field it) (expr_is field it)

-- which kind of expr begins the list
pub expr_number : List Item → ℕ
expr_number (h.Open f h.ThisExpr ∷ rest) = 0
expr_number (h.Open f h.ArrayLit ∷ rest) = 1
expr_number (h.Open f h.ObjectLit ∷ rest) = 2
expr_number (h.Open f h.FnExpr ∷ rest) = 3
expr_number (h.Open f (h.UnaryExpr a) ∷ rest) = 4
expr_number (h.Open f (h.UpdateExpr a b) ∷ rest) = 5
expr_number (h.Open f (h.BinExpr a) ∷ rest) = 6
expr_number (h.Open f (h.AssignExpr a) ∷ rest) = 7
expr_number (h.Open f h.MemberExpr ∷ rest) = 8
expr_number (h.Open f h.SuperPropExpr ∷ rest) = 9
expr_number (h.Open f h.CondExpr ∷ rest) = 10
expr_number (h.Open f h.CallExpr ∷ rest) = 11
expr_number (h.Open f (h.NewExpr a) ∷ rest) = 12
expr_number (h.Open f h.SeqExpr ∷ rest) = 13
expr_number (h.Ident f sym ctxt role ∷ rest) = 14
expr_number (h.Open f (h.Str a b) ∷ rest) = 15
expr_number (h.Open f (h.Bool a) ∷ rest) = 15
expr_number (h.Open f h.Null ∷ rest) = 15
expr_number (h.Open f (h.Number a) ∷ rest) = 15
expr_number (h.Open f (h.BigInt a) ∷ rest) = 15
expr_number (h.Open f (h.Regex a) ∷ rest) = 15
expr_number (h.Open f h.Tpl ∷ rest) = 16
expr_number (h.Open f h.TaggedTpl ∷ rest) = 17
expr_number (h.Open f (h.ArrowExpr a) ∷ rest) = 18
expr_number (h.Open f h.ClassExpr ∷ rest) = 19
expr_number (h.Open f (h.YieldExpr a) ∷ rest) = 20
expr_number (h.Open f (h.MetaPropExpr a) ∷ rest) = 21
expr_number (h.Open f h.AwaitExpr ∷ rest) = 22
expr_number (h.Open f h.ParenExpr ∷ rest) = 23
expr_number (h.Open f (h.PrivateName a) ∷ rest) = 24
expr_number (h.Open f (h.OptChainExpr a) ∷ rest) = 25
expr_number list = 26

pub expr_numbered : (field : ℕ) (it : v_expr.Expr) → expr_number (expr_items field it) ≡ nth c_expr.enum.parts (c_expr.enum.as_values it)
unfolding stmt_items expr_number views.out-Expr carrier.out
expr_numbered field v_expr.ThisExpr = refl
expr_numbered field (v_expr.ArrayLit' _ elems) = refl
expr_numbered field (v_expr.ObjectLit' _ props) = refl
expr_numbered field (v_expr.FnExpr' ident _ params _ stmts is_generator is_async) = refl
expr_numbered field (v_expr.UnaryExpr' op _ arg) = refl
expr_numbered field (v_expr.UpdateExpr' op prefix _ arg) = refl
expr_numbered field (v_expr.BinExpr' op _ left _ right) = refl
expr_numbered field (v_expr.AssignExpr' op left _ right) = refl
expr_numbered field (v_expr.MemberExpr' _ obj prop) = refl
expr_numbered field (v_expr.SuperPropExpr' prop) = refl
expr_numbered field (v_expr.CondExpr' _ test _ cons _ alt) = refl
expr_numbered field (v_expr.CallExpr' callee _ args) = refl
expr_numbered field (v_expr.NewExpr' _ callee args) = refl
expr_numbered field (v_expr.SeqExpr' _ exprs) = refl
expr_numbered field (v_expr.Ident it) = refl
expr_numbered field (v_expr.Lit (i_lit.Str it)) = refl
expr_numbered field (v_expr.Lit (i_lit.Bool value)) = refl
expr_numbered field (v_expr.Lit i_lit.Null) = refl
expr_numbered field (v_expr.Lit (i_lit.Number it)) = refl
expr_numbered field (v_expr.Lit (i_lit.BigInt it)) = refl
expr_numbered field (v_expr.Lit (i_lit.Regex it)) = refl
expr_numbered field (v_expr.Tpl' _ exprs quasis) = refl
expr_numbered field (v_expr.TaggedTpl' _ tag _ exprs quasis) = refl
expr_numbered field (v_expr.ArrowExpr' _ params body is_async) = refl
expr_numbered field (v_expr.ClassExpr' ident super_class _ body) = refl
expr_numbered field (v_expr.YieldExpr' arg delegate) = refl
expr_numbered field (v_expr.MetaPropExpr kind) = refl
expr_numbered field (v_expr.AwaitExpr' _ arg) = refl
expr_numbered field (v_expr.ParenExpr' _ expr) = refl
expr_numbered field (v_expr.PrivateName it) = refl
expr_numbered field (v_expr.OptChainExpr' optional base) = refl

-- which kind of decl begins the list
pub decl_number : List Item → ℕ
decl_number (h.Open f h.ClassDecl ∷ rest) = 0
decl_number (h.Open f h.FnDecl ∷ rest) = 1
decl_number (h.Open f (h.VarDecl a b) ∷ rest) = 2
decl_number list = 3

pub decl_numbered : (field : ℕ) (it : v_decl.Decl) → decl_number (decl_items field it) ≡ nth c_decl.enum.parts (c_decl.enum.as_values it)
unfolding stmt_items decl_number views.out-Decl carrier.out
decl_numbered field (v_decl.ClassDecl' ident super_class _ body) = refl
decl_numbered field (v_decl.FnDecl' ident _ params _ stmts is_generator is_async) = refl
decl_numbered field (v_decl.VarDecl' kind _ decls meta) = refl

-- which kind of stmt begins the list
pub stmt_number : List Item → ℕ
stmt_number (h.Open f h.BlockStmt ∷ rest) = 0
stmt_number (h.Open f h.EmptyStmt ∷ rest) = 1
stmt_number (h.Open f h.DebuggerStmt ∷ rest) = 2
stmt_number (h.Open f h.WithStmt ∷ rest) = 3
stmt_number (h.Open f h.ReturnStmt ∷ rest) = 4
stmt_number (h.Open f h.LabeledStmt ∷ rest) = 5
stmt_number (h.Open f h.BreakStmt ∷ rest) = 6
stmt_number (h.Open f h.ContinueStmt ∷ rest) = 7
stmt_number (h.Open f h.IfStmt ∷ rest) = 8
stmt_number (h.Open f h.SwitchStmt ∷ rest) = 9
stmt_number (h.Open f h.ThrowStmt ∷ rest) = 10
stmt_number (h.Open f h.TryStmt ∷ rest) = 11
stmt_number (h.Open f h.WhileStmt ∷ rest) = 12
stmt_number (h.Open f h.DoWhileStmt ∷ rest) = 13
stmt_number (h.Open f h.ForStmt ∷ rest) = 14
stmt_number (h.Open f h.ForInStmt ∷ rest) = 15
stmt_number (h.Open f (h.ForOfStmt a) ∷ rest) = 16
stmt_number (h.Open f h.ClassDecl ∷ rest) = 17
stmt_number (h.Open f h.FnDecl ∷ rest) = 17
stmt_number (h.Open f (h.VarDecl a b) ∷ rest) = 17
stmt_number (h.Open f h.ExprStmt ∷ rest) = 18
stmt_number list = 19

pub stmt_numbered : (field : ℕ) (it : v_stmt.Stmt) → stmt_number (stmt_items field it) ≡ nth c_stmt.enum.parts (c_stmt.enum.as_values it)
unfolding stmt_items stmt_number views.out-Stmt carrier.out
stmt_numbered field (v_stmt.BlockStmt' _ stmts) = refl
stmt_numbered field v_stmt.EmptyStmt = refl
stmt_numbered field v_stmt.DebuggerStmt = refl
stmt_numbered field (v_stmt.WithStmt' obj _ body) = refl
stmt_numbered field (v_stmt.ReturnStmt' arg) = refl
stmt_numbered field (v_stmt.LabeledStmt' label _ body) = refl
stmt_numbered field (v_stmt.BreakStmt label) = refl
stmt_numbered field (v_stmt.ContinueStmt label) = refl
stmt_numbered field (v_stmt.IfStmt' test _ cons alt) = refl
stmt_numbered field (v_stmt.SwitchStmt' discriminant _ cases) = refl
stmt_numbered field (v_stmt.ThrowStmt arg) = refl
stmt_numbered field (v_stmt.TryStmt' _ stmts handler finalizer) = refl
stmt_numbered field (v_stmt.WhileStmt' test _ body) = refl
stmt_numbered field (v_stmt.DoWhileStmt' _ body test) = refl
stmt_numbered field (v_stmt.ForStmt' init test update _ body) = refl
stmt_numbered field (v_stmt.ForInStmt' left right _ body) = refl
stmt_numbered field (v_stmt.ForOfStmt' is_await left right _ body) = refl
stmt_numbered field (v_stmt.Decl (v_decl.ClassDecl' ident super_class _ body)) = refl
stmt_numbered field (v_stmt.Decl (v_decl.FnDecl' ident _ params _ stmts is_generator is_async)) = refl
stmt_numbered field (v_stmt.Decl (v_decl.VarDecl' kind _ decls meta)) = refl
stmt_numbered field (v_stmt.ExprStmt expr) = refl

-- which kind of for init begins the list
for_init_head : List Item → ℕ
for_init_head (h.Open f (h.VarDecl a b) ∷ rest) = 0
for_init_head list = 2

pub for_init_number : List Item → ℕ
for_init_number list = cond (is_expr list) 1 (for_init_head list)

pub for_init_numbered : (field : ℕ) (it : v_for_init.ForInit) → for_init_number (for_init_items field it) ≡ nth c_for_init.enum.parts (c_for_init.enum.as_values it)
unfolding stmt_items is_expr for_init_head for_init_number views.out-ForInit carrier.out
for_init_numbered field (v_for_init.VarDecl' kind _ decls meta) = refl
for_init_numbered field (v_for_init.Expr it) = ap (λ is. cond is 1 (for_init_head (expr_items field it))) (expr_is field it)

-- which kind of for head begins the list
for_head_head : List Item → ℕ
for_head_head (h.Open f (h.VarDecl a b) ∷ rest) = 0
for_head_head list = 1

pub for_head_number : List Item → ℕ
for_head_number list = cond (is_expr list) 1 (for_head_head list)

pub for_head_numbered : (field : ℕ) (it : v_for_head.ForHead) → for_head_number (for_head_items field it) ≡ nth c_for_head.enum.parts (c_for_head.enum.as_values it)
unfolding stmt_items is_expr for_head_head for_head_number views.out-ForHead carrier.out
for_head_numbered field (v_for_head.VarDecl' kind _ decls meta) = refl
for_head_numbered field (v_for_head.Pat (v_pat.BindingIdent it)) = refl
for_head_numbered field (v_for_head.Pat (v_pat.ArrayPat' _ elems)) = refl
for_head_numbered field (v_for_head.Pat (v_pat.RestPat' _ arg)) = refl
for_head_numbered field (v_for_head.Pat (v_pat.ObjectPat' _ props)) = refl
for_head_numbered field (v_for_head.Pat (v_pat.AssignPat' _ left _ right)) = refl
for_head_numbered field (v_for_head.Pat (v_pat.Expr' _ it)) = ap (λ is. cond is 1 (for_head_head (expr_items field it))) (expr_is field it)

-- which kind of arrow body begins the list
arrow_body_head : List Item → ℕ
arrow_body_head (h.Open f h.BlockStmt ∷ rest) = 0
arrow_body_head list = 2

pub arrow_body_number : List Item → ℕ
arrow_body_number list = cond (is_expr list) 1 (arrow_body_head list)

pub arrow_body_numbered : (field : ℕ) (it : v_arrow_body.ArrowBody) → arrow_body_number (arrow_body_items field it) ≡ nth c_arrow_body.enum.parts (c_arrow_body.enum.as_values it)
unfolding stmt_items is_expr arrow_body_head arrow_body_number views.out-ArrowBody carrier.out
arrow_body_numbered field (v_arrow_body.BlockStmt' _ stmts) = refl
arrow_body_numbered field (v_arrow_body.Expr' _ it) = ap (λ is. cond is 1 (arrow_body_head (expr_items field it))) (expr_is field it)

-- which kind of prop begins the list
pub prop_number : List Item → ℕ
prop_number (h.Ident f sym ctxt role ∷ rest) = 0
prop_number (h.Open f h.KeyValueProp ∷ rest) = 1
prop_number (h.Open f h.GetterProp ∷ rest) = 2
prop_number (h.Open f h.SetterProp ∷ rest) = 3
prop_number (h.Open f h.MethodProp ∷ rest) = 4
prop_number list = 5

pub prop_numbered : (field : ℕ) (it : v_prop.Prop) → prop_number (prop_items field it) ≡ nth c_prop.enum.parts (c_prop.enum.as_values it)
unfolding stmt_items prop_number views.out-Prop carrier.out
prop_numbered field (v_prop.Shorthand it) = refl
prop_numbered field (v_prop.KeyValueProp' key value) = refl
prop_numbered field (v_prop.GetterProp' key _ stmts) = refl
prop_numbered field (v_prop.SetterProp' key param _ stmts) = refl
prop_numbered field (v_prop.MethodProp' key _ params _ stmts is_generator is_async) = refl

-- which kind of prop or spread begins the list
pub prop_or_spread_number : List Item → ℕ
prop_or_spread_number (h.Open f h.SpreadElement ∷ rest) = 0
prop_or_spread_number list = 1

pub prop_or_spread_numbered : (field : ℕ) (it : v_prop_or_spread.PropOrSpread) → prop_or_spread_number (prop_or_spread_items field it) ≡ nth c_prop_or_spread.enum.parts (c_prop_or_spread.enum.as_values it)
unfolding stmt_items prop_or_spread_number views.out-PropOrSpread carrier.out
prop_or_spread_numbered field (v_prop_or_spread.SpreadElement expr) = refl
prop_or_spread_numbered field (v_prop_or_spread.Prop (v_prop.Shorthand it)) = refl
prop_or_spread_numbered field (v_prop_or_spread.Prop (v_prop.KeyValueProp' key value)) = refl
prop_or_spread_numbered field (v_prop_or_spread.Prop (v_prop.GetterProp' key _ stmts)) = refl
prop_or_spread_numbered field (v_prop_or_spread.Prop (v_prop.SetterProp' key param _ stmts)) = refl
prop_or_spread_numbered field (v_prop_or_spread.Prop (v_prop.MethodProp' key _ params _ stmts is_generator is_async)) = refl

-- which kind of pat begins the list
pat_head : List Item → ℕ
pat_head (h.Open f h.BindingIdent ∷ rest) = 0
pat_head (h.Open f h.ArrayPat ∷ rest) = 1
pat_head (h.Open f h.RestPat ∷ rest) = 2
pat_head (h.Open f h.ObjectPat ∷ rest) = 3
pat_head (h.Open f h.AssignPat ∷ rest) = 4
pat_head list = 6

pub pat_number : List Item → ℕ
pat_number list = cond (is_expr list) 5 (pat_head list)

pub pat_numbered : (role : Role) (field : ℕ) (it : v_pat.Pat) → pat_number (pat_items role field it) ≡ nth c_pat.enum.parts (c_pat.enum.as_values it)
unfolding stmt_items is_expr pat_head pat_number views.out-Pat carrier.out
pat_numbered role field (v_pat.BindingIdent it) = refl
pat_numbered role field (v_pat.ArrayPat' _ elems) = refl
pat_numbered role field (v_pat.RestPat' _ arg) = refl
pat_numbered role field (v_pat.ObjectPat' _ props) = refl
pat_numbered role field (v_pat.AssignPat' _ left _ right) = refl
pat_numbered role field (v_pat.Expr' _ it) = ap (λ is. cond is 5 (pat_head (expr_items field it))) (expr_is field it)

-- which kind of object pat prop begins the list
pub object_pat_prop_number : List Item → ℕ
object_pat_prop_number (h.Open f h.KeyValuePatProp ∷ rest) = 0
object_pat_prop_number (h.Open f h.AssignPatProp ∷ rest) = 1
object_pat_prop_number (h.Open f h.RestPat ∷ rest) = 2
object_pat_prop_number list = 3

pub object_pat_prop_numbered : (role : Role) (field : ℕ) (it : v_object_pat_prop.ObjectPatProp) → object_pat_prop_number (object_pat_prop_items role field it) ≡ nth c_object_pat_prop.enum.parts (c_object_pat_prop.enum.as_values it)
unfolding stmt_items object_pat_prop_number views.out-ObjectPatProp carrier.out
object_pat_prop_numbered role field (v_object_pat_prop.KeyValuePatProp' key value) = refl
object_pat_prop_numbered role field (v_object_pat_prop.AssignPatProp' key value) = refl
object_pat_prop_numbered role field (v_object_pat_prop.RestPat' _ arg) = refl

-- which kind of assign target begins the list
pub assign_target_number : List Item → ℕ
assign_target_number (h.Open f h.BindingIdent ∷ rest) = 0
assign_target_number (h.Open f h.MemberExpr ∷ rest) = 1
assign_target_number (h.Open f h.SuperPropExpr ∷ rest) = 2
assign_target_number (h.Open f h.ParenExpr ∷ rest) = 3
assign_target_number (h.Open f h.ArrayPat ∷ rest) = 4
assign_target_number (h.Open f h.ObjectPat ∷ rest) = 5
assign_target_number list = 6

pub assign_target_numbered : (field : ℕ) (it : v_assign_target.AssignTarget) → assign_target_number (assign_target_items field it) ≡ nth c_assign_target.enum.parts (c_assign_target.enum.as_values it)
unfolding stmt_items assign_target_number views.out-AssignTarget carrier.out
assign_target_numbered field (v_assign_target.BindingIdent it) = refl
assign_target_numbered field (v_assign_target.MemberExpr' _ obj prop) = refl
assign_target_numbered field (v_assign_target.SuperPropExpr' prop) = refl
assign_target_numbered field (v_assign_target.ParenExpr' _ expr) = refl
assign_target_numbered field (v_assign_target.ArrayPat' _ elems) = refl
assign_target_numbered field (v_assign_target.ObjectPat' _ props) = refl

-- which kind of class member begins the list
pub class_member_number : List Item → ℕ
class_member_number (h.Open f h.Constructor ∷ rest) = 0
class_member_number (h.Open f (h.ClassMethod a b) ∷ rest) = 1
class_member_number (h.Open f (h.PrivateMethod a b) ∷ rest) = 2
class_member_number (h.Open f (h.ClassProp a) ∷ rest) = 3
class_member_number (h.Open f (h.PrivateProp a) ∷ rest) = 4
class_member_number (h.Open f h.StaticBlock ∷ rest) = 5
class_member_number (h.Open f h.EmptyStmt ∷ rest) = 6
class_member_number list = 7

pub class_member_numbered : (field : ℕ) (it : v_class_member.ClassMember) → class_member_number (class_member_items field it) ≡ nth c_class_member.enum.parts (c_class_member.enum.as_values it)
unfolding stmt_items class_member_number views.out-ClassMember carrier.out
class_member_numbered field (v_class_member.Constructor' _ params _ stmts) = refl
class_member_numbered field (v_class_member.ClassMethod' key _ params _ stmts is_generator is_async kind is_static) = refl
class_member_numbered field (v_class_member.PrivateMethod' key _ params _ stmts is_generator is_async kind is_static) = refl
class_member_numbered field (v_class_member.ClassProp' key value is_static) = refl
class_member_numbered field (v_class_member.PrivateProp' key value is_static) = refl
class_member_numbered field (v_class_member.StaticBlock' _ stmts) = refl
class_member_numbered field v_class_member.EmptyStmt = refl

pub pat_begins : (role : Role) (field : ℕ) (it : v_pat.Pat) → begins (pat_items role field it) ≡ true
unfolding stmt_items begins
pat_begins role field (v_pat.BindingIdent it) = refl
pat_begins role field (v_pat.ArrayPat' _ elems) = refl
pat_begins role field (v_pat.RestPat' _ arg) = refl
pat_begins role field (v_pat.ObjectPat' _ props) = refl
pat_begins role field (v_pat.AssignPat' _ left _ right) = refl
pat_begins role field (v_pat.Expr' _ it) = expr_begins field it

pub stmt_begins : (field : ℕ) (it : v_stmt.Stmt) → begins (stmt_items field it) ≡ true
unfolding stmt_items begins
stmt_begins field (v_stmt.BlockStmt' _ stmts) = refl
stmt_begins field v_stmt.EmptyStmt = refl
stmt_begins field v_stmt.DebuggerStmt = refl
stmt_begins field (v_stmt.WithStmt' obj _ body) = refl
stmt_begins field (v_stmt.ReturnStmt' arg) = refl
stmt_begins field (v_stmt.LabeledStmt' label _ body) = refl
stmt_begins field (v_stmt.BreakStmt label) = refl
stmt_begins field (v_stmt.ContinueStmt label) = refl
stmt_begins field (v_stmt.IfStmt' test _ cons alt) = refl
stmt_begins field (v_stmt.SwitchStmt' discriminant _ cases) = refl
stmt_begins field (v_stmt.ThrowStmt arg) = refl
stmt_begins field (v_stmt.TryStmt' _ stmts handler finalizer) = refl
stmt_begins field (v_stmt.WhileStmt' test _ body) = refl
stmt_begins field (v_stmt.DoWhileStmt' _ body test) = refl
stmt_begins field (v_stmt.ForStmt' init test update _ body) = refl
stmt_begins field (v_stmt.ForInStmt' left right _ body) = refl
stmt_begins field (v_stmt.ForOfStmt' is_await left right _ body) = refl
stmt_begins field (v_stmt.Decl (v_decl.ClassDecl' ident super_class _ body)) = refl
stmt_begins field (v_stmt.Decl (v_decl.FnDecl' ident _ params _ stmts is_generator is_async)) = refl
stmt_begins field (v_stmt.Decl (v_decl.VarDecl' kind _ decls meta)) = refl
stmt_begins field (v_stmt.ExprStmt expr) = refl

pub for_init_begins : (field : ℕ) (it : v_for_init.ForInit) → begins (for_init_items field it) ≡ true
unfolding stmt_items begins
for_init_begins field (v_for_init.VarDecl' kind _ decls meta) = refl
for_init_begins field (v_for_init.Expr it) = expr_begins field it

pub prop_or_spread_begins : (field : ℕ) (it : v_prop_or_spread.PropOrSpread) → begins (prop_or_spread_items field it) ≡ true
unfolding stmt_items begins
prop_or_spread_begins field (v_prop_or_spread.SpreadElement expr) = refl
prop_or_spread_begins field (v_prop_or_spread.Prop (v_prop.Shorthand it)) = refl
prop_or_spread_begins field (v_prop_or_spread.Prop (v_prop.KeyValueProp' key value)) = refl
prop_or_spread_begins field (v_prop_or_spread.Prop (v_prop.GetterProp' key _ stmts)) = refl
prop_or_spread_begins field (v_prop_or_spread.Prop (v_prop.SetterProp' key param _ stmts)) = refl
prop_or_spread_begins field (v_prop_or_spread.Prop (v_prop.MethodProp' key _ params _ stmts is_generator is_async)) = refl

pub object_pat_prop_begins : (role : Role) (field : ℕ) (it : v_object_pat_prop.ObjectPatProp) → begins (object_pat_prop_items role field it) ≡ true
unfolding stmt_items begins
object_pat_prop_begins role field (v_object_pat_prop.KeyValuePatProp' key value) = refl
object_pat_prop_begins role field (v_object_pat_prop.AssignPatProp' key value) = refl
object_pat_prop_begins role field (v_object_pat_prop.RestPat' _ arg) = refl

pub class_member_begins : (field : ℕ) (it : v_class_member.ClassMember) → begins (class_member_items field it) ≡ true
unfolding stmt_items begins
class_member_begins field (v_class_member.Constructor' _ params _ stmts) = refl
class_member_begins field (v_class_member.ClassMethod' key _ params _ stmts is_generator is_async kind is_static) = refl
class_member_begins field (v_class_member.PrivateMethod' key _ params _ stmts is_generator is_async kind is_static) = refl
class_member_begins field (v_class_member.ClassProp' key value is_static) = refl
class_member_begins field (v_class_member.PrivateProp' key value is_static) = refl
class_member_begins field (v_class_member.StaticBlock' _ stmts) = refl
class_member_begins field v_class_member.EmptyStmt = refl

-- a place of a list that holds nothing
unfoldable pub is_hole : List Item → Bool
is_hole (h.Hole f ∷ rest) = true
is_hole list = false

expr_no_hole_by : (list : List Item) → is_expr list ≡ true → is_hole list ≡ false
unfolding is_expr is_hole
expr_no_hole_by [] wrong = refl
expr_no_hole_by (h.Open f head ∷ rest) is = refl
expr_no_hole_by (h.Ident f sym ctxt role ∷ rest) is = refl
expr_no_hole_by (h.Hole f ∷ rest) wrong = sym wrong
expr_no_hole_by (h.Close ∷ rest) is = refl

pub pat_no_hole : (role : Role) (field : ℕ) (it : v_pat.Pat) → is_hole (pat_items role field it) ≡ false
unfolding stmt_items is_hole
pat_no_hole role field (v_pat.BindingIdent it) = refl
pat_no_hole role field (v_pat.ArrayPat' _ elems) = refl
pat_no_hole role field (v_pat.RestPat' _ arg) = refl
pat_no_hole role field (v_pat.ObjectPat' _ props) = refl
pat_no_hole role field (v_pat.AssignPat' _ left _ right) = refl
pat_no_hole role field (v_pat.Expr' _ it) = expr_no_hole_by (expr_items field it) (expr_is field it)
