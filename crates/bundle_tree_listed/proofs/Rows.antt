-- The items of a list of nodes are those of its elements, one after another.
use Rattle.std.proofs.Common.{◌≡◌, ℕ, ◌++◌, [], ◌∷◌, refl, ap, sym, ◌∙◌, Vec, Option, Global}
use Rattle.std.specs.List.{flat_map}
use Rattle.std.proofs.lemmas.Grind.{common_steps, flat_map-append}
use Rattle.bundle_syntax.specs.Item as h
use Rattle.bundle_tree_listed.specs.Tree as k
use Rattle.bundle_tree_listed.specs.Tree.{stmt_items}
use Rattle.bundle_tree_ast.specs.declared.stmt.Stmt as v_stmt
use Rattle.bundle_tree_ast.specs.declared.stmt.SwitchCase as v_switch_case
use Rattle.bundle_tree_ast.specs.declared.decl.VarDeclarator as v_var_declarator
use Rattle.bundle_tree_ast.specs.declared.expr.Expr as v_expr
use Rattle.bundle_tree_ast.specs.declared.expr.ExprOrSpread as v_expr_or_spread
use Rattle.bundle_tree_ast.specs.declared.prop.PropOrSpread as v_prop_or_spread
use Rattle.bundle_tree_ast.specs.declared.pat.Pat as v_pat
use Rattle.bundle_tree_ast.specs.declared.pat.ObjectPatProp as v_object_pat_prop
use Rattle.bundle_tree_ast.specs.declared.class.Param as v_param
use Rattle.bundle_tree_ast.specs.declared.class.ClassMember as v_class_member
use Rattle.bundle_tree_ast.specs.declared.class.ClassMember.TheBlock as block
use Rattle.bundle_syntax.specs.declared.piece.Role.TheVariants as r
use Rattle.bundle_syntax.specs.declared.piece.Role.{Role}

row_of_param_is : (field : ℕ) (n : _) (row : block.Row_of-ClassMember-Constructor-0-1 n) → k.row_of_param field row ≡ flat_map (k.param_items field) (block.items-the_row-ClassMember-Constructor-0-1 n row)
unfolding stmt_items
row_of_param_is field _ block.end_of-ClassMember-Constructor-0-1 = refl
row_of_param_is field _ (block.more_of-ClassMember-Constructor-0-1 pat rest) = ap (λ xs. (k.node field h.Param (k.pat_items r.Binding 0 pat)) ++ xs) (row_of_param_is field _ rest)

pub all_param : (field : ℕ) (list : Vec (v_param.Param v_pat.Pat) Global) → k.each_param_items field list ≡ flat_map (k.param_items field) list.items
all_param field list = row_of_param_is field _ (block.hidden-the_row-ClassMember-Constructor-0-1-0 list) ∙ ap (flat_map (k.param_items field)) (block.items_hidden-the_row-ClassMember-Constructor-0-1-0 list)

row_of_stmt_is : (field : ℕ) (n : _) (row : block.Row_of-Stmt n) → k.row_of_stmt field row ≡ flat_map (k.stmt_items field) (block.items-the_row-Stmt n row)
unfolding stmt_items
row_of_stmt_is field _ block.end_of-Stmt = refl
row_of_stmt_is field _ (block.more_of-Stmt it rest) = ap (λ xs. (k.stmt_items field it) ++ xs) (row_of_stmt_is field _ rest)

pub all_stmt : (field : ℕ) (list : Vec v_stmt.Stmt Global) → k.each_stmt_items field list ≡ flat_map (k.stmt_items field) list.items
all_stmt field list = row_of_stmt_is field _ (block.hidden-the_row-Stmt-1 list) ∙ ap (flat_map (k.stmt_items field)) (block.items_hidden-the_row-Stmt-1 list)

row_of_class_member_is : (field : ℕ) (n : _) (row : block.Row_of-ClassMember n) → k.row_of_class_member field row ≡ flat_map (k.class_member_items field) (block.items-the_row-ClassMember n row)
unfolding stmt_items
row_of_class_member_is field _ block.end_of-ClassMember = refl
row_of_class_member_is field _ (block.more_of-ClassMember it rest) = ap (λ xs. (k.class_member_items field it) ++ xs) (row_of_class_member_is field _ rest)

pub all_class_member : (field : ℕ) (list : Vec v_class_member.ClassMember Global) → k.each_class_member_items field list ≡ flat_map (k.class_member_items field) list.items
all_class_member field list = row_of_class_member_is field _ (block.hidden-the_row-ClassMember-2 list) ∙ ap (flat_map (k.class_member_items field)) (block.items_hidden-the_row-ClassMember-2 list)

row_of_var_declarator_is : (field : ℕ) (n : _) (row : block.Row_of-VarDeclarator n) → k.row_of_var_declarator field row ≡ flat_map (k.var_declarator_items field) (block.items-the_row-VarDeclarator n row)
unfolding stmt_items
row_of_var_declarator_is field _ block.end_of-VarDeclarator = refl
row_of_var_declarator_is field _ (block.more_of-VarDeclarator name init rest) =
    ap (λ held. k.node field h.VarDeclarator (k.pat_items r.Binding 0 name ++ k.held_option_expr 1 held) ++ k.row_of_var_declarator field rest) (sym (block.backs-ClassMember-ClassProp-1 init))
    ∙ ap (λ xs. k.node field h.VarDeclarator (k.pat_items r.Binding 0 name ++ k.held_option_expr 1 (block.back-ClassMember-ClassProp-1 (block.view-ClassMember-ClassProp-1 init))) ++ xs) (row_of_var_declarator_is field _ rest)

pub all_var_declarator : (field : ℕ) (list : Vec v_var_declarator.VarDeclarator Global) → k.each_var_declarator_items field list ≡ flat_map (k.var_declarator_items field) list.items
all_var_declarator field list = row_of_var_declarator_is field _ (block.hidden-the_row-VarDeclarator-3 list) ∙ ap (flat_map (k.var_declarator_items field)) (block.items_hidden-the_row-VarDeclarator-3 list)

row_of_option_expr_or_spread_is : (field : ℕ) (n : _) (row : block.Row_of-Expr-ArrayLit-0-3 n) → k.row_of_option_expr_or_spread field row ≡ flat_map (k.expr_or_spread_place_items field) (block.items-the_row-Expr-ArrayLit-0-3 n row)
unfolding stmt_items
row_of_option_expr_or_spread_is field _ block.end_of-Expr-ArrayLit-0-3 = refl
row_of_option_expr_or_spread_is field _ (block.more_of-Expr-ArrayLit-0-3 block.Expr-ArrayLit-0-3-None' rest) = ap (λ xs. (h.Hole field ∷ []) ++ xs) (row_of_option_expr_or_spread_is field _ rest)
row_of_option_expr_or_spread_is field _ (block.more_of-Expr-ArrayLit-0-3 (block.Expr-ArrayLit-0-3-Some' spread expr) rest) = ap (λ xs. (k.node field (h.ExprOrSpread spread) (k.expr_items 1 expr)) ++ xs) (row_of_option_expr_or_spread_is field _ rest)

pub all_option_expr_or_spread : (field : ℕ) (list : Vec (Option (v_expr_or_spread.ExprOrSpread v_expr.Expr)) Global) → k.each_option_expr_or_spread_items field list ≡ flat_map (k.expr_or_spread_place_items field) list.items
all_option_expr_or_spread field list = row_of_option_expr_or_spread_is field _ (block.hidden-the_row-Expr-ArrayLit-0-3-4 list) ∙ ap (flat_map (k.expr_or_spread_place_items field)) (block.items_hidden-the_row-Expr-ArrayLit-0-3-4 list)

row_of_prop_or_spread_is : (field : ℕ) (n : _) (row : block.Row_of-PropOrSpread n) → k.row_of_prop_or_spread field row ≡ flat_map (k.prop_or_spread_items field) (block.items-the_row-PropOrSpread n row)
unfolding stmt_items
row_of_prop_or_spread_is field _ block.end_of-PropOrSpread = refl
row_of_prop_or_spread_is field _ (block.more_of-PropOrSpread it rest) = ap (λ xs. (k.prop_or_spread_items field it) ++ xs) (row_of_prop_or_spread_is field _ rest)

pub all_prop_or_spread : (field : ℕ) (list : Vec v_prop_or_spread.PropOrSpread Global) → k.each_prop_or_spread_items field list ≡ flat_map (k.prop_or_spread_items field) list.items
all_prop_or_spread field list = row_of_prop_or_spread_is field _ (block.hidden-the_row-PropOrSpread-5 list) ∙ ap (flat_map (k.prop_or_spread_items field)) (block.items_hidden-the_row-PropOrSpread-5 list)

row_of_expr_or_spread_is : (field : ℕ) (n : _) (row : block.Row_of-Expr-CallExpr-1-2 n) → k.row_of_expr_or_spread field row ≡ flat_map (k.expr_or_spread_items field) (block.items-the_row-Expr-CallExpr-1-2 n row)
unfolding stmt_items
row_of_expr_or_spread_is field _ block.end_of-Expr-CallExpr-1-2 = refl
row_of_expr_or_spread_is field _ (block.more_of-Expr-CallExpr-1-2 spread expr rest) = ap (λ xs. (k.node field (h.ExprOrSpread spread) (k.expr_items 1 expr)) ++ xs) (row_of_expr_or_spread_is field _ rest)

pub all_expr_or_spread : (field : ℕ) (list : Vec (v_expr_or_spread.ExprOrSpread v_expr.Expr) Global) → k.each_expr_or_spread_items field list ≡ flat_map (k.expr_or_spread_items field) list.items
all_expr_or_spread field list = row_of_expr_or_spread_is field _ (block.hidden-the_row-Expr-CallExpr-1-2-6 list) ∙ ap (flat_map (k.expr_or_spread_items field)) (block.items_hidden-the_row-Expr-CallExpr-1-2-6 list)

row_of_expr_is : (field : ℕ) (n : _) (row : block.Row_of-Expr n) → k.row_of_expr field row ≡ flat_map (k.expr_items field) (block.items-the_row-Expr n row)
unfolding stmt_items
row_of_expr_is field _ block.end_of-Expr = refl
row_of_expr_is field _ (block.more_of-Expr it rest) = ap (λ xs. (k.expr_items field it) ++ xs) (row_of_expr_is field _ rest)

pub all_expr : (field : ℕ) (list : Vec v_expr.Expr Global) → k.each_expr_items field list ≡ flat_map (k.expr_items field) list.items
all_expr field list = row_of_expr_is field _ (block.hidden-the_row-Expr-7 list) ∙ ap (flat_map (k.expr_items field)) (block.items_hidden-the_row-Expr-7 list)

row_of_pat_is : (role : Role) (field : ℕ) (n : _) (row : block.Row_of-Pat n) → k.row_of_pat role field row ≡ flat_map (k.pat_items role field) (block.items-the_row-Pat n row)
unfolding stmt_items
row_of_pat_is role field _ block.end_of-Pat = refl
row_of_pat_is role field _ (block.more_of-Pat it rest) = ap (λ xs. (k.pat_items role field it) ++ xs) (row_of_pat_is role field _ rest)

pub all_pat : (role : Role) (field : ℕ) (list : Vec v_pat.Pat Global) → k.each_pat_items role field list ≡ flat_map (k.pat_items role field) list.items
all_pat role field list = row_of_pat_is role field _ (block.hidden-the_row-Pat-8 list) ∙ ap (flat_map (k.pat_items role field)) (block.items_hidden-the_row-Pat-8 list)

row_of_option_pat_is : (role : Role) (field : ℕ) (n : _) (row : block.Row_of-AssignTarget-ArrayPat-0-1 n) → k.row_of_option_pat role field row ≡ flat_map (k.pat_place_items role field) (block.items-the_row-AssignTarget-ArrayPat-0-1 n row)
unfolding stmt_items
row_of_option_pat_is role field _ block.end_of-AssignTarget-ArrayPat-0-1 = refl
row_of_option_pat_is role field _ (block.more_of-AssignTarget-ArrayPat-0-1 block.AssignTarget-ArrayPat-0-1-None' rest) = ap (λ xs. (h.Hole field ∷ []) ++ xs) (row_of_option_pat_is role field _ rest)
row_of_option_pat_is role field _ (block.more_of-AssignTarget-ArrayPat-0-1 (block.AssignTarget-ArrayPat-0-1-Some' it) rest) = ap (λ xs. (k.pat_items role field it) ++ xs) (row_of_option_pat_is role field _ rest)

pub all_option_pat : (role : Role) (field : ℕ) (list : Vec (Option v_pat.Pat) Global) → k.each_option_pat_items role field list ≡ flat_map (k.pat_place_items role field) list.items
all_option_pat role field list = row_of_option_pat_is role field _ (block.hidden-the_row-AssignTarget-ArrayPat-0-1-9 list) ∙ ap (flat_map (k.pat_place_items role field)) (block.items_hidden-the_row-AssignTarget-ArrayPat-0-1-9 list)

row_of_object_pat_prop_is : (role : Role) (field : ℕ) (n : _) (row : block.Row_of-ObjectPatProp n) → k.row_of_object_pat_prop role field row ≡ flat_map (k.object_pat_prop_items role field) (block.items-the_row-ObjectPatProp n row)
unfolding stmt_items
row_of_object_pat_prop_is role field _ block.end_of-ObjectPatProp = refl
row_of_object_pat_prop_is role field _ (block.more_of-ObjectPatProp it rest) = ap (λ xs. (k.object_pat_prop_items role field it) ++ xs) (row_of_object_pat_prop_is role field _ rest)

pub all_object_pat_prop : (role : Role) (field : ℕ) (list : Vec v_object_pat_prop.ObjectPatProp Global) → k.each_object_pat_prop_items role field list ≡ flat_map (k.object_pat_prop_items role field) list.items
all_object_pat_prop role field list = row_of_object_pat_prop_is role field _ (block.hidden-the_row-ObjectPatProp-10 list) ∙ ap (flat_map (k.object_pat_prop_items role field)) (block.items_hidden-the_row-ObjectPatProp-10 list)

row_of_switch_case_is : (field : ℕ) (n : _) (row : block.Row_of-SwitchCase n) → k.row_of_switch_case field row ≡ flat_map (k.switch_case_items field) (block.items-the_row-SwitchCase n row)
unfolding stmt_items
row_of_switch_case_is field _ block.end_of-SwitchCase = refl
row_of_switch_case_is field _ (block.more_of-SwitchCase test u cons rest) =
    let shown : k.row_of_stmt 1 cons ≡ k.row_of_stmt 1 (block.hidden-the_row-Stmt-1 (block.shown-the_row-Stmt-1 u cons)) =
    row_of_stmt_is 1 _ cons ∙ ap (flat_map (k.stmt_items 1)) (sym (block.items_shown-the_row-Stmt-1 u cons)) ∙ sym (all_stmt 1 (block.shown-the_row-Stmt-1 u cons)) in
    ap (λ held. k.node field h.SwitchCase (k.held_option_expr 0 held ++ k.row_of_stmt 1 cons) ++ k.row_of_switch_case field rest) (sym (block.backs-ClassMember-ClassProp-1 test))
    ∙ ap (λ row. k.node field h.SwitchCase (k.held_option_expr 0 (block.back-ClassMember-ClassProp-1 (block.view-ClassMember-ClassProp-1 test)) ++ row) ++ k.row_of_switch_case field rest) shown
    ∙ ap (λ xs. k.node field h.SwitchCase (k.held_option_expr 0 (block.back-ClassMember-ClassProp-1 (block.view-ClassMember-ClassProp-1 test)) ++ k.row_of_stmt 1 (block.hidden-the_row-Stmt-1 (block.shown-the_row-Stmt-1 u cons))) ++ xs) (row_of_switch_case_is field _ rest)

pub all_switch_case : (field : ℕ) (list : Vec v_switch_case.SwitchCase Global) → k.each_switch_case_items field list ≡ flat_map (k.switch_case_items field) list.items
all_switch_case field list = row_of_switch_case_is field _ (block.hidden-the_row-SwitchCase-11 list) ∙ ap (flat_map (k.switch_case_items field)) (block.items_hidden-the_row-SwitchCase-11 list)

-- all of them, as the proofs of the walk use them
pub ruleset rows = (
  common_steps,
  flat_map-append,
  all_param,
  all_stmt,
  all_class_member,
  all_var_declarator,
  all_option_expr_or_spread,
  all_prop_or_spread,
  all_expr_or_spread,
  all_expr,
  all_pat,
  all_option_pat,
  all_object_pat_prop,
  all_switch_case,
)
