-- The list of a row of nodes, by those of its elements.
use Rattle.std.proofs.Common.{◌≡◌, ◌∙◌, ap, List, [], ◌∷◌, ◌++◌, append-nil, sym, Vec, Global}
use Rattle.std.specs.List.{flat_map}
use Rattle.std.proofs.lemmas.Grind.{flat_map-append}
use Rattle.bundle_tree_ast.specs.declared.stmt.Stmt as v_stmt
use Rattle.bundle_tree_ast.specs.declared.decl.VarDeclarator as v_var_declarator
use Rattle.bundle_tree_ast.specs.declared.expr.Expr as v_expr
use Rattle.bundle_tree_ast.specs.declared.expr.ExprOrSpread as v_expr_or_spread
use Rattle.bundle_tree_ast.specs.declared.pat.Pat as v_pat
use Rattle.bundle_tree_ast.specs.declared.class.Param as v_param
use Rattle.bundle_syntax.specs.Item.{Item}
use Rattle.bundle_tree_listed.specs.Tree as k
use Rattle.bundle_tree_listed.proofs.Rows.{all_param, all_stmt, all_var_declarator, all_expr_or_spread}

flat_one : {A : Type 0} (f : A → List Item) (xs : List A) (x : A) (a : List Item) → xs ≡ x ∷ [] → f x ≡ a → flat_map f xs ≡ a
flat_one f xs x a is fx = ap (flat_map f) is ∙ append-nil (f x) ∙ fx

pub one_declarator : (list : Vec v_var_declarator.VarDeclarator Global) (x : v_var_declarator.VarDeclarator) (a : List Item) → list.items ≡ x ∷ [] → k.var_declarator_items 1 x ≡ a → k.each_var_declarator_items 1 list ≡ a
one_declarator list x a is fx = all_var_declarator 1 list ∙ flat_one (k.var_declarator_items 1) list.items x a is fx

pub stmt_behind : (old new : Vec v_stmt.Stmt Global) (x : v_stmt.Stmt) (a : List Item) → new.items ≡ old.items ++ x ∷ [] → k.stmt_items 0 x ≡ a → k.each_stmt_items 0 new ≡ k.each_stmt_items 0 old ++ a
stmt_behind old new x a is fx =
    all_stmt 0 new ∙ ap (flat_map (k.stmt_items 0)) is ∙ flat_map-append (k.stmt_items 0) old.items (x ∷ [])
    ∙ ap (λ more. flat_map (k.stmt_items 0) old.items ++ more) (append-nil (k.stmt_items 0 x) ∙ fx)
    ∙ ap (λ before. before ++ a) (sym (all_stmt 0 old))

pub no_argument : (list : Vec (v_expr_or_spread.ExprOrSpread v_expr.Expr) Global) → list.items ≡ [] → k.each_expr_or_spread_items 1 list ≡ []
no_argument list is = all_expr_or_spread 1 list ∙ ap (flat_map (k.expr_or_spread_items 1)) is

pub one_argument : (list : Vec (v_expr_or_spread.ExprOrSpread v_expr.Expr) Global) (x : v_expr_or_spread.ExprOrSpread v_expr.Expr) (a : List Item) → list.items ≡ x ∷ [] → k.expr_or_spread_items 1 x ≡ a → k.each_expr_or_spread_items 1 list ≡ a
one_argument list x a is fx = all_expr_or_spread 1 list ∙ flat_one (k.expr_or_spread_items 1) list.items x a is fx

pub no_param : (list : Vec (v_param.Param v_pat.Pat) Global) → list.items ≡ [] → k.each_param_items 0 list ≡ []
no_param list is = all_param 0 list ∙ ap (flat_map (k.param_items 0)) is
