-- Two trees are equal exactly where their lists are: what is derived, kind of node by kind of node.
use Rattle.std.proofs.Common.{◌≡◌, ℕ, Bool, true, false, ◌&&◌, cond, eqb, refl, sym, ap, ap₂, ◌∙◌, subst₂, List, [], ◌∷◌, ◌++◌, Option, Some, None, Box, Vec, Global, true≢false}
use Rattle.std.specs.Bool.{Decides}
use Rattle.std.specs.Option.{option_eq}
use Rattle.std.specs.List.{flat_map}
use Rattle.std.specs.formers.vec.Vec as vec
use mathlib.Core.Former as former
use mathlib.Core.Bool.{beq}
use lib.Pointwise.{pointwise}
use Rattle.bundle_syntax.specs.declared.ident.Ident as v_ident
use Rattle.bundle_syntax.specs.declared.ident.IdentName as v_ident_name
use Rattle.bundle_syntax.specs.declared.lit.TplElement as v_tpl_element
use Rattle.bundle_tree_ast.specs.declared.stmt.BlockStmt as v_block_stmt
use Rattle.bundle_tree_ast.specs.declared.stmt.Stmt as v_stmt
use Rattle.bundle_tree_ast.specs.declared.stmt.SwitchCase as v_switch_case
use Rattle.bundle_tree_ast.specs.declared.stmt.CatchClause as v_catch_clause
use Rattle.bundle_tree_ast.specs.declared.stmt.ForInit as v_for_init
use Rattle.bundle_tree_ast.specs.declared.stmt.ForHead as v_for_head
use Rattle.bundle_tree_ast.specs.declared.decl.Decl as v_decl
use Rattle.bundle_tree_ast.specs.declared.decl.VarDecl as v_var_decl
use Rattle.bundle_tree_ast.specs.declared.decl.VarDeclarator as v_var_declarator
use Rattle.bundle_tree_ast.specs.declared.expr.Expr as v_expr
use Rattle.bundle_tree_ast.specs.declared.expr.Callee as v_callee
use Rattle.bundle_tree_ast.specs.declared.expr.ExprOrSpread as v_expr_or_spread
use Rattle.bundle_tree_ast.specs.declared.expr.ArrowBody as v_arrow_body
use Rattle.bundle_tree_ast.specs.declared.expr.OptChainBase as v_opt_chain_base
use Rattle.bundle_tree_ast.specs.declared.expr.Tpl as v_tpl
use Rattle.bundle_tree_ast.specs.declared.prop.PropOrSpread as v_prop_or_spread
use Rattle.bundle_tree_ast.specs.declared.prop.Prop as v_prop
use Rattle.bundle_tree_ast.specs.declared.prop.PropName as v_prop_name
use Rattle.bundle_tree_ast.specs.declared.prop.MemberProp as v_member_prop
use Rattle.bundle_tree_ast.specs.declared.prop.SuperProp as v_super_prop
use Rattle.bundle_tree_ast.specs.declared.pat.Pat as v_pat
use Rattle.bundle_tree_ast.specs.declared.pat.ObjectPatProp as v_object_pat_prop
use Rattle.bundle_tree_ast.specs.declared.pat.AssignTarget as v_assign_target
use Rattle.bundle_tree_ast.specs.declared.class.Function as v_function
use Rattle.bundle_tree_ast.specs.declared.class.Param as v_param
use Rattle.bundle_tree_ast.specs.declared.class.Class as v_class
use Rattle.bundle_tree_ast.specs.declared.class.ClassMember as v_class_member
use Rattle.bundle_tree_ast.specs.declared.class.ClassMember.TheBlock as block
use Rattle.bundle_syntax.specs.declared.piece.Role.TheVariants as r
use Rattle.bundle_syntax.specs.declared.piece.Role.{Role}
use Rattle.bundle_syntax.specs.declared.kind.ExportMetadata as v_meta
use Rattle.bundle_syntax.specs.declared.kind.VarDeclKind as v_var
use Rattle.bundle_syntax.specs.contracts.kind.ExportMetadataPartialEq.TheImpl as e_meta
use Rattle.bundle_syntax.specs.contracts.kind.VarDeclKindPartialEq.TheImpl as e_var
use Rattle.bundle_syntax.specs.contracts.lit.TplElementPartialEq.TheImpl as e_tpl_element
use Rattle.bundle_syntax.specs.contracts.operator.UpdateOpPartialEq.TheImpl as e_update
use Rattle.bundle_syntax.specs.contracts.ident.IdentPartialEq.TheImpl as e_ident
use Rattle.bundle_syntax.specs.contracts.ident.IdentNamePartialEq.TheImpl as e_ident_name
use Rattle.bundle_tree_ast.specs.declared.prop.PropName.TheVariants as i_prop_name
use Rattle.bundle_tree_ast.specs.declared.prop.MemberProp.TheVariants as i_member_prop
use Rattle.bundle_tree_ast.specs.declared.prop.SuperProp.TheVariants as i_super_prop
use Rattle.bundle_tree_ast.specs.declared.expr.Callee.TheVariants as i_callee
use Rattle.bundle_tree_ast.specs.declared.expr.OptChainBase.TheVariants as i_opt_chain_base
use Rattle.bundle_tree_ast.specs.contracts.stmt.Stmt as c_stmt
use Rattle.bundle_tree_ast.specs.contracts.stmt.ForInit as c_for_init
use Rattle.bundle_tree_ast.specs.contracts.stmt.ForHead as c_for_head
use Rattle.bundle_tree_ast.specs.contracts.decl.Decl as c_decl
use Rattle.bundle_tree_ast.specs.contracts.expr.Expr as c_expr
use Rattle.bundle_tree_ast.specs.contracts.expr.ArrowBody as c_arrow_body
use Rattle.bundle_tree_ast.specs.contracts.prop.PropOrSpread as c_prop_or_spread
use Rattle.bundle_tree_ast.specs.contracts.prop.Prop as c_prop
use Rattle.bundle_tree_ast.specs.contracts.pat.Pat as c_pat
use Rattle.bundle_tree_ast.specs.contracts.pat.ObjectPatProp as c_object_pat_prop
use Rattle.bundle_tree_ast.specs.contracts.pat.AssignTarget as c_assign_target
use Rattle.bundle_tree_ast.specs.contracts.class.ClassMember as c_class_member
use Rattle.bundle_tree_ast.specs.declared.class.ClassMember.TheViews as views
use denote.Hole.Carrier as carrier
use Rattle.bundle_syntax.specs.Item as h
use Rattle.bundle_syntax.specs.Item.{Item, Head}
use Rattle.bundle_tree_listed.specs.Tree as k
use Rattle.bundle_tree_listed.specs.Tree.{node, is_given, option_items, ident_items, ident_name_items, private_name_items, binding_ident_items, str_items, number_items, big_int_items, regex_items, lit_items, tpl_element_items, stmt_items, for_init_items, for_head_items, held_option_boxed_stmt, held_option_block_stmt, held_option_catch_clause, held_option_for_init, row_of_stmt, row_of_switch_case, decl_items, row_of_var_declarator, expr_items, arrow_body_items, held_callee, held_opt_chain_base, held_option_expr, held_option_boxed_expr, place_of_expr_or_spread, held_option_each_expr_or_spread, row_of_expr, row_of_expr_or_spread, row_of_option_expr_or_spread, prop_or_spread_items, prop_items, held_prop_name, held_member_prop, held_super_prop, row_of_prop_or_spread, pat_items, object_pat_prop_items, assign_target_items, held_option_pat, place_of_pat, row_of_pat, row_of_option_pat, row_of_object_pat_prop, class_member_items, row_of_param, row_of_class_member}
use Rattle.bundle_tree_listed.proofs.Rows as all
use Rattle.bundle_tree_list.proofs.Agree.{Both, variants}
use Rattle.bundle_tree_list.proofs.Cut as cut
use Rattle.bundle_tree_list.proofs.Cut.{Row, eqb_self, Single, single_node, single_hole, split, split_first}
use Rattle.bundle_tree_list.proofs.Leaves.{ident, ident_name, private_name, binding_ident, str, number, big_int, lit, tpl_element, unary_head, update_head, binary_head, assign_head, meta_prop_head, class_method_head, private_method_head, function_head, var_head, for_of_head, arrow_head, yield_head, opt_chain_head, expr_or_spread_head, class_prop_head, private_prop_head, flag_of_new}
use Rattle.bundle_tree_list.proofs.Numbers as numbers
use Rattle.bundle_tree_list.proofs.Numbers.{is_expr, expr_is, is_hole}
use Rattle.bundle_tree_list.proofs.Part.{Part, apart, bare, begins, both, closed, differs_from_nothing, gathered, in_node, in_nodes, instead, just, no_more, none_there, opened, option_part, parted, retested, three, two, four, behind, value_last, values_last}
use Rattle.bundle_tree_list.proofs.Ring as ring
use Rattle.bundle_tree_list.proofs.Ring.{same, step_is, prop_name_eq, member_prop_eq, super_prop_eq, callee_eq, opt_chain_base_eq}
use Rattle.bundle_tree_list.proofs.Rows as rows
use Rattle.bundle_tree_list.proofs.Singles.{stmt_single, expr_single, prop_or_spread_single, pat_single, object_pat_prop_single, class_member_single}

-- Lists of parts.

-- a list that is shown in two ways
seen : {field : ℕ} {A : Type 0} (E : A → A → Bool) {xs xs' : List A} (zs : List A) {read made made' : List Item} → xs' ≡ xs → made' ≡ made → Part field (pointwise E xs zs) read made → Part field (pointwise E xs' zs) read made'
seen {field = field} E zs {read = read} is made_is part = subst₂ (λ xs made. Part field (pointwise E xs zs) read made) (sym is) (sym made_is) part

goes_on : (one rest : List Item) → begins one ≡ true → begins (one ++ rest) ≡ true
unfolding begins
goes_on [] rest wrong = absurd (true≢false (sym wrong))
goes_on (x ∷ xs) rest some = refl

-- where one list ends first, the other one goes on
no_elements : {field : ℕ} {A : Type 0} (E : A → A → Bool) (items : A → List Item) → ((it : A) → Row field (items it)) → ((it : A) → begins (items it) ≡ true) → (list : List A) → Part field (pointwise E [] list) [] (flat_map items list)
no_elements E items row some [] = none_there
no_elements {field = field} E items row some (y ∷ ys) = apart (cut.nothing field) (cut.each_row items row (y ∷ ys)) (differs_from_nothing (goes_on (items y) (flat_map items ys) (some y)))

elements_left : {field : ℕ} (one rest : List Item) → Row field (one ++ rest) → begins one ≡ true → Part field false (one ++ rest) []
elements_left {field = field} one rest row some = apart row (cut.nothing field) (λ is. differs_from_nothing (goes_on one rest some) (sym is))

more_elements : {field : ℕ} {a b : Bool} {x y xs ys : List Item} → Single x → Single y → Part field a x y → Part field b xs ys → Part field (a && b) (x ++ xs) (y ++ ys)
more_elements one other first rest = record {
  left = cut.and_then first.left rest.left;
  right = cut.and_then first.right rest.right;
  same = instead (λ p. ap₂ (λ xs ys. xs ++ ys) p.0 p.1) (λ is. split_first one other rest.left rest.right is) (both first.same rest.same);
}

pub each_part : {field : ℕ} {A : Type 0} (E : A → A → Bool) (items : A → List Item) → ((it : A) → Row field (items it)) → ((it : A) → begins (items it) ≡ true) → ((it : A) → Single (items it)) → ((x y : A) → Part field (E x y) (items x) (items y)) → (xs ys : List A) → Part field (pointwise E xs ys) (flat_map items xs) (flat_map items ys)
each_part E items row some single each [] ys = no_elements E items row some ys
each_part E items row some single each (x ∷ xs) [] = elements_left _ _ (cut.each_row items row (x ∷ xs)) (some x)
each_part E items row some single each (x ∷ xs) (y ∷ ys) = more_elements (single x) (single y) (each x y) (each_part E items row some single each xs ys)

-- two lists that are told apart by what they begin with
differ_by : (f : List Item → Bool) {xs ys : List Item} → f xs ≡ true → f ys ≡ false → xs ≡ ys → ⊥
differ_by f one other is = true≢false (sym one ∙ (ap f is ∙ other))

differ_in : (f : List Item → ℕ) {xs ys : List Item} {a b : ℕ} → f xs ≡ a → f ys ≡ b → eqb a b ≡ false → xs ≡ ys → ⊥
differ_in f {a = a} one other apart is = true≢false (sym (eqb_self a) ∙ (ap (eqb a) (sym one ∙ (ap f is ∙ other)) ∙ apart))

hole_there : {field : ℕ} → Part field true (h.Hole field ∷ []) (h.Hole field ∷ [])
hole_there {field = field} = record { left = cut.hole field; right = cut.hole field; same = (λ so. refl, λ is. refl) }

-- Small nodes.

name_number : List Item → ℕ
name_number (h.Open f (h.IdentName name) ∷ rest) = 0
name_number (h.Open f (h.Str value raw) ∷ rest) = 1
name_number (h.Open f (h.Number value) ∷ rest) = 2
name_number (h.Open f (h.BigInt value) ∷ rest) = 3
name_number (h.Open f h.ComputedPropName ∷ rest) = 4
name_number (h.Open f (h.PrivateName name) ∷ rest) = 5
name_number (h.Open f h.MemberExpr ∷ rest) = 6
name_number (h.Open f h.OptCall ∷ rest) = 7
name_number list = 8

callee_head : List Item → ℕ
callee_head (h.Open f h.Super ∷ rest) = 0
callee_head list = 1

callee_number : List Item → ℕ
callee_number list = cond (is_expr list) 2 (callee_head list)

callee_is_expr : (field : ℕ) (it : v_expr.Expr) → callee_number (expr_items field it) ≡ 2
unfolding callee_number
callee_is_expr field it = ap (λ is. cond is 2 (callee_head (expr_items field it))) (expr_is field it)

same_label : (field : ℕ) (d e : Option v_ident_name.IdentName) → Part field (option_eq e_ident_name.ghosts.eq d e) (option_items (ident_name_items field) d) (option_items (ident_name_items field) e)
unfolding begins
same_label field d e = option_part _ (ident_name_items field) (rows.ident_name_row field) (λ it. refl) (ident_name field) d e

ident_begins : (role : Role) (field : ℕ) (it : v_ident.Ident) → begins (ident_items role field it) ≡ true
unfolding begins
ident_begins role field it = refl

pub same_own_name : (field : ℕ) (d e : Option v_ident.Ident) → Part field (option_eq e_ident.ghosts.eq d e) (option_items (ident_items r.Binding field) d) (option_items (ident_items r.Binding field) e)
same_own_name field d e = option_part _ (ident_items r.Binding field) (rows.ident_row r.Binding field) (ident_begins r.Binding field) (ident r.Binding field) d e

new_nodes : (field : ℕ) {a b p q : Bool} {xs xs' ys ys' : List Item} → Part 0 a xs xs' → Row 1 ys → Row 1 ys' → Decides b ((p ≡ q) × (ys ≡ ys')) → Part field (a && b) (node field (h.NewExpr p) (xs ++ ys)) (node field (h.NewExpr q) (xs' ++ ys'))
new_nodes field x y y' args = record {
  left = cut.node_row field _ (cut.whole_and x.left.whole y.whole);
  right = cut.node_row field _ (cut.whole_and x.right.whole y'.whole);
  same = instead
      (λ is. closed (ap h.NewExpr is.1.0, ap₂ (λ xs ys. xs ++ ys) is.0 is.1.1))
      (λ is. let one = opened is in let two = split x.left x.right (behind 0 y refl) (behind 0 y' refl) one.1 in (two.0, (flag_of_new one.0, two.1)))
      (both x.same args);
}

-- Places of lists, which may hold nothing.

pat_place_row : (role : Role) (field : ℕ) (it : Option v_pat.Pat) → Row field (k.pat_place_items role field it)
pat_place_row role field None = cut.hole field
pat_place_row role field (Some it) = rows.pat_row role field it

pat_place_begins : (role : Role) (field : ℕ) (it : Option v_pat.Pat) → begins (k.pat_place_items role field it) ≡ true
unfolding begins
pat_place_begins role field None = refl
pat_place_begins role field (Some it) = numbers.pat_begins role field it

pat_place_single : (role : Role) (field : ℕ) (it : Option v_pat.Pat) → Single (k.pat_place_items role field it)
pat_place_single role field None = single_hole field
pat_place_single role field (Some it) = pat_single role field it

place_pat_begins : (role : Role) (field : ℕ) (it : block.Held-AssignTarget-ArrayPat-0-1) → begins (place_of_pat role field it) ≡ true
unfolding stmt_items begins
place_pat_begins role field block.AssignTarget-ArrayPat-0-1-None' = refl
place_pat_begins role field (block.AssignTarget-ArrayPat-0-1-Some' it) = numbers.pat_begins role field it

place_pat_single : (role : Role) (field : ℕ) (it : block.Held-AssignTarget-ArrayPat-0-1) → Single (place_of_pat role field it)
unfolding stmt_items
place_pat_single role field block.AssignTarget-ArrayPat-0-1-None' = single_hole field
place_pat_single role field (block.AssignTarget-ArrayPat-0-1-Some' it) = pat_single role field it

expr_place_row : (field : ℕ) (it : Option (v_expr_or_spread.ExprOrSpread v_expr.Expr)) → Row field (k.expr_or_spread_place_items field it)
expr_place_row field None = cut.hole field
expr_place_row field (Some it) = cut.node_row field _ (rows.expr_row 1 it.expr).whole

expr_place_begins : (field : ℕ) (it : Option (v_expr_or_spread.ExprOrSpread v_expr.Expr)) → begins (k.expr_or_spread_place_items field it) ≡ true
unfolding begins
expr_place_begins field None = refl
expr_place_begins field (Some it) = refl

expr_place_single : (field : ℕ) (it : Option (v_expr_or_spread.ExprOrSpread v_expr.Expr)) → Single (k.expr_or_spread_place_items field it)
expr_place_single field None = single_hole field
expr_place_single field (Some it) = single_node field _ (rows.expr_row 1 it.expr).whole

place_expr_begins : (field : ℕ) (it : block.Held-Expr-ArrayLit-0-3) → begins (place_of_expr_or_spread field it) ≡ true
unfolding stmt_items begins
place_expr_begins field block.Expr-ArrayLit-0-3-None' = refl
place_expr_begins field (block.Expr-ArrayLit-0-3-Some' spread expr) = refl

place_expr_single : (field : ℕ) (it : block.Held-Expr-ArrayLit-0-3) → Single (place_of_expr_or_spread field it)
unfolding stmt_items
place_expr_single field block.Expr-ArrayLit-0-3-None' = single_hole field
place_expr_single field (block.Expr-ArrayLit-0-3-Some' spread expr) = single_node field _ (rows.expr_row 1 expr).whole

-- Trees.

quasis_part : (xs ys : List v_tpl_element.TplElement) → Part 1 (pointwise e_tpl_element.ghosts.eq xs ys) (flat_map (tpl_element_items 1) xs) (flat_map (tpl_element_items 1) ys)
unfolding begins
quasis_part xs ys = each_part _ (tpl_element_items 1) (rows.tpl_element_row 1) (λ it. refl) (λ it. single_node 1 _ cut.no_nodes) (tpl_element 1) xs ys

vec_stmt : (field : ℕ) (s : (vec.the_former (former.this {0}) Global).Shape) (d : block.Row_of-Stmt (former.arity (vec.the_former (former.this {0}) Global) s)) (e : Vec v_stmt.Stmt Global) → Part field (pointwise (same block.member-Stmt) (block.items-the_row-Stmt _ d) e.items) (row_of_stmt field d) (flat_map (stmt_items field) e.items) → Part field (pointwise (same block.member-Stmt) (block.shown-the_row-Stmt-1 s d).items e.items) (row_of_stmt field d) (row_of_stmt field (block.hidden-the_row-Stmt-1 e))
unfolding stmt_items carrier.out carrier.roll
vec_stmt field s d e = seen _ e.items (block.items_shown-the_row-Stmt-1 s d) (all.all_stmt field e)

vec_switch_case : (field : ℕ) (s : (vec.the_former (former.this {0}) Global).Shape) (d : block.Row_of-SwitchCase (former.arity (vec.the_former (former.this {0}) Global) s)) (e : Vec v_switch_case.SwitchCase Global) → Part field (pointwise (same block.member-SwitchCase) (block.items-the_row-SwitchCase _ d) e.items) (row_of_switch_case field d) (flat_map (k.switch_case_items field) e.items) → Part field (pointwise (same block.member-SwitchCase) (block.shown-the_row-SwitchCase-11 s d).items e.items) (row_of_switch_case field d) (row_of_switch_case field (block.hidden-the_row-SwitchCase-11 e))
unfolding stmt_items carrier.out carrier.roll
vec_switch_case field s d e = seen _ e.items (block.items_shown-the_row-SwitchCase-11 s d) (all.all_switch_case field e)

vec_var_declarator : (field : ℕ) (s : (vec.the_former (former.this {0}) Global).Shape) (d : block.Row_of-VarDeclarator (former.arity (vec.the_former (former.this {0}) Global) s)) (e : Vec v_var_declarator.VarDeclarator Global) → Part field (pointwise (same block.member-VarDeclarator) (block.items-the_row-VarDeclarator _ d) e.items) (row_of_var_declarator field d) (flat_map (k.var_declarator_items field) e.items) → Part field (pointwise (same block.member-VarDeclarator) (block.shown-the_row-VarDeclarator-3 s d).items e.items) (row_of_var_declarator field d) (row_of_var_declarator field (block.hidden-the_row-VarDeclarator-3 e))
unfolding stmt_items carrier.out carrier.roll
vec_var_declarator field s d e = seen _ e.items (block.items_shown-the_row-VarDeclarator-3 s d) (all.all_var_declarator field e)

vec_expr : (field : ℕ) (s : (vec.the_former (former.this {0}) Global).Shape) (d : block.Row_of-Expr (former.arity (vec.the_former (former.this {0}) Global) s)) (e : Vec v_expr.Expr Global) → Part field (pointwise (same block.member-Expr) (block.items-the_row-Expr _ d) e.items) (row_of_expr field d) (flat_map (expr_items field) e.items) → Part field (pointwise (same block.member-Expr) (block.shown-the_row-Expr-7 s d).items e.items) (row_of_expr field d) (row_of_expr field (block.hidden-the_row-Expr-7 e))
unfolding stmt_items carrier.out carrier.roll
vec_expr field s d e = seen _ e.items (block.items_shown-the_row-Expr-7 s d) (all.all_expr field e)

vec_expr_or_spread : (field : ℕ) (s : (vec.the_former (former.this {0}) Global).Shape) (d : block.Row_of-Expr-CallExpr-1-2 (former.arity (vec.the_former (former.this {0}) Global) s)) (e : Vec (v_expr_or_spread.ExprOrSpread v_expr.Expr) Global) → Part field (pointwise (λ x y. beq x.spread y.spread && same block.member-Expr x.expr y.expr) (block.items-the_row-Expr-CallExpr-1-2 _ d) e.items) (row_of_expr_or_spread field d) (flat_map (k.expr_or_spread_items field) e.items) → Part field (pointwise (λ x y. beq x.spread y.spread && same block.member-Expr x.expr y.expr) (block.shown-the_row-Expr-CallExpr-1-2-6 s d).items e.items) (row_of_expr_or_spread field d) (row_of_expr_or_spread field (block.hidden-the_row-Expr-CallExpr-1-2-6 e))
unfolding stmt_items carrier.out carrier.roll
vec_expr_or_spread field s d e = seen _ e.items (block.items_shown-the_row-Expr-CallExpr-1-2-6 s d) (all.all_expr_or_spread field e)

vec_option_expr_or_spread : (field : ℕ) (s : (vec.the_former (former.this {0}) Global).Shape) (d : block.Row_of-Expr-ArrayLit-0-3 (former.arity (vec.the_former (former.this {0}) Global) s)) (e : Vec (Option (v_expr_or_spread.ExprOrSpread v_expr.Expr)) Global) → Part field (pointwise (option_eq (λ x y. beq x.spread y.spread && same block.member-Expr x.expr y.expr)) (block.items-the_row-Expr-ArrayLit-0-3 _ d) e.items) (row_of_option_expr_or_spread field d) (flat_map (k.expr_or_spread_place_items field) e.items) → Part field (pointwise (option_eq (λ x y. beq x.spread y.spread && same block.member-Expr x.expr y.expr)) (block.shown-the_row-Expr-ArrayLit-0-3-4 s d).items e.items) (row_of_option_expr_or_spread field d) (row_of_option_expr_or_spread field (block.hidden-the_row-Expr-ArrayLit-0-3-4 e))
unfolding stmt_items carrier.out carrier.roll
vec_option_expr_or_spread field s d e = seen _ e.items (block.items_shown-the_row-Expr-ArrayLit-0-3-4 s d) (all.all_option_expr_or_spread field e)

vec_prop_or_spread : (field : ℕ) (s : (vec.the_former (former.this {0}) Global).Shape) (d : block.Row_of-PropOrSpread (former.arity (vec.the_former (former.this {0}) Global) s)) (e : Vec v_prop_or_spread.PropOrSpread Global) → Part field (pointwise (same block.member-PropOrSpread) (block.items-the_row-PropOrSpread _ d) e.items) (row_of_prop_or_spread field d) (flat_map (prop_or_spread_items field) e.items) → Part field (pointwise (same block.member-PropOrSpread) (block.shown-the_row-PropOrSpread-5 s d).items e.items) (row_of_prop_or_spread field d) (row_of_prop_or_spread field (block.hidden-the_row-PropOrSpread-5 e))
unfolding stmt_items carrier.out carrier.roll
vec_prop_or_spread field s d e = seen _ e.items (block.items_shown-the_row-PropOrSpread-5 s d) (all.all_prop_or_spread field e)

vec_pat : (role : Role) (field : ℕ) (s : (vec.the_former (former.this {0}) Global).Shape) (d : block.Row_of-Pat (former.arity (vec.the_former (former.this {0}) Global) s)) (e : Vec v_pat.Pat Global) → Part field (pointwise (same block.member-Pat) (block.items-the_row-Pat _ d) e.items) (row_of_pat role field d) (flat_map (pat_items role field) e.items) → Part field (pointwise (same block.member-Pat) (block.shown-the_row-Pat-8 s d).items e.items) (row_of_pat role field d) (row_of_pat role field (block.hidden-the_row-Pat-8 e))
unfolding stmt_items carrier.out carrier.roll
vec_pat role field s d e = seen _ e.items (block.items_shown-the_row-Pat-8 s d) (all.all_pat role field e)

vec_option_pat : (role : Role) (field : ℕ) (s : (vec.the_former (former.this {0}) Global).Shape) (d : block.Row_of-AssignTarget-ArrayPat-0-1 (former.arity (vec.the_former (former.this {0}) Global) s)) (e : Vec (Option v_pat.Pat) Global) → Part field (pointwise (option_eq (same block.member-Pat)) (block.items-the_row-AssignTarget-ArrayPat-0-1 _ d) e.items) (row_of_option_pat role field d) (flat_map (k.pat_place_items role field) e.items) → Part field (pointwise (option_eq (same block.member-Pat)) (block.shown-the_row-AssignTarget-ArrayPat-0-1-9 s d).items e.items) (row_of_option_pat role field d) (row_of_option_pat role field (block.hidden-the_row-AssignTarget-ArrayPat-0-1-9 e))
unfolding stmt_items carrier.out carrier.roll
vec_option_pat role field s d e = seen _ e.items (block.items_shown-the_row-AssignTarget-ArrayPat-0-1-9 s d) (all.all_option_pat role field e)

vec_object_pat_prop : (role : Role) (field : ℕ) (s : (vec.the_former (former.this {0}) Global).Shape) (d : block.Row_of-ObjectPatProp (former.arity (vec.the_former (former.this {0}) Global) s)) (e : Vec v_object_pat_prop.ObjectPatProp Global) → Part field (pointwise (same block.member-ObjectPatProp) (block.items-the_row-ObjectPatProp _ d) e.items) (row_of_object_pat_prop role field d) (flat_map (object_pat_prop_items role field) e.items) → Part field (pointwise (same block.member-ObjectPatProp) (block.shown-the_row-ObjectPatProp-10 s d).items e.items) (row_of_object_pat_prop role field d) (row_of_object_pat_prop role field (block.hidden-the_row-ObjectPatProp-10 e))
unfolding stmt_items carrier.out carrier.roll
vec_object_pat_prop role field s d e = seen _ e.items (block.items_shown-the_row-ObjectPatProp-10 s d) (all.all_object_pat_prop role field e)

vec_param : (field : ℕ) (s : (vec.the_former (former.this {0}) Global).Shape) (d : block.Row_of-ClassMember-Constructor-0-1 (former.arity (vec.the_former (former.this {0}) Global) s)) (e : Vec (v_param.Param v_pat.Pat) Global) → Part field (pointwise (λ x y. same block.member-Pat x.pat y.pat) (block.items-the_row-ClassMember-Constructor-0-1 _ d) e.items) (row_of_param field d) (flat_map (k.param_items field) e.items) → Part field (pointwise (λ x y. same block.member-Pat x.pat y.pat) (block.shown-the_row-ClassMember-Constructor-0-1-0 s d).items e.items) (row_of_param field d) (row_of_param field (block.hidden-the_row-ClassMember-Constructor-0-1-0 e))
unfolding stmt_items carrier.out carrier.roll
vec_param field s d e = seen _ e.items (block.items_shown-the_row-ClassMember-Constructor-0-1-0 s d) (all.all_param field e)

vec_class_member : (field : ℕ) (s : (vec.the_former (former.this {0}) Global).Shape) (d : block.Row_of-ClassMember (former.arity (vec.the_former (former.this {0}) Global) s)) (e : Vec v_class_member.ClassMember Global) → Part field (pointwise (same block.member-ClassMember) (block.items-the_row-ClassMember _ d) e.items) (row_of_class_member field d) (flat_map (class_member_items field) e.items) → Part field (pointwise (same block.member-ClassMember) (block.shown-the_row-ClassMember-2 s d).items e.items) (row_of_class_member field d) (row_of_class_member field (block.hidden-the_row-ClassMember-2 e))
unfolding stmt_items carrier.out carrier.roll
vec_class_member field s d e = seen _ e.items (block.items_shown-the_row-ClassMember-2 s d) (all.all_class_member field e)

block_part : (field : ℕ) (s : (vec.the_former (former.this {0}) Global).Shape) (stmts : block.Row_of-Stmt (former.arity (vec.the_former (former.this {0}) Global) s)) (e : v_block_stmt.BlockStmt v_stmt.Stmt) → Part 0 (pointwise (same block.member-Stmt) (block.items-the_row-Stmt _ stmts) e.stmts.items) (row_of_stmt 0 stmts) (flat_map (stmt_items 0) e.stmts.items) → Part field (pointwise (same block.member-Stmt) (block.shown-the_row-Stmt-1 s stmts).items e.stmts.items) (node field h.BlockStmt (row_of_stmt 0 stmts)) (k.block_stmt_items field e)
unfolding stmt_items carrier.out carrier.roll
block_part field s stmts e row = in_node field _ (just (vec_stmt 0 s stmts e.stmts row))

function_part : (field : ℕ) (s : (vec.the_former (former.this {0}) Global).Shape) (params : block.Row_of-ClassMember-Constructor-0-1 (former.arity (vec.the_former (former.this {0}) Global) s)) (t : (vec.the_former (former.this {0}) Global).Shape) (stmts : block.Row_of-Stmt (former.arity (vec.the_former (former.this {0}) Global) t)) (is_generator is_async : Bool) (e : v_function.Function) → Part 0 (pointwise (λ x y. same block.member-Pat x.pat y.pat) (block.items-the_row-ClassMember-Constructor-0-1 _ params) e.params.items) (row_of_param 0 params) (flat_map (k.param_items 0) e.params.items) → Part 0 (pointwise (same block.member-Stmt) (block.items-the_row-Stmt _ stmts) e.body.stmts.items) (row_of_stmt 0 stmts) (flat_map (stmt_items 0) e.body.stmts.items) → Part field (same block.member-Function (record { params = block.shown-the_row-ClassMember-Constructor-0-1-0 s params; body = record { stmts = block.shown-the_row-Stmt-1 t stmts }; is_generator = is_generator; is_async = is_async }) e) (node field (h.Function is_generator is_async) (row_of_param 0 params ++ node 1 h.BlockStmt (row_of_stmt 0 stmts))) (k.function_items field e)
unfolding stmt_items carrier.out carrier.roll
function_part field s params t stmts is_generator is_async e first second = retested (step_is block.member-Function _ e) (values_last field (function_head is_generator e.is_generator is_async e.is_async) refl (vec_param 0 s params e.params first) (block_part 1 t stmts e.body second))

class_part : (field : ℕ) (super_class : block.Held-Expr-YieldExpr-0) (s : (vec.the_former (former.this {0}) Global).Shape) (body : block.Row_of-ClassMember (former.arity (vec.the_former (former.this {0}) Global) s)) (e : v_class.Class) → Part 0 (option_eq (λ x y. same block.member-Expr x.value y.value) (block.view-Expr-YieldExpr-0 super_class) e.super_class) (held_option_boxed_expr 0 super_class) (k.option_boxed_expr_items 0 e.super_class) → Part 1 (pointwise (same block.member-ClassMember) (block.items-the_row-ClassMember _ body) e.body.items) (row_of_class_member 1 body) (flat_map (class_member_items 1) e.body.items) → Part field (same block.member-Class (record { super_class = block.view-Expr-YieldExpr-0 super_class; body = block.shown-the_row-ClassMember-2 s body }) e) (node field h.Class (held_option_boxed_expr 0 super_class ++ row_of_class_member 1 body)) (k.class_items field e)
unfolding stmt_items carrier.out carrier.roll
class_part field super_class s body e first second = retested (step_is block.member-Class _ e) (in_node field _ (two refl first (vec_class_member 1 s body e.body second)))

var_decl_part : (field : ℕ) (kind : v_var.VarDeclKind) (s : (vec.the_former (former.this {0}) Global).Shape) (decls : block.Row_of-VarDeclarator (former.arity (vec.the_former (former.this {0}) Global) s)) (meta : v_meta.ExportMetadata) (e : v_var_decl.VarDecl v_var_declarator.VarDeclarator) → Part 1 (pointwise (same block.member-VarDeclarator) (block.items-the_row-VarDeclarator _ decls) e.decls.items) (row_of_var_declarator 1 decls) (flat_map (k.var_declarator_items 1) e.decls.items) → Part field (e_var.ghosts.eq kind e.kind && (pointwise (same block.member-VarDeclarator) (block.shown-the_row-VarDeclarator-3 s decls).items e.decls.items && e_meta.ghosts.eq meta e.meta)) (node field (h.VarDecl kind meta) (row_of_var_declarator 1 decls)) (k.var_decl_items field e)
unfolding stmt_items carrier.out carrier.roll
var_decl_part field kind s decls meta e row = retested (parted (e_var.ghosts.eq kind e.kind) (e_meta.ghosts.eq meta e.meta) (pointwise (same block.member-VarDeclarator) (block.shown-the_row-VarDeclarator-3 s decls).items e.decls.items)) (in_nodes field (var_head kind e.kind meta e.meta) (just (vec_var_declarator 1 s decls e.decls row)))

tpl_part : (field : ℕ) (s : (vec.the_former (former.this {0}) Global).Shape) (exprs : block.Row_of-Expr (former.arity (vec.the_former (former.this {0}) Global) s)) (quasis : Vec v_tpl_element.TplElement Global) (e : v_tpl.Tpl v_expr.Expr) → Part 0 (pointwise (same block.member-Expr) (block.items-the_row-Expr _ exprs) e.exprs.items) (row_of_expr 0 exprs) (flat_map (expr_items 0) e.exprs.items) → Part field (pointwise (same block.member-Expr) (block.shown-the_row-Expr-7 s exprs).items e.exprs.items && pointwise e_tpl_element.ghosts.eq quasis.items e.quasis.items) (node field h.Tpl (row_of_expr 0 exprs ++ flat_map (tpl_element_items 1) quasis.items)) (k.tpl_items field e)
unfolding stmt_items carrier.out carrier.roll
tpl_part field s exprs quasis e row = in_node field _ (two refl (vec_expr 0 s exprs e.exprs row) (quasis_part quasis.items e.quasis.items))

-- By the variant of the first of two values.

stmt_of : (field : ℕ) (d e : v_stmt.Stmt) → Both c_stmt.enum.parts ring.stmt.each (c_stmt.enum.as_values d) (λ c test. Part field test (stmt_items field d) (stmt_items field (c_stmt.enum.make c))) → Part field (same block.member-Stmt d e) (stmt_items field d) (stmt_items field e)
stmt_of field d e = variants c_stmt.enum ring.stmt.each (stmt_items field) (rows.stmt_row field) numbers.stmt_number (numbers.stmt_numbered field) d e (ring.stmt.is d e)

for_init_of : (field : ℕ) (d e : v_for_init.ForInit) → Both c_for_init.enum.parts ring.for_init.each (c_for_init.enum.as_values d) (λ c test. Part field test (for_init_items field d) (for_init_items field (c_for_init.enum.make c))) → Part field (same block.member-ForInit d e) (for_init_items field d) (for_init_items field e)
for_init_of field d e = variants c_for_init.enum ring.for_init.each (for_init_items field) (rows.for_init_row field) numbers.for_init_number (numbers.for_init_numbered field) d e (ring.for_init.is d e)

for_head_of : (field : ℕ) (d e : v_for_head.ForHead) → Both c_for_head.enum.parts ring.for_head.each (c_for_head.enum.as_values d) (λ c test. Part field test (for_head_items field d) (for_head_items field (c_for_head.enum.make c))) → Part field (same block.member-ForHead d e) (for_head_items field d) (for_head_items field e)
for_head_of field d e = variants c_for_head.enum ring.for_head.each (for_head_items field) (rows.for_head_row field) numbers.for_head_number (numbers.for_head_numbered field) d e (ring.for_head.is d e)

decl_of : (field : ℕ) (d e : v_decl.Decl) → Both c_decl.enum.parts ring.decl.each (c_decl.enum.as_values d) (λ c test. Part field test (decl_items field d) (decl_items field (c_decl.enum.make c))) → Part field (same block.member-Decl d e) (decl_items field d) (decl_items field e)
decl_of field d e = variants c_decl.enum ring.decl.each (decl_items field) (rows.decl_row field) numbers.decl_number (numbers.decl_numbered field) d e (ring.decl.is d e)

expr_of : (field : ℕ) (d e : v_expr.Expr) → Both c_expr.enum.parts ring.expr.each (c_expr.enum.as_values d) (λ c test. Part field test (expr_items field d) (expr_items field (c_expr.enum.make c))) → Part field (same block.member-Expr d e) (expr_items field d) (expr_items field e)
expr_of field d e = variants c_expr.enum ring.expr.each (expr_items field) (rows.expr_row field) numbers.expr_number (numbers.expr_numbered field) d e (ring.expr.is d e)

arrow_body_of : (field : ℕ) (d e : v_arrow_body.ArrowBody) → Both c_arrow_body.enum.parts ring.arrow_body.each (c_arrow_body.enum.as_values d) (λ c test. Part field test (arrow_body_items field d) (arrow_body_items field (c_arrow_body.enum.make c))) → Part field (same block.member-ArrowBody d e) (arrow_body_items field d) (arrow_body_items field e)
arrow_body_of field d e = variants c_arrow_body.enum ring.arrow_body.each (arrow_body_items field) (rows.arrow_body_row field) numbers.arrow_body_number (numbers.arrow_body_numbered field) d e (ring.arrow_body.is d e)

prop_or_spread_of : (field : ℕ) (d e : v_prop_or_spread.PropOrSpread) → Both c_prop_or_spread.enum.parts ring.prop_or_spread.each (c_prop_or_spread.enum.as_values d) (λ c test. Part field test (prop_or_spread_items field d) (prop_or_spread_items field (c_prop_or_spread.enum.make c))) → Part field (same block.member-PropOrSpread d e) (prop_or_spread_items field d) (prop_or_spread_items field e)
prop_or_spread_of field d e = variants c_prop_or_spread.enum ring.prop_or_spread.each (prop_or_spread_items field) (rows.prop_or_spread_row field) numbers.prop_or_spread_number (numbers.prop_or_spread_numbered field) d e (ring.prop_or_spread.is d e)

prop_of : (field : ℕ) (d e : v_prop.Prop) → Both c_prop.enum.parts ring.prop.each (c_prop.enum.as_values d) (λ c test. Part field test (prop_items field d) (prop_items field (c_prop.enum.make c))) → Part field (same block.member-Prop d e) (prop_items field d) (prop_items field e)
prop_of field d e = variants c_prop.enum ring.prop.each (prop_items field) (rows.prop_row field) numbers.prop_number (numbers.prop_numbered field) d e (ring.prop.is d e)

pat_of : (role : Role) (field : ℕ) (d e : v_pat.Pat) → Both c_pat.enum.parts ring.pat.each (c_pat.enum.as_values d) (λ c test. Part field test (pat_items role field d) (pat_items role field (c_pat.enum.make c))) → Part field (same block.member-Pat d e) (pat_items role field d) (pat_items role field e)
pat_of role field d e = variants c_pat.enum ring.pat.each (pat_items role field) (rows.pat_row role field) numbers.pat_number (numbers.pat_numbered role field) d e (ring.pat.is d e)

object_pat_prop_of : (role : Role) (field : ℕ) (d e : v_object_pat_prop.ObjectPatProp) → Both c_object_pat_prop.enum.parts ring.object_pat_prop.each (c_object_pat_prop.enum.as_values d) (λ c test. Part field test (object_pat_prop_items role field d) (object_pat_prop_items role field (c_object_pat_prop.enum.make c))) → Part field (same block.member-ObjectPatProp d e) (object_pat_prop_items role field d) (object_pat_prop_items role field e)
object_pat_prop_of role field d e = variants c_object_pat_prop.enum ring.object_pat_prop.each (object_pat_prop_items role field) (rows.object_pat_prop_row role field) numbers.object_pat_prop_number (numbers.object_pat_prop_numbered role field) d e (ring.object_pat_prop.is d e)

assign_target_of : (field : ℕ) (d e : v_assign_target.AssignTarget) → Both c_assign_target.enum.parts ring.assign_target.each (c_assign_target.enum.as_values d) (λ c test. Part field test (assign_target_items field d) (assign_target_items field (c_assign_target.enum.make c))) → Part field (same block.member-AssignTarget d e) (assign_target_items field d) (assign_target_items field e)
assign_target_of field d e = variants c_assign_target.enum ring.assign_target.each (assign_target_items field) (rows.assign_target_row field) numbers.assign_target_number (numbers.assign_target_numbered field) d e (ring.assign_target.is d e)

class_member_of : (field : ℕ) (d e : v_class_member.ClassMember) → Both c_class_member.enum.parts ring.class_member.each (c_class_member.enum.as_values d) (λ c test. Part field test (class_member_items field d) (class_member_items field (c_class_member.enum.make c))) → Part field (same block.member-ClassMember d e) (class_member_items field d) (class_member_items field e)
class_member_of field d e = variants c_class_member.enum ring.class_member.each (class_member_items field) (rows.class_member_row field) numbers.class_member_number (numbers.class_member_numbered field) d e (ring.class_member.is d e)

-- Kind by kind.

mutual
  unfolding stmt_items begins is_hole name_number callee_head callee_number is_expr views.out-Stmt views.roll-Stmt views.out-ForInit views.roll-ForInit views.out-ForHead views.roll-ForHead views.out-Decl views.roll-Decl views.out-Expr views.roll-Expr views.out-ArrowBody views.roll-ArrowBody views.out-PropOrSpread views.roll-PropOrSpread views.out-Prop views.roll-Prop views.out-Pat views.roll-Pat views.out-ObjectPatProp views.roll-ObjectPatProp views.out-AssignTarget views.roll-AssignTarget views.out-ClassMember views.roll-ClassMember carrier.out carrier.roll

  pub same_stmt : (field : ℕ) (d e : v_stmt.Stmt) → Part field (same block.member-Stmt d e) (stmt_items field d) (stmt_items field e)
  same_stmt field (v_stmt.BlockStmt' s stmts) e = stmt_of field (v_stmt.BlockStmt' s stmts) e (λ y. block_part field s stmts y.0 (row_stmt 0 stmts y.0.stmts.items))
  same_stmt field v_stmt.EmptyStmt e = stmt_of field v_stmt.EmptyStmt e (λ y. in_node field _ no_more)
  same_stmt field v_stmt.DebuggerStmt e = stmt_of field v_stmt.DebuggerStmt e (λ y. in_node field _ no_more)
  same_stmt field (v_stmt.WithStmt' obj b body) e = stmt_of field (v_stmt.WithStmt' obj b body) e (λ y. in_node field _ (two refl (same_expr 0 obj y.0) (same_stmt 1 body y.1.0.value)))
  same_stmt field (v_stmt.ReturnStmt' arg) e = stmt_of field (v_stmt.ReturnStmt' arg) e (λ y. in_node field _ (just (same_option_expr 0 arg y.0)))
  same_stmt field (v_stmt.LabeledStmt' label b body) e = stmt_of field (v_stmt.LabeledStmt' label b body) e (λ y. in_node field _ (two refl (ident_name 0 label y.0) (same_stmt 1 body y.1.0.value)))
  same_stmt field (v_stmt.BreakStmt label) e = stmt_of field (v_stmt.BreakStmt label) e (λ y. in_node field _ (just (same_label 0 label y.0)))
  same_stmt field (v_stmt.ContinueStmt label) e = stmt_of field (v_stmt.ContinueStmt label) e (λ y. in_node field _ (just (same_label 0 label y.0)))
  same_stmt field (v_stmt.IfStmt' test b cons alt) e = stmt_of field (v_stmt.IfStmt' test b cons alt) e (λ y. in_node field _ (three refl refl refl (same_expr 0 test y.0) (same_stmt 1 cons y.1.0.value) (same_option_stmt 2 alt y.1.1.0)))
  same_stmt field (v_stmt.SwitchStmt' discriminant s cases) e = stmt_of field (v_stmt.SwitchStmt' discriminant s cases) e (λ y. in_node field _ (two refl (same_expr 0 discriminant y.0) (vec_switch_case 1 s cases y.1.0 (row_switch_case 1 cases y.1.0.items))))
  same_stmt field (v_stmt.ThrowStmt arg) e = stmt_of field (v_stmt.ThrowStmt arg) e (λ y. in_node field _ (just (same_expr 0 arg y.0)))
  same_stmt field (v_stmt.TryStmt' s stmts handler finalizer) e = stmt_of field (v_stmt.TryStmt' s stmts handler finalizer) e (λ y. in_node field _ (three refl refl refl (block_part 0 s stmts y.0 (row_stmt 0 stmts y.0.stmts.items)) (same_option_catch 1 handler y.1.0) (same_option_block 2 finalizer y.1.1.0)))
  same_stmt field (v_stmt.WhileStmt' test b body) e = stmt_of field (v_stmt.WhileStmt' test b body) e (λ y. in_node field _ (two refl (same_expr 0 test y.0) (same_stmt 1 body y.1.0.value)))
  same_stmt field (v_stmt.DoWhileStmt' b body test) e = stmt_of field (v_stmt.DoWhileStmt' b body test) e (λ y. in_node field _ (two refl (same_stmt 0 body y.0.value) (same_expr 1 test y.1.0)))
  same_stmt field (v_stmt.ForStmt' init test update b body) e = stmt_of field (v_stmt.ForStmt' init test update b body) e (λ y. in_node field _ (four refl refl refl refl refl refl (same_option_for_init 0 init y.0) (same_option_expr 1 test y.1.0) (same_option_expr 2 update y.1.1.0) (same_stmt 3 body y.1.1.1.0.value)))
  same_stmt field (v_stmt.ForInStmt' left right b body) e = stmt_of field (v_stmt.ForInStmt' left right b body) e (λ y. in_node field _ (three refl refl refl (same_for_head 0 left y.0) (same_expr 1 right y.1.0) (same_stmt 2 body y.1.1.0.value)))
  same_stmt field (v_stmt.ForOfStmt' is_await left right b body) e = stmt_of field (v_stmt.ForOfStmt' is_await left right b body) e (λ y. in_nodes field (for_of_head is_await y.0) (three refl refl refl (same_for_head 1 left y.1.0) (same_expr 2 right y.1.1.0) (same_stmt 3 body y.1.1.1.0.value)))
  same_stmt field (v_stmt.Decl it) e = stmt_of field (v_stmt.Decl it) e (λ y. same_decl field it y.0)
  same_stmt field (v_stmt.ExprStmt expr) e = stmt_of field (v_stmt.ExprStmt expr) e (λ y. in_node field _ (just (same_expr 0 expr y.0)))

  pub same_for_init : (field : ℕ) (d e : v_for_init.ForInit) → Part field (same block.member-ForInit d e) (for_init_items field d) (for_init_items field e)
  same_for_init field (v_for_init.VarDecl' kind s decls meta) e = for_init_of field (v_for_init.VarDecl' kind s decls meta) e (λ y. var_decl_part field kind s decls meta y.0 (row_var_declarator 1 decls y.0.decls.items))
  same_for_init field (v_for_init.Expr it) e = for_init_of field (v_for_init.Expr it) e (λ y. same_expr field it y.0)

  pub same_for_head : (field : ℕ) (d e : v_for_head.ForHead) → Part field (same block.member-ForHead d e) (for_head_items field d) (for_head_items field e)
  same_for_head field (v_for_head.VarDecl' kind s decls meta) e = for_head_of field (v_for_head.VarDecl' kind s decls meta) e (λ y. var_decl_part field kind s decls meta y.0 (row_var_declarator 1 decls y.0.decls.items))
  same_for_head field (v_for_head.Pat it) e = for_head_of field (v_for_head.Pat it) e (λ y. same_pat r.Reference field it y.0)

  pub same_decl : (field : ℕ) (d e : v_decl.Decl) → Part field (same block.member-Decl d e) (decl_items field d) (decl_items field e)
  same_decl field (v_decl.ClassDecl' name super_class s body) e = decl_of field (v_decl.ClassDecl' name super_class s body) e (λ y. in_node field _ (two refl (ident r.Binding 0 name y.0) (class_part 1 super_class s body y.1.0 (same_option_boxed_expr 0 super_class y.1.0.super_class) (row_class_member 1 body y.1.0.body.items))))
  same_decl field (v_decl.FnDecl' name s params t stmts is_generator is_async) e = decl_of field (v_decl.FnDecl' name s params t stmts is_generator is_async) e (λ y. in_node field _ (two refl (ident r.Binding 0 name y.0) (function_part 1 s params t stmts is_generator is_async y.1.0 (row_param 0 params y.1.0.params.items) (row_stmt 0 stmts y.1.0.body.stmts.items))))
  same_decl field (v_decl.VarDecl' kind s decls meta) e = decl_of field (v_decl.VarDecl' kind s decls meta) e (λ y. var_decl_part field kind s decls meta y.0 (row_var_declarator 1 decls y.0.decls.items))

  pub same_expr : (field : ℕ) (d e : v_expr.Expr) → Part field (same block.member-Expr d e) (expr_items field d) (expr_items field e)
  same_expr field v_expr.ThisExpr e = expr_of field v_expr.ThisExpr e (λ y. in_node field _ no_more)
  same_expr field (v_expr.ArrayLit' s elems) e = expr_of field (v_expr.ArrayLit' s elems) e (λ y. in_node field _ (just (vec_option_expr_or_spread 0 s elems y.0 (row_option_expr_or_spread 0 elems y.0.items))))
  same_expr field (v_expr.ObjectLit' s props) e = expr_of field (v_expr.ObjectLit' s props) e (λ y. in_node field _ (just (vec_prop_or_spread 0 s props y.0 (row_prop_or_spread 0 props y.0.items))))
  same_expr field (v_expr.FnExpr' name s params t stmts is_generator is_async) e = expr_of field (v_expr.FnExpr' name s params t stmts is_generator is_async) e (λ y. in_node field _ (two refl (same_own_name 0 name y.0) (function_part 1 s params t stmts is_generator is_async y.1.0 (row_param 0 params y.1.0.params.items) (row_stmt 0 stmts y.1.0.body.stmts.items))))
  same_expr field (v_expr.UnaryExpr' op b arg) e = expr_of field (v_expr.UnaryExpr' op b arg) e (λ y. in_nodes field (unary_head op y.0) (just (same_expr 1 arg y.1.0.value)))
  same_expr field (v_expr.UpdateExpr' op prefix b arg) e = expr_of field (v_expr.UpdateExpr' op prefix b arg) e (λ y. retested (gathered (e_update.ghosts.eq op y.0) (beq prefix y.1.0) (same block.member-Expr arg y.1.1.0.value)) (in_nodes field (update_head op y.0 prefix y.1.0) (just (same_expr 2 arg y.1.1.0.value))))
  same_expr field (v_expr.BinExpr' op b left c right) e = expr_of field (v_expr.BinExpr' op b left c right) e (λ y. in_nodes field (binary_head op y.0) (two refl (same_expr 1 left y.1.0.value) (same_expr 2 right y.1.1.0.value)))
  same_expr field (v_expr.AssignExpr' op left b right) e = expr_of field (v_expr.AssignExpr' op left b right) e (λ y. in_nodes field (assign_head op y.0) (two refl (same_assign_target 1 left y.1.0) (same_expr 2 right y.1.1.0.value)))
  same_expr field (v_expr.MemberExpr' b obj prop) e = expr_of field (v_expr.MemberExpr' b obj prop) e (λ y. in_node field _ (two refl (same_expr 0 obj y.0.obj.value) (same_member_prop 1 prop y.0.prop)))
  same_expr field (v_expr.SuperPropExpr' prop) e = expr_of field (v_expr.SuperPropExpr' prop) e (λ y. in_node field _ (just (same_super_prop 0 prop y.0.prop)))
  same_expr field (v_expr.CondExpr' b test c cons f alt) e = expr_of field (v_expr.CondExpr' b test c cons f alt) e (λ y. in_node field _ (three refl refl refl (same_expr 0 test y.0.value) (same_expr 1 cons y.1.0.value) (same_expr 2 alt y.1.1.0.value)))
  same_expr field (v_expr.CallExpr' callee s args) e = expr_of field (v_expr.CallExpr' callee s args) e (λ y. in_node field _ (two refl (same_callee 0 callee y.0) (vec_expr_or_spread 1 s args y.1.0 (row_expr_or_spread 1 args y.1.0.items))))
  same_expr field (v_expr.NewExpr' b callee args) e = expr_of field (v_expr.NewExpr' b callee args) e (λ y. new_nodes field (same_expr 0 callee y.0.value) (rows.held_option_each_expr_or_spread_is_row 1 args) (rows.held_option_each_expr_or_spread_is_row 1 (block.back-Expr-NewExpr-1 y.1.0)) (same_args args y.1.0))
  same_expr field (v_expr.SeqExpr' s exprs) e = expr_of field (v_expr.SeqExpr' s exprs) e (λ y. in_node field _ (just (vec_expr 0 s exprs y.0 (row_expr 0 exprs y.0.items))))
  same_expr field (v_expr.Ident it) e = expr_of field (v_expr.Ident it) e (λ y. ident r.Reference field it y.0)
  same_expr field (v_expr.Lit it) e = expr_of field (v_expr.Lit it) e (λ y. lit field it y.0)
  same_expr field (v_expr.Tpl' s exprs quasis) e = expr_of field (v_expr.Tpl' s exprs quasis) e (λ y. tpl_part field s exprs quasis y.0 (row_expr 0 exprs y.0.exprs.items))
  same_expr field (v_expr.TaggedTpl' b tag s exprs quasis) e = expr_of field (v_expr.TaggedTpl' b tag s exprs quasis) e (λ y. in_node field _ (two refl (same_expr 0 tag y.0.value) (tpl_part 1 s exprs quasis y.1.0 (row_expr 0 exprs y.1.0.exprs.items))))
  same_expr field (v_expr.ArrowExpr' s params body is_async) e = expr_of field (v_expr.ArrowExpr' s params body is_async) e (λ y. values_last field (arrow_head is_async y.1.1.0) refl (vec_pat r.Binding 0 s params y.0 (row_pat r.Binding 0 params y.0.items)) (same_arrow_body 1 body y.1.0))
  same_expr field (v_expr.ClassExpr' name super_class s body) e = expr_of field (v_expr.ClassExpr' name super_class s body) e (λ y. in_node field _ (two refl (same_own_name 0 name y.0) (class_part 1 super_class s body y.1.0 (same_option_boxed_expr 0 super_class y.1.0.super_class) (row_class_member 1 body y.1.0.body.items))))
  same_expr field (v_expr.YieldExpr' arg delegate) e = expr_of field (v_expr.YieldExpr' arg delegate) e (λ y. value_last field (yield_head delegate y.1.0) (same_option_boxed_expr 0 arg y.0))
  same_expr field (v_expr.MetaPropExpr kind) e = expr_of field (v_expr.MetaPropExpr kind) e (λ y. bare field (meta_prop_head kind y.0))
  same_expr field (v_expr.AwaitExpr' b arg) e = expr_of field (v_expr.AwaitExpr' b arg) e (λ y. in_node field _ (just (same_expr 0 arg y.0.value)))
  same_expr field (v_expr.ParenExpr' b expr) e = expr_of field (v_expr.ParenExpr' b expr) e (λ y. in_node field _ (just (same_expr 0 expr y.0.expr.value)))
  same_expr field (v_expr.PrivateName it) e = expr_of field (v_expr.PrivateName it) e (λ y. private_name field it y.0)
  same_expr field (v_expr.OptChainExpr' optional base) e = expr_of field (v_expr.OptChainExpr' optional base) e (λ y. in_nodes field (opt_chain_head optional y.0) (just (same_opt_chain_base 1 base y.1.0)))

  pub same_arrow_body : (field : ℕ) (d e : v_arrow_body.ArrowBody) → Part field (same block.member-ArrowBody d e) (arrow_body_items field d) (arrow_body_items field e)
  same_arrow_body field (v_arrow_body.BlockStmt' s stmts) e = arrow_body_of field (v_arrow_body.BlockStmt' s stmts) e (λ y. block_part field s stmts y.0 (row_stmt 0 stmts y.0.stmts.items))
  same_arrow_body field (v_arrow_body.Expr' b it) e = arrow_body_of field (v_arrow_body.Expr' b it) e (λ y. same_expr field it y.0.value)

  pub same_prop_or_spread : (field : ℕ) (d e : v_prop_or_spread.PropOrSpread) → Part field (same block.member-PropOrSpread d e) (prop_or_spread_items field d) (prop_or_spread_items field e)
  same_prop_or_spread field (v_prop_or_spread.SpreadElement expr) e = prop_or_spread_of field (v_prop_or_spread.SpreadElement expr) e (λ y. in_node field _ (just (same_expr 0 expr y.0)))
  same_prop_or_spread field (v_prop_or_spread.Prop it) e = prop_or_spread_of field (v_prop_or_spread.Prop it) e (λ y. same_prop field it y.0)

  pub same_prop : (field : ℕ) (d e : v_prop.Prop) → Part field (same block.member-Prop d e) (prop_items field d) (prop_items field e)
  same_prop field (v_prop.Shorthand it) e = prop_of field (v_prop.Shorthand it) e (λ y. ident r.Reference field it y.0)
  same_prop field (v_prop.KeyValueProp' key value) e = prop_of field (v_prop.KeyValueProp' key value) e (λ y. in_node field _ (two refl (same_prop_name 0 key y.0.key) (same_expr 1 value y.0.value)))
  same_prop field (v_prop.GetterProp' key s stmts) e = prop_of field (v_prop.GetterProp' key s stmts) e (λ y. in_node field _ (two refl (same_prop_name 0 key y.0) (block_part 1 s stmts y.1.0 (row_stmt 0 stmts y.1.0.stmts.items))))
  same_prop field (v_prop.SetterProp' key param s stmts) e = prop_of field (v_prop.SetterProp' key param s stmts) e (λ y. in_node field _ (three refl refl refl (same_prop_name 0 key y.0) (same_pat r.Binding 1 param y.1.0) (block_part 2 s stmts y.1.1.0 (row_stmt 0 stmts y.1.1.0.stmts.items))))
  same_prop field (v_prop.MethodProp' key s params t stmts is_generator is_async) e = prop_of field (v_prop.MethodProp' key s params t stmts is_generator is_async) e (λ y. in_node field _ (two refl (same_prop_name 0 key y.0) (function_part 1 s params t stmts is_generator is_async y.1.0 (row_param 0 params y.1.0.params.items) (row_stmt 0 stmts y.1.0.body.stmts.items))))

  pub same_pat : (role : Role) (field : ℕ) (d e : v_pat.Pat) → Part field (same block.member-Pat d e) (pat_items role field d) (pat_items role field e)
  same_pat role field (v_pat.BindingIdent it) e = pat_of role field (v_pat.BindingIdent it) e (λ y. binding_ident role field it y.0)
  same_pat role field (v_pat.ArrayPat' s elems) e = pat_of role field (v_pat.ArrayPat' s elems) e (λ y. in_node field _ (just (vec_option_pat role 0 s elems y.0.elems (row_option_pat role 0 elems y.0.elems.items))))
  same_pat role field (v_pat.RestPat' b arg) e = pat_of role field (v_pat.RestPat' b arg) e (λ y. in_node field _ (just (same_pat role 0 arg y.0.arg.value)))
  same_pat role field (v_pat.ObjectPat' s props) e = pat_of role field (v_pat.ObjectPat' s props) e (λ y. in_node field _ (just (vec_object_pat_prop role 0 s props y.0.props (row_object_pat_prop role 0 props y.0.props.items))))
  same_pat role field (v_pat.AssignPat' b left c right) e = pat_of role field (v_pat.AssignPat' b left c right) e (λ y. in_node field _ (two refl (same_pat role 0 left y.0.value) (same_expr 1 right y.1.0.value)))
  same_pat role field (v_pat.Expr' b it) e = pat_of role field (v_pat.Expr' b it) e (λ y. same_expr field it y.0.value)

  pub same_object_pat_prop : (role : Role) (field : ℕ) (d e : v_object_pat_prop.ObjectPatProp) → Part field (same block.member-ObjectPatProp d e) (object_pat_prop_items role field d) (object_pat_prop_items role field e)
  same_object_pat_prop role field (v_object_pat_prop.KeyValuePatProp' key value) e = object_pat_prop_of role field (v_object_pat_prop.KeyValuePatProp' key value) e (λ y. in_node field _ (two refl (same_prop_name 0 key y.0) (same_pat role 1 value y.1.0)))
  same_object_pat_prop role field (v_object_pat_prop.AssignPatProp' key value) e = object_pat_prop_of role field (v_object_pat_prop.AssignPatProp' key value) e (λ y. in_node field _ (two refl (binding_ident role 0 key y.0) (same_option_expr 1 value y.1.0)))
  same_object_pat_prop role field (v_object_pat_prop.RestPat' b arg) e = object_pat_prop_of role field (v_object_pat_prop.RestPat' b arg) e (λ y. in_node field _ (just (same_pat role 0 arg y.0.arg.value)))

  pub same_assign_target : (field : ℕ) (d e : v_assign_target.AssignTarget) → Part field (same block.member-AssignTarget d e) (assign_target_items field d) (assign_target_items field e)
  same_assign_target field (v_assign_target.BindingIdent it) e = assign_target_of field (v_assign_target.BindingIdent it) e (λ y. binding_ident r.Reference field it y.0)
  same_assign_target field (v_assign_target.MemberExpr' b obj prop) e = assign_target_of field (v_assign_target.MemberExpr' b obj prop) e (λ y. in_node field _ (two refl (same_expr 0 obj y.0.obj.value) (same_member_prop 1 prop y.0.prop)))
  same_assign_target field (v_assign_target.SuperPropExpr' prop) e = assign_target_of field (v_assign_target.SuperPropExpr' prop) e (λ y. in_node field _ (just (same_super_prop 0 prop y.0.prop)))
  same_assign_target field (v_assign_target.ParenExpr' b expr) e = assign_target_of field (v_assign_target.ParenExpr' b expr) e (λ y. in_node field _ (just (same_expr 0 expr y.0.expr.value)))
  same_assign_target field (v_assign_target.ArrayPat' s elems) e = assign_target_of field (v_assign_target.ArrayPat' s elems) e (λ y. in_node field _ (just (vec_option_pat r.Reference 0 s elems y.0.elems (row_option_pat r.Reference 0 elems y.0.elems.items))))
  same_assign_target field (v_assign_target.ObjectPat' s props) e = assign_target_of field (v_assign_target.ObjectPat' s props) e (λ y. in_node field _ (just (vec_object_pat_prop r.Reference 0 s props y.0.props (row_object_pat_prop r.Reference 0 props y.0.props.items))))

  pub same_class_member : (field : ℕ) (d e : v_class_member.ClassMember) → Part field (same block.member-ClassMember d e) (class_member_items field d) (class_member_items field e)
  same_class_member field (v_class_member.Constructor' s params t stmts) e = class_member_of field (v_class_member.Constructor' s params t stmts) e (λ y. in_node field _ (two refl (vec_param 0 s params y.0 (row_param 0 params y.0.items)) (block_part 1 t stmts y.1.0 (row_stmt 0 stmts y.1.0.stmts.items))))
  same_class_member field (v_class_member.ClassMethod' key s params t stmts is_generator is_async kind is_static) e = class_member_of field (v_class_member.ClassMethod' key s params t stmts is_generator is_async kind is_static) e (λ y. values_last field (class_method_head kind y.1.1.0 is_static y.1.1.1.0) refl (same_prop_name 0 key y.0) (function_part 1 s params t stmts is_generator is_async y.1.0 (row_param 0 params y.1.0.params.items) (row_stmt 0 stmts y.1.0.body.stmts.items)))
  same_class_member field (v_class_member.PrivateMethod' key s params t stmts is_generator is_async kind is_static) e = class_member_of field (v_class_member.PrivateMethod' key s params t stmts is_generator is_async kind is_static) e (λ y. values_last field (private_method_head kind y.1.1.0 is_static y.1.1.1.0) refl (private_name 0 key y.0) (function_part 1 s params t stmts is_generator is_async y.1.0 (row_param 0 params y.1.0.params.items) (row_stmt 0 stmts y.1.0.body.stmts.items)))
  same_class_member field (v_class_member.ClassProp' key value is_static) e = class_member_of field (v_class_member.ClassProp' key value is_static) e (λ y. values_last field (class_prop_head is_static y.1.1.0) refl (same_prop_name 0 key y.0) (same_option_expr 1 value y.1.0))
  same_class_member field (v_class_member.PrivateProp' key value is_static) e = class_member_of field (v_class_member.PrivateProp' key value is_static) e (λ y. values_last field (private_prop_head is_static y.1.1.0) refl (private_name 0 key y.0) (same_option_expr 1 value y.1.0))
  same_class_member field (v_class_member.StaticBlock' s stmts) e = class_member_of field (v_class_member.StaticBlock' s stmts) e (λ y. in_node field _ (just (block_part 0 s stmts y.0 (row_stmt 0 stmts y.0.stmts.items))))
  same_class_member field v_class_member.EmptyStmt e = class_member_of field v_class_member.EmptyStmt e (λ y. in_node field _ no_more)

  same_option_expr : (field : ℕ) (d : block.Held-ClassMember-ClassProp-1) (e : Option v_expr.Expr) → Part field (option_eq (same block.member-Expr) (block.view-ClassMember-ClassProp-1 d) e) (held_option_expr field d) (k.option_expr_items field e)
  same_option_expr field block.ClassMember-ClassProp-1-None' None = none_there
  same_option_expr field block.ClassMember-ClassProp-1-None' (Some e) = apart (cut.nothing field) (rows.expr_row field e) (differs_from_nothing (numbers.expr_begins field e))
  same_option_expr field (block.ClassMember-ClassProp-1-Some' it) None = apart (rows.held_option_expr_is_row field (block.ClassMember-ClassProp-1-Some' it)) (cut.nothing field) (λ is. differs_from_nothing (numbers.expr_begins field it) (sym is))
  same_option_expr field (block.ClassMember-ClassProp-1-Some' it) (Some e) = same_expr field it e

  pub same_option_boxed_expr : (field : ℕ) (d : block.Held-Expr-YieldExpr-0) (e : Option (Box v_expr.Expr Global)) → Part field (option_eq (λ x y. same block.member-Expr x.value y.value) (block.view-Expr-YieldExpr-0 d) e) (held_option_boxed_expr field d) (k.option_boxed_expr_items field e)
  same_option_boxed_expr field block.Expr-YieldExpr-0-None' None = none_there
  same_option_boxed_expr field block.Expr-YieldExpr-0-None' (Some e) = apart (cut.nothing field) (rows.expr_row field e.value) (differs_from_nothing (numbers.expr_begins field e.value))
  same_option_boxed_expr field (block.Expr-YieldExpr-0-Some' b it) None = apart (rows.held_option_boxed_expr_is_row field (block.Expr-YieldExpr-0-Some' b it)) (cut.nothing field) (λ is. differs_from_nothing (numbers.expr_begins field it) (sym is))
  same_option_boxed_expr field (block.Expr-YieldExpr-0-Some' b it) (Some e) = same_expr field it e.value

  same_option_stmt : (field : ℕ) (d : block.Held-Stmt-IfStmt-2) (e : Option (Box v_stmt.Stmt Global)) → Part field (option_eq (λ x y. same block.member-Stmt x.value y.value) (block.view-Stmt-IfStmt-2 d) e) (held_option_boxed_stmt field d) (k.option_boxed_stmt_items field e)
  same_option_stmt field block.Stmt-IfStmt-2-None' None = none_there
  same_option_stmt field block.Stmt-IfStmt-2-None' (Some e) = apart (cut.nothing field) (rows.stmt_row field e.value) (differs_from_nothing (numbers.stmt_begins field e.value))
  same_option_stmt field (block.Stmt-IfStmt-2-Some' b it) None = apart (rows.held_option_boxed_stmt_is_row field (block.Stmt-IfStmt-2-Some' b it)) (cut.nothing field) (λ is. differs_from_nothing (numbers.stmt_begins field it) (sym is))
  same_option_stmt field (block.Stmt-IfStmt-2-Some' b it) (Some e) = same_stmt field it e.value

  same_option_block : (field : ℕ) (d : block.Held-Stmt-TryStmt-2) (e : Option (v_block_stmt.BlockStmt v_stmt.Stmt)) → Part field (option_eq (λ x y. pointwise (same block.member-Stmt) x.stmts.items y.stmts.items) (block.view-Stmt-TryStmt-2 d) e) (held_option_block_stmt field d) (k.option_block_stmt_items field e)
  same_option_block field block.Stmt-TryStmt-2-None' None = none_there
  same_option_block field block.Stmt-TryStmt-2-None' (Some e) = apart (cut.nothing field) (rows.held_option_block_stmt_is_row field (block.back-Stmt-TryStmt-2 (Some e))) (differs_from_nothing (refl))
  same_option_block field (block.Stmt-TryStmt-2-Some' s stmts) None = apart (rows.held_option_block_stmt_is_row field (block.Stmt-TryStmt-2-Some' s stmts)) (cut.nothing field) (λ is. differs_from_nothing (refl) (sym is))
  same_option_block field (block.Stmt-TryStmt-2-Some' s stmts) (Some e) = block_part field s stmts e (row_stmt 0 stmts e.stmts.items)

  same_option_catch : (field : ℕ) (d : block.Held-Stmt-TryStmt-1) (e : Option v_catch_clause.CatchClause) → Part field (option_eq (same block.member-CatchClause) (block.view-Stmt-TryStmt-1 d) e) (held_option_catch_clause field d) (k.option_catch_clause_items field e)
  same_option_catch field block.Stmt-TryStmt-1-None' None = none_there
  same_option_catch field block.Stmt-TryStmt-1-None' (Some e) = apart (cut.nothing field) (rows.held_option_catch_clause_is_row field (block.back-Stmt-TryStmt-1 (Some e))) (differs_from_nothing (refl))
  same_option_catch field (block.Stmt-TryStmt-1-Some' param s stmts) None = apart (rows.held_option_catch_clause_is_row field (block.Stmt-TryStmt-1-Some' param s stmts)) (cut.nothing field) (λ is. differs_from_nothing (refl) (sym is))
  same_option_catch field (block.Stmt-TryStmt-1-Some' param s stmts) (Some e) = retested (step_is block.member-CatchClause _ e) (in_node field _ (two refl (same_option_pat r.Binding 0 param e.param) (block_part 1 s stmts e.body (row_stmt 0 stmts e.body.stmts.items))))

  same_option_for_init : (field : ℕ) (d : block.Held-Stmt-ForStmt-0) (e : Option v_for_init.ForInit) → Part field (option_eq (same block.member-ForInit) (block.view-Stmt-ForStmt-0 d) e) (held_option_for_init field d) (k.option_for_init_items field e)
  same_option_for_init field block.Stmt-ForStmt-0-None' None = none_there
  same_option_for_init field block.Stmt-ForStmt-0-None' (Some e) = apart (cut.nothing field) (rows.for_init_row field e) (differs_from_nothing (numbers.for_init_begins field e))
  same_option_for_init field (block.Stmt-ForStmt-0-Some' it) None = apart (rows.held_option_for_init_is_row field (block.Stmt-ForStmt-0-Some' it)) (cut.nothing field) (λ is. differs_from_nothing (numbers.for_init_begins field it) (sym is))
  same_option_for_init field (block.Stmt-ForStmt-0-Some' it) (Some e) = same_for_init field it e

  same_option_pat : (role : Role) (field : ℕ) (d : block.Held-AssignTarget-ArrayPat-0-1) (e : Option v_pat.Pat) → Part field (option_eq (same block.member-Pat) (block.view-AssignTarget-ArrayPat-0-1 d) e) (held_option_pat role field d) (k.option_pat_items role field e)
  same_option_pat role field block.AssignTarget-ArrayPat-0-1-None' None = none_there
  same_option_pat role field block.AssignTarget-ArrayPat-0-1-None' (Some e) = apart (cut.nothing field) (rows.pat_row role field e) (differs_from_nothing (numbers.pat_begins role field e))
  same_option_pat role field (block.AssignTarget-ArrayPat-0-1-Some' it) None = apart (rows.held_option_pat_is_row role field (block.AssignTarget-ArrayPat-0-1-Some' it)) (cut.nothing field) (λ is. differs_from_nothing (numbers.pat_begins role field it) (sym is))
  same_option_pat role field (block.AssignTarget-ArrayPat-0-1-Some' it) (Some e) = same_pat role field it e

  place_pat : (role : Role) (field : ℕ) (d : block.Held-AssignTarget-ArrayPat-0-1) (e : Option v_pat.Pat) → Part field (option_eq (same block.member-Pat) (block.view-AssignTarget-ArrayPat-0-1 d) e) (place_of_pat role field d) (k.pat_place_items role field e)
  place_pat role field block.AssignTarget-ArrayPat-0-1-None' None = hole_there
  place_pat role field block.AssignTarget-ArrayPat-0-1-None' (Some e) = apart (cut.hole field) (rows.pat_row role field e) (differ_by is_hole refl (numbers.pat_no_hole role field e))
  place_pat role field (block.AssignTarget-ArrayPat-0-1-Some' it) None = apart (rows.pat_row role field it) (cut.hole field) (λ is. differ_by is_hole refl (numbers.pat_no_hole role field it) (sym is))
  place_pat role field (block.AssignTarget-ArrayPat-0-1-Some' it) (Some e) = same_pat role field it e

  place_expr : (field : ℕ) (d : block.Held-Expr-ArrayLit-0-3) (e : Option (v_expr_or_spread.ExprOrSpread v_expr.Expr)) → Part field (option_eq (λ x y. beq x.spread y.spread && same block.member-Expr x.expr y.expr) (block.view-Expr-ArrayLit-0-3 d) e) (place_of_expr_or_spread field d) (k.expr_or_spread_place_items field e)
  place_expr field block.Expr-ArrayLit-0-3-None' None = hole_there
  place_expr field block.Expr-ArrayLit-0-3-None' (Some e) = apart (cut.hole field) (cut.node_row field _ (rows.expr_row 1 e.expr).whole) (differ_by is_hole refl refl)
  place_expr field (block.Expr-ArrayLit-0-3-Some' spread expr) None = apart (rows.place_of_expr_or_spread_is_row field (block.Expr-ArrayLit-0-3-Some' spread expr)) (cut.hole field) (λ is. differ_by is_hole refl refl (sym is))
  place_expr field (block.Expr-ArrayLit-0-3-Some' spread expr) (Some e) = in_nodes field (expr_or_spread_head spread e.spread) (just (same_expr 1 expr e.expr))

  pub row_stmt : (field : ℕ) {n : _} (d : block.Row_of-Stmt n) (list : List v_stmt.Stmt) → Part field (pointwise (same block.member-Stmt) (block.items-the_row-Stmt n d) list) (row_of_stmt field d) (flat_map (stmt_items field) list)
  row_stmt field block.end_of-Stmt list = no_elements (same block.member-Stmt) (stmt_items field) (rows.stmt_row field) (numbers.stmt_begins field) list
  row_stmt field (block.more_of-Stmt it rest) [] = elements_left (stmt_items field it) (row_of_stmt field rest) (rows.row_of_stmt_is_row field (block.more_of-Stmt it rest)) (numbers.stmt_begins field it)
  row_stmt field (block.more_of-Stmt it rest) (e ∷ es) = more_elements (stmt_single field it) (stmt_single field e) (same_stmt field it e) (row_stmt field rest es)

  row_switch_case : (field : ℕ) {n : _} (d : block.Row_of-SwitchCase n) (list : List v_switch_case.SwitchCase) → Part field (pointwise (same block.member-SwitchCase) (block.items-the_row-SwitchCase n d) list) (row_of_switch_case field d) (flat_map (k.switch_case_items field) list)
  row_switch_case field block.end_of-SwitchCase list = no_elements (same block.member-SwitchCase) (k.switch_case_items field) (λ it. cut.node_row field _ (cut.whole_and (rows.held_option_expr_is_row 0 (block.back-ClassMember-ClassProp-1 it.test)).whole (rows.row_of_stmt_is_row 1 (block.hidden-the_row-Stmt-1 it.cons)).whole)) (λ it. refl) list
  row_switch_case field (block.more_of-SwitchCase test s cons rest) [] = elements_left (node field h.SwitchCase ((held_option_expr 0 test) ++ (row_of_stmt 1 cons))) (row_of_switch_case field rest) (rows.row_of_switch_case_is_row field (block.more_of-SwitchCase test s cons rest)) (refl)
  row_switch_case field (block.more_of-SwitchCase test s cons rest) (e ∷ es) = more_elements (single_node field _ (cut.whole_and (rows.held_option_expr_is_row 0 test).whole (rows.row_of_stmt_is_row 1 cons).whole)) (single_node field _ (cut.whole_and (rows.held_option_expr_is_row 0 (block.back-ClassMember-ClassProp-1 e.test)).whole (rows.row_of_stmt_is_row 1 (block.hidden-the_row-Stmt-1 e.cons)).whole)) (retested (step_is block.member-SwitchCase _ e) (in_node field _ (two refl (same_option_expr 0 test e.test) (vec_stmt 1 s cons e.cons (row_stmt 1 cons e.cons.items))))) (row_switch_case field rest es)

  row_var_declarator : (field : ℕ) {n : _} (d : block.Row_of-VarDeclarator n) (list : List v_var_declarator.VarDeclarator) → Part field (pointwise (same block.member-VarDeclarator) (block.items-the_row-VarDeclarator n d) list) (row_of_var_declarator field d) (flat_map (k.var_declarator_items field) list)
  row_var_declarator field block.end_of-VarDeclarator list = no_elements (same block.member-VarDeclarator) (k.var_declarator_items field) (λ it. cut.node_row field _ (cut.whole_and (rows.pat_row r.Binding 0 it.name).whole (rows.held_option_expr_is_row 1 (block.back-ClassMember-ClassProp-1 it.init)).whole)) (λ it. refl) list
  row_var_declarator field (block.more_of-VarDeclarator name init rest) [] = elements_left (node field h.VarDeclarator ((pat_items r.Binding 0 name) ++ (held_option_expr 1 init))) (row_of_var_declarator field rest) (rows.row_of_var_declarator_is_row field (block.more_of-VarDeclarator name init rest)) (refl)
  row_var_declarator field (block.more_of-VarDeclarator name init rest) (e ∷ es) = more_elements (single_node field _ (cut.whole_and (rows.pat_row r.Binding 0 name).whole (rows.held_option_expr_is_row 1 init).whole)) (single_node field _ (cut.whole_and (rows.pat_row r.Binding 0 e.name).whole (rows.held_option_expr_is_row 1 (block.back-ClassMember-ClassProp-1 e.init)).whole)) (retested (step_is block.member-VarDeclarator _ e) (in_node field _ (two refl (same_pat r.Binding 0 name e.name) (same_option_expr 1 init e.init)))) (row_var_declarator field rest es)

  row_expr : (field : ℕ) {n : _} (d : block.Row_of-Expr n) (list : List v_expr.Expr) → Part field (pointwise (same block.member-Expr) (block.items-the_row-Expr n d) list) (row_of_expr field d) (flat_map (expr_items field) list)
  row_expr field block.end_of-Expr list = no_elements (same block.member-Expr) (expr_items field) (rows.expr_row field) (numbers.expr_begins field) list
  row_expr field (block.more_of-Expr it rest) [] = elements_left (expr_items field it) (row_of_expr field rest) (rows.row_of_expr_is_row field (block.more_of-Expr it rest)) (numbers.expr_begins field it)
  row_expr field (block.more_of-Expr it rest) (e ∷ es) = more_elements (expr_single field it) (expr_single field e) (same_expr field it e) (row_expr field rest es)

  row_expr_or_spread : (field : ℕ) {n : _} (d : block.Row_of-Expr-CallExpr-1-2 n) (list : List (v_expr_or_spread.ExprOrSpread v_expr.Expr)) → Part field (pointwise (λ x y. beq x.spread y.spread && same block.member-Expr x.expr y.expr) (block.items-the_row-Expr-CallExpr-1-2 n d) list) (row_of_expr_or_spread field d) (flat_map (k.expr_or_spread_items field) list)
  row_expr_or_spread field block.end_of-Expr-CallExpr-1-2 list = no_elements (λ x y. beq x.spread y.spread && same block.member-Expr x.expr y.expr) (k.expr_or_spread_items field) (λ it. cut.node_row field _ (rows.expr_row 1 it.expr).whole) (λ it. refl) list
  row_expr_or_spread field (block.more_of-Expr-CallExpr-1-2 spread expr rest) [] = elements_left (node field (h.ExprOrSpread spread) (expr_items 1 expr)) (row_of_expr_or_spread field rest) (rows.row_of_expr_or_spread_is_row field (block.more_of-Expr-CallExpr-1-2 spread expr rest)) (refl)
  row_expr_or_spread field (block.more_of-Expr-CallExpr-1-2 spread expr rest) (e ∷ es) = more_elements (single_node field _ (rows.expr_row 1 expr).whole) (single_node field _ (rows.expr_row 1 e.expr).whole) (in_nodes field (expr_or_spread_head spread e.spread) (just (same_expr 1 expr e.expr))) (row_expr_or_spread field rest es)

  row_option_expr_or_spread : (field : ℕ) {n : _} (d : block.Row_of-Expr-ArrayLit-0-3 n) (list : List (Option (v_expr_or_spread.ExprOrSpread v_expr.Expr))) → Part field (pointwise (option_eq (λ x y. beq x.spread y.spread && same block.member-Expr x.expr y.expr)) (block.items-the_row-Expr-ArrayLit-0-3 n d) list) (row_of_option_expr_or_spread field d) (flat_map (k.expr_or_spread_place_items field) list)
  row_option_expr_or_spread field block.end_of-Expr-ArrayLit-0-3 list = no_elements (option_eq (λ x y. beq x.spread y.spread && same block.member-Expr x.expr y.expr)) (k.expr_or_spread_place_items field) (expr_place_row field) (expr_place_begins field) list
  row_option_expr_or_spread field (block.more_of-Expr-ArrayLit-0-3 it rest) [] = elements_left (place_of_expr_or_spread field it) (row_of_option_expr_or_spread field rest) (rows.row_of_option_expr_or_spread_is_row field (block.more_of-Expr-ArrayLit-0-3 it rest)) (place_expr_begins field it)
  row_option_expr_or_spread field (block.more_of-Expr-ArrayLit-0-3 it rest) (e ∷ es) = more_elements (place_expr_single field it) (expr_place_single field e) (place_expr field it e) (row_option_expr_or_spread field rest es)

  row_prop_or_spread : (field : ℕ) {n : _} (d : block.Row_of-PropOrSpread n) (list : List v_prop_or_spread.PropOrSpread) → Part field (pointwise (same block.member-PropOrSpread) (block.items-the_row-PropOrSpread n d) list) (row_of_prop_or_spread field d) (flat_map (prop_or_spread_items field) list)
  row_prop_or_spread field block.end_of-PropOrSpread list = no_elements (same block.member-PropOrSpread) (prop_or_spread_items field) (rows.prop_or_spread_row field) (numbers.prop_or_spread_begins field) list
  row_prop_or_spread field (block.more_of-PropOrSpread it rest) [] = elements_left (prop_or_spread_items field it) (row_of_prop_or_spread field rest) (rows.row_of_prop_or_spread_is_row field (block.more_of-PropOrSpread it rest)) (numbers.prop_or_spread_begins field it)
  row_prop_or_spread field (block.more_of-PropOrSpread it rest) (e ∷ es) = more_elements (prop_or_spread_single field it) (prop_or_spread_single field e) (same_prop_or_spread field it e) (row_prop_or_spread field rest es)

  row_pat : (role : Role) (field : ℕ) {n : _} (d : block.Row_of-Pat n) (list : List v_pat.Pat) → Part field (pointwise (same block.member-Pat) (block.items-the_row-Pat n d) list) (row_of_pat role field d) (flat_map (pat_items role field) list)
  row_pat role field block.end_of-Pat list = no_elements (same block.member-Pat) (pat_items role field) (rows.pat_row role field) (numbers.pat_begins role field) list
  row_pat role field (block.more_of-Pat it rest) [] = elements_left (pat_items role field it) (row_of_pat role field rest) (rows.row_of_pat_is_row role field (block.more_of-Pat it rest)) (numbers.pat_begins role field it)
  row_pat role field (block.more_of-Pat it rest) (e ∷ es) = more_elements (pat_single role field it) (pat_single role field e) (same_pat role field it e) (row_pat role field rest es)

  row_option_pat : (role : Role) (field : ℕ) {n : _} (d : block.Row_of-AssignTarget-ArrayPat-0-1 n) (list : List (Option v_pat.Pat)) → Part field (pointwise (option_eq (same block.member-Pat)) (block.items-the_row-AssignTarget-ArrayPat-0-1 n d) list) (row_of_option_pat role field d) (flat_map (k.pat_place_items role field) list)
  row_option_pat role field block.end_of-AssignTarget-ArrayPat-0-1 list = no_elements (option_eq (same block.member-Pat)) (k.pat_place_items role field) (pat_place_row role field) (pat_place_begins role field) list
  row_option_pat role field (block.more_of-AssignTarget-ArrayPat-0-1 it rest) [] = elements_left (place_of_pat role field it) (row_of_option_pat role field rest) (rows.row_of_option_pat_is_row role field (block.more_of-AssignTarget-ArrayPat-0-1 it rest)) (place_pat_begins role field it)
  row_option_pat role field (block.more_of-AssignTarget-ArrayPat-0-1 it rest) (e ∷ es) = more_elements (place_pat_single role field it) (pat_place_single role field e) (place_pat role field it e) (row_option_pat role field rest es)

  row_object_pat_prop : (role : Role) (field : ℕ) {n : _} (d : block.Row_of-ObjectPatProp n) (list : List v_object_pat_prop.ObjectPatProp) → Part field (pointwise (same block.member-ObjectPatProp) (block.items-the_row-ObjectPatProp n d) list) (row_of_object_pat_prop role field d) (flat_map (object_pat_prop_items role field) list)
  row_object_pat_prop role field block.end_of-ObjectPatProp list = no_elements (same block.member-ObjectPatProp) (object_pat_prop_items role field) (rows.object_pat_prop_row role field) (numbers.object_pat_prop_begins role field) list
  row_object_pat_prop role field (block.more_of-ObjectPatProp it rest) [] = elements_left (object_pat_prop_items role field it) (row_of_object_pat_prop role field rest) (rows.row_of_object_pat_prop_is_row role field (block.more_of-ObjectPatProp it rest)) (numbers.object_pat_prop_begins role field it)
  row_object_pat_prop role field (block.more_of-ObjectPatProp it rest) (e ∷ es) = more_elements (object_pat_prop_single role field it) (object_pat_prop_single role field e) (same_object_pat_prop role field it e) (row_object_pat_prop role field rest es)

  pub row_param : (field : ℕ) {n : _} (d : block.Row_of-ClassMember-Constructor-0-1 n) (list : List (v_param.Param v_pat.Pat)) → Part field (pointwise (λ x y. same block.member-Pat x.pat y.pat) (block.items-the_row-ClassMember-Constructor-0-1 n d) list) (row_of_param field d) (flat_map (k.param_items field) list)
  row_param field block.end_of-ClassMember-Constructor-0-1 list = no_elements (λ x y. same block.member-Pat x.pat y.pat) (k.param_items field) (λ it. cut.node_row field _ (rows.pat_row r.Binding 0 it.pat).whole) (λ it. refl) list
  row_param field (block.more_of-ClassMember-Constructor-0-1 pat rest) [] = elements_left (node field h.Param (pat_items r.Binding 0 pat)) (row_of_param field rest) (rows.row_of_param_is_row field (block.more_of-ClassMember-Constructor-0-1 pat rest)) (refl)
  row_param field (block.more_of-ClassMember-Constructor-0-1 pat rest) (e ∷ es) = more_elements (single_node field _ (rows.pat_row r.Binding 0 pat).whole) (single_node field _ (rows.pat_row r.Binding 0 e.pat).whole) (in_node field _ (just (same_pat r.Binding 0 pat e.pat))) (row_param field rest es)

  pub row_class_member : (field : ℕ) {n : _} (d : block.Row_of-ClassMember n) (list : List v_class_member.ClassMember) → Part field (pointwise (same block.member-ClassMember) (block.items-the_row-ClassMember n d) list) (row_of_class_member field d) (flat_map (class_member_items field) list)
  row_class_member field block.end_of-ClassMember list = no_elements (same block.member-ClassMember) (class_member_items field) (rows.class_member_row field) (numbers.class_member_begins field) list
  row_class_member field (block.more_of-ClassMember it rest) [] = elements_left (class_member_items field it) (row_of_class_member field rest) (rows.row_of_class_member_is_row field (block.more_of-ClassMember it rest)) (numbers.class_member_begins field it)
  row_class_member field (block.more_of-ClassMember it rest) (e ∷ es) = more_elements (class_member_single field it) (class_member_single field e) (same_class_member field it e) (row_class_member field rest es)

  same_prop_name : (field : ℕ) (d : block.Held-ClassMember-ClassMethod-0) (e : v_prop_name.PropName v_expr.Expr) → Part field (prop_name_eq (block.view-ClassMember-ClassMethod-0 d) e) (held_prop_name field d) (k.prop_name_items field e)
  same_prop_name field (block.ClassMember-ClassMethod-0-IdentName' it) (i_prop_name.IdentName e) = ident_name field it e
  same_prop_name field (block.ClassMember-ClassMethod-0-IdentName' it) (i_prop_name.Str e) = apart (rows.held_prop_name_is_row field (block.ClassMember-ClassMethod-0-IdentName' it)) (rows.held_prop_name_is_row field (block.back-ClassMember-ClassMethod-0 (i_prop_name.Str e))) (differ_in name_number refl refl refl)
  same_prop_name field (block.ClassMember-ClassMethod-0-IdentName' it) (i_prop_name.Number e) = apart (rows.held_prop_name_is_row field (block.ClassMember-ClassMethod-0-IdentName' it)) (rows.held_prop_name_is_row field (block.back-ClassMember-ClassMethod-0 (i_prop_name.Number e))) (differ_in name_number refl refl refl)
  same_prop_name field (block.ClassMember-ClassMethod-0-IdentName' it) (i_prop_name.BigInt e) = apart (rows.held_prop_name_is_row field (block.ClassMember-ClassMethod-0-IdentName' it)) (rows.held_prop_name_is_row field (block.back-ClassMember-ClassMethod-0 (i_prop_name.BigInt e))) (differ_in name_number refl refl refl)
  same_prop_name field (block.ClassMember-ClassMethod-0-IdentName' it) (i_prop_name.ComputedPropName e) = apart (rows.held_prop_name_is_row field (block.ClassMember-ClassMethod-0-IdentName' it)) (rows.held_prop_name_is_row field (block.back-ClassMember-ClassMethod-0 (i_prop_name.ComputedPropName e))) (differ_in name_number refl refl refl)
  same_prop_name field (block.Str' it) (i_prop_name.IdentName e) = apart (rows.held_prop_name_is_row field (block.Str' it)) (rows.held_prop_name_is_row field (block.back-ClassMember-ClassMethod-0 (i_prop_name.IdentName e))) (differ_in name_number refl refl refl)
  same_prop_name field (block.Str' it) (i_prop_name.Str e) = str field it e
  same_prop_name field (block.Str' it) (i_prop_name.Number e) = apart (rows.held_prop_name_is_row field (block.Str' it)) (rows.held_prop_name_is_row field (block.back-ClassMember-ClassMethod-0 (i_prop_name.Number e))) (differ_in name_number refl refl refl)
  same_prop_name field (block.Str' it) (i_prop_name.BigInt e) = apart (rows.held_prop_name_is_row field (block.Str' it)) (rows.held_prop_name_is_row field (block.back-ClassMember-ClassMethod-0 (i_prop_name.BigInt e))) (differ_in name_number refl refl refl)
  same_prop_name field (block.Str' it) (i_prop_name.ComputedPropName e) = apart (rows.held_prop_name_is_row field (block.Str' it)) (rows.held_prop_name_is_row field (block.back-ClassMember-ClassMethod-0 (i_prop_name.ComputedPropName e))) (differ_in name_number refl refl refl)
  same_prop_name field (block.Number' it) (i_prop_name.IdentName e) = apart (rows.held_prop_name_is_row field (block.Number' it)) (rows.held_prop_name_is_row field (block.back-ClassMember-ClassMethod-0 (i_prop_name.IdentName e))) (differ_in name_number refl refl refl)
  same_prop_name field (block.Number' it) (i_prop_name.Str e) = apart (rows.held_prop_name_is_row field (block.Number' it)) (rows.held_prop_name_is_row field (block.back-ClassMember-ClassMethod-0 (i_prop_name.Str e))) (differ_in name_number refl refl refl)
  same_prop_name field (block.Number' it) (i_prop_name.Number e) = number field it e
  same_prop_name field (block.Number' it) (i_prop_name.BigInt e) = apart (rows.held_prop_name_is_row field (block.Number' it)) (rows.held_prop_name_is_row field (block.back-ClassMember-ClassMethod-0 (i_prop_name.BigInt e))) (differ_in name_number refl refl refl)
  same_prop_name field (block.Number' it) (i_prop_name.ComputedPropName e) = apart (rows.held_prop_name_is_row field (block.Number' it)) (rows.held_prop_name_is_row field (block.back-ClassMember-ClassMethod-0 (i_prop_name.ComputedPropName e))) (differ_in name_number refl refl refl)
  same_prop_name field (block.BigInt' it) (i_prop_name.IdentName e) = apart (rows.held_prop_name_is_row field (block.BigInt' it)) (rows.held_prop_name_is_row field (block.back-ClassMember-ClassMethod-0 (i_prop_name.IdentName e))) (differ_in name_number refl refl refl)
  same_prop_name field (block.BigInt' it) (i_prop_name.Str e) = apart (rows.held_prop_name_is_row field (block.BigInt' it)) (rows.held_prop_name_is_row field (block.back-ClassMember-ClassMethod-0 (i_prop_name.Str e))) (differ_in name_number refl refl refl)
  same_prop_name field (block.BigInt' it) (i_prop_name.Number e) = apart (rows.held_prop_name_is_row field (block.BigInt' it)) (rows.held_prop_name_is_row field (block.back-ClassMember-ClassMethod-0 (i_prop_name.Number e))) (differ_in name_number refl refl refl)
  same_prop_name field (block.BigInt' it) (i_prop_name.BigInt e) = big_int field it e
  same_prop_name field (block.BigInt' it) (i_prop_name.ComputedPropName e) = apart (rows.held_prop_name_is_row field (block.BigInt' it)) (rows.held_prop_name_is_row field (block.back-ClassMember-ClassMethod-0 (i_prop_name.ComputedPropName e))) (differ_in name_number refl refl refl)
  same_prop_name field (block.ClassMember-ClassMethod-0-ComputedPropName' b it) (i_prop_name.IdentName e) = apart (rows.held_prop_name_is_row field (block.ClassMember-ClassMethod-0-ComputedPropName' b it)) (rows.held_prop_name_is_row field (block.back-ClassMember-ClassMethod-0 (i_prop_name.IdentName e))) (differ_in name_number refl refl refl)
  same_prop_name field (block.ClassMember-ClassMethod-0-ComputedPropName' b it) (i_prop_name.Str e) = apart (rows.held_prop_name_is_row field (block.ClassMember-ClassMethod-0-ComputedPropName' b it)) (rows.held_prop_name_is_row field (block.back-ClassMember-ClassMethod-0 (i_prop_name.Str e))) (differ_in name_number refl refl refl)
  same_prop_name field (block.ClassMember-ClassMethod-0-ComputedPropName' b it) (i_prop_name.Number e) = apart (rows.held_prop_name_is_row field (block.ClassMember-ClassMethod-0-ComputedPropName' b it)) (rows.held_prop_name_is_row field (block.back-ClassMember-ClassMethod-0 (i_prop_name.Number e))) (differ_in name_number refl refl refl)
  same_prop_name field (block.ClassMember-ClassMethod-0-ComputedPropName' b it) (i_prop_name.BigInt e) = apart (rows.held_prop_name_is_row field (block.ClassMember-ClassMethod-0-ComputedPropName' b it)) (rows.held_prop_name_is_row field (block.back-ClassMember-ClassMethod-0 (i_prop_name.BigInt e))) (differ_in name_number refl refl refl)
  same_prop_name field (block.ClassMember-ClassMethod-0-ComputedPropName' b it) (i_prop_name.ComputedPropName e) = in_node field _ (just (same_expr 0 it e.expr.value))

  same_member_prop : (field : ℕ) (d : block.Held-Expr-MemberExpr-0-7) (e : v_member_prop.MemberProp v_expr.Expr) → Part field (member_prop_eq (block.view-Expr-MemberExpr-0-7 d) e) (held_member_prop field d) (k.member_prop_items field e)
  same_member_prop field (block.Expr-MemberExpr-0-7-IdentName' it) (i_member_prop.IdentName e) = ident_name field it e
  same_member_prop field (block.Expr-MemberExpr-0-7-IdentName' it) (i_member_prop.PrivateName e) = apart (rows.held_member_prop_is_row field (block.Expr-MemberExpr-0-7-IdentName' it)) (rows.held_member_prop_is_row field (block.back-Expr-MemberExpr-0-7 (i_member_prop.PrivateName e))) (differ_in name_number refl refl refl)
  same_member_prop field (block.Expr-MemberExpr-0-7-IdentName' it) (i_member_prop.ComputedPropName e) = apart (rows.held_member_prop_is_row field (block.Expr-MemberExpr-0-7-IdentName' it)) (rows.held_member_prop_is_row field (block.back-Expr-MemberExpr-0-7 (i_member_prop.ComputedPropName e))) (differ_in name_number refl refl refl)
  same_member_prop field (block.Expr-MemberExpr-0-7-PrivateName' it) (i_member_prop.IdentName e) = apart (rows.held_member_prop_is_row field (block.Expr-MemberExpr-0-7-PrivateName' it)) (rows.held_member_prop_is_row field (block.back-Expr-MemberExpr-0-7 (i_member_prop.IdentName e))) (differ_in name_number refl refl refl)
  same_member_prop field (block.Expr-MemberExpr-0-7-PrivateName' it) (i_member_prop.PrivateName e) = private_name field it e
  same_member_prop field (block.Expr-MemberExpr-0-7-PrivateName' it) (i_member_prop.ComputedPropName e) = apart (rows.held_member_prop_is_row field (block.Expr-MemberExpr-0-7-PrivateName' it)) (rows.held_member_prop_is_row field (block.back-Expr-MemberExpr-0-7 (i_member_prop.ComputedPropName e))) (differ_in name_number refl refl refl)
  same_member_prop field (block.Expr-MemberExpr-0-7-ComputedPropName' b it) (i_member_prop.IdentName e) = apart (rows.held_member_prop_is_row field (block.Expr-MemberExpr-0-7-ComputedPropName' b it)) (rows.held_member_prop_is_row field (block.back-Expr-MemberExpr-0-7 (i_member_prop.IdentName e))) (differ_in name_number refl refl refl)
  same_member_prop field (block.Expr-MemberExpr-0-7-ComputedPropName' b it) (i_member_prop.PrivateName e) = apart (rows.held_member_prop_is_row field (block.Expr-MemberExpr-0-7-ComputedPropName' b it)) (rows.held_member_prop_is_row field (block.back-Expr-MemberExpr-0-7 (i_member_prop.PrivateName e))) (differ_in name_number refl refl refl)
  same_member_prop field (block.Expr-MemberExpr-0-7-ComputedPropName' b it) (i_member_prop.ComputedPropName e) = in_node field _ (just (same_expr 0 it e.expr.value))

  same_super_prop : (field : ℕ) (d : block.Held-Expr-SuperPropExpr-0-4) (e : v_super_prop.SuperProp v_expr.Expr) → Part field (super_prop_eq (block.view-Expr-SuperPropExpr-0-4 d) e) (held_super_prop field d) (k.super_prop_items field e)
  same_super_prop field (block.Expr-SuperPropExpr-0-4-IdentName' it) (i_super_prop.IdentName e) = ident_name field it e
  same_super_prop field (block.Expr-SuperPropExpr-0-4-IdentName' it) (i_super_prop.ComputedPropName e) = apart (rows.held_super_prop_is_row field (block.Expr-SuperPropExpr-0-4-IdentName' it)) (rows.held_super_prop_is_row field (block.back-Expr-SuperPropExpr-0-4 (i_super_prop.ComputedPropName e))) (differ_in name_number refl refl refl)
  same_super_prop field (block.Expr-SuperPropExpr-0-4-ComputedPropName' b it) (i_super_prop.IdentName e) = apart (rows.held_super_prop_is_row field (block.Expr-SuperPropExpr-0-4-ComputedPropName' b it)) (rows.held_super_prop_is_row field (block.back-Expr-SuperPropExpr-0-4 (i_super_prop.IdentName e))) (differ_in name_number refl refl refl)
  same_super_prop field (block.Expr-SuperPropExpr-0-4-ComputedPropName' b it) (i_super_prop.ComputedPropName e) = in_node field _ (just (same_expr 0 it e.expr.value))

  same_callee : (field : ℕ) (d : block.Held-Expr-CallExpr-0) (e : v_callee.Callee v_expr.Expr) → Part field (callee_eq (block.view-Expr-CallExpr-0 d) e) (held_callee field d) (k.callee_items field e)
  same_callee field block.Super' i_callee.Super = in_node field _ no_more
  same_callee field block.Super' i_callee.Import = apart (rows.held_callee_is_row field block.Super') (rows.held_callee_is_row field (block.back-Expr-CallExpr-0 i_callee.Import)) (differ_in callee_number refl refl refl)
  same_callee field block.Super' (i_callee.Expr e) = apart (rows.held_callee_is_row field block.Super') (rows.held_callee_is_row field (block.back-Expr-CallExpr-0 (i_callee.Expr e))) (differ_in callee_number refl (callee_is_expr field e.value) refl)
  same_callee field block.Import' i_callee.Super = apart (rows.held_callee_is_row field block.Import') (rows.held_callee_is_row field (block.back-Expr-CallExpr-0 i_callee.Super)) (differ_in callee_number refl refl refl)
  same_callee field block.Import' i_callee.Import = in_node field _ no_more
  same_callee field block.Import' (i_callee.Expr e) = apart (rows.held_callee_is_row field block.Import') (rows.held_callee_is_row field (block.back-Expr-CallExpr-0 (i_callee.Expr e))) (differ_in callee_number refl (callee_is_expr field e.value) refl)
  same_callee field (block.Expr-CallExpr-0-Expr' b it) i_callee.Super = apart (rows.held_callee_is_row field (block.Expr-CallExpr-0-Expr' b it)) (rows.held_callee_is_row field (block.back-Expr-CallExpr-0 i_callee.Super)) (differ_in callee_number (callee_is_expr field it) refl refl)
  same_callee field (block.Expr-CallExpr-0-Expr' b it) i_callee.Import = apart (rows.held_callee_is_row field (block.Expr-CallExpr-0-Expr' b it)) (rows.held_callee_is_row field (block.back-Expr-CallExpr-0 i_callee.Import)) (differ_in callee_number (callee_is_expr field it) refl refl)
  same_callee field (block.Expr-CallExpr-0-Expr' b it) (i_callee.Expr e) = same_expr field it e.value

  same_opt_chain_base : (field : ℕ) (d : block.Held-Expr-OptChainExpr-1) (e : v_opt_chain_base.OptChainBase v_expr.Expr) → Part field (opt_chain_base_eq (block.view-Expr-OptChainExpr-1 d) e) (held_opt_chain_base field d) (k.opt_chain_base_items field e)
  same_opt_chain_base field (block.Expr-OptChainExpr-1-MemberExpr' b obj prop) (i_opt_chain_base.MemberExpr e) = in_node field _ (two refl (same_expr 0 obj e.obj.value) (same_member_prop 1 prop e.prop))
  same_opt_chain_base field (block.Expr-OptChainExpr-1-MemberExpr' b obj prop) (i_opt_chain_base.OptCall e) = apart (rows.held_opt_chain_base_is_row field (block.Expr-OptChainExpr-1-MemberExpr' b obj prop)) (rows.held_opt_chain_base_is_row field (block.back-Expr-OptChainExpr-1 (i_opt_chain_base.OptCall e))) (differ_in name_number refl refl refl)
  same_opt_chain_base field (block.OptCall' b callee s args) (i_opt_chain_base.MemberExpr e) = apart (rows.held_opt_chain_base_is_row field (block.OptCall' b callee s args)) (rows.held_opt_chain_base_is_row field (block.back-Expr-OptChainExpr-1 (i_opt_chain_base.MemberExpr e))) (differ_in name_number refl refl refl)
  same_opt_chain_base field (block.OptCall' b callee s args) (i_opt_chain_base.OptCall e) = in_node field _ (two refl (same_expr 0 callee e.callee.value) (vec_expr_or_spread 1 s args e.args (row_expr_or_spread 1 args e.args.items)))

  same_args : (d : block.Held-Expr-NewExpr-1) (e : Option (Vec (v_expr_or_spread.ExprOrSpread v_expr.Expr) Global)) → Decides (option_eq (λ x y. pointwise (λ x y. beq x.spread y.spread && same block.member-Expr x.expr y.expr) x.items y.items) (block.view-Expr-NewExpr-1 d) e) ((is_given d ≡ is_given (block.back-Expr-NewExpr-1 e)) × (held_option_each_expr_or_spread 1 d ≡ k.option_each_expr_or_spread_items 1 e))
  same_args block.Expr-NewExpr-1-None' None = (λ so. (refl, refl), λ is. refl)
  same_args block.Expr-NewExpr-1-None' (Some e) = (λ wrong. absurd (true≢false (sym wrong)), λ is. absurd (true≢false (sym is.0)))
  same_args (block.Expr-NewExpr-1-Some' s row) None = (λ wrong. absurd (true≢false (sym wrong)), λ is. absurd (true≢false is.0))
  same_args (block.Expr-NewExpr-1-Some' s row) (Some e) = instead (λ is. (refl, is)) (λ p. p.1) (vec_expr_or_spread 1 s row e (row_expr_or_spread 1 row e.items)).same
