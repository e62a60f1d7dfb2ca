-- A node whose parts were renamed was renamed.
use Rattle.std.proofs.Common.{◌≡◌, ◌∙◌, refl, sym, ap, subst, List, ◌++◌, Option, Some, None, is_some}
use Rattle.bundle_tree_ast.specs.declared.class.ClassMember.TheBlock as block
use Rattle.bundle_syntax.specs.declared.ident.BindingIdent as v_binding_ident
use Rattle.bundle_syntax.specs.Item as h
use Rattle.bundle_syntax.specs.Item.{Item}
use Rattle.bundle_syntax.specs.declared.piece.Role.TheVariants as r
use Rattle.bundle_tree_listed.specs.Tree as k
use Rattle.bundle_tree_listed.specs.Tree.{stmt_items}
use Rattle.bundle_tree_ast.specs.declared.pat.ArrayPat as v_array_pat
use Rattle.bundle_tree_ast.specs.declared.expr.ArrowBody as v_arrow_body
use Rattle.bundle_tree_ast.specs.declared.pat.AssignTarget as v_assign_target
use Rattle.bundle_tree_ast.specs.declared.stmt.BlockStmt as v_block_stmt
use Rattle.bundle_tree_ast.specs.declared.expr.Callee.TheVariants as v_callee
use Rattle.bundle_tree_ast.specs.declared.stmt.CatchClause as v_catch_clause
use Rattle.bundle_tree_ast.specs.declared.class.Class as v_class
use Rattle.bundle_tree_ast.specs.declared.class.ClassMember as v_class_member
use Rattle.bundle_tree_ast.specs.declared.prop.ComputedPropName as v_computed_prop_name
use Rattle.bundle_tree_ast.specs.declared.decl.Decl as v_decl
use Rattle.bundle_tree_ast.specs.declared.expr.Expr as v_expr
use Rattle.bundle_tree_ast.specs.declared.expr.ExprOrSpread as v_expr_or_spread
use Rattle.bundle_tree_ast.specs.declared.stmt.ForHead as v_for_head
use Rattle.bundle_tree_ast.specs.declared.stmt.ForInit as v_for_init
use Rattle.bundle_tree_ast.specs.declared.class.Function as v_function
use Rattle.bundle_tree_ast.specs.declared.prop.KeyValueProp as v_key_value_prop
use Rattle.bundle_tree_ast.specs.declared.expr.MemberExpr as v_member_expr
use Rattle.bundle_tree_ast.specs.declared.prop.MemberProp.TheVariants as v_member_prop
use Rattle.bundle_tree_ast.specs.declared.pat.ObjectPat as v_object_pat
use Rattle.bundle_tree_ast.specs.declared.pat.ObjectPatProp as v_object_pat_prop
use Rattle.bundle_tree_ast.specs.declared.expr.OptCall as v_opt_call
use Rattle.bundle_tree_ast.specs.declared.expr.OptChainBase.TheVariants as v_opt_chain_base
use Rattle.bundle_tree_ast.specs.declared.class.Param as v_param
use Rattle.bundle_tree_ast.specs.declared.expr.ParenExpr as v_paren_expr
use Rattle.bundle_tree_ast.specs.declared.pat.Pat as v_pat
use Rattle.bundle_tree_ast.specs.declared.prop.Prop as v_prop
use Rattle.bundle_tree_ast.specs.declared.prop.PropName.TheVariants as v_prop_name
use Rattle.bundle_tree_ast.specs.declared.prop.PropOrSpread as v_prop_or_spread
use Rattle.bundle_tree_ast.specs.declared.pat.RestPat as v_rest_pat
use Rattle.bundle_tree_ast.specs.declared.stmt.Stmt as v_stmt
use Rattle.bundle_tree_ast.specs.declared.prop.SuperProp.TheVariants as v_super_prop
use Rattle.bundle_tree_ast.specs.declared.expr.SuperPropExpr as v_super_prop_expr
use Rattle.bundle_tree_ast.specs.declared.stmt.SwitchCase as v_switch_case
use Rattle.bundle_tree_ast.specs.declared.expr.Tpl as v_tpl
use Rattle.bundle_tree_ast.specs.declared.decl.VarDecl as v_var_decl
use Rattle.bundle_tree_ast.specs.declared.decl.VarDeclarator as v_var_declarator
use Rattle.bundle_tree_places.specs.Edits.{Anywhere, InObject}
use Rattle.bundle_tree_rename.specs.Renames.{Renames, Nothing, Joined, Hole, Inside}
use Rattle.bundle_tree_rename.specs.Renamed.{Renamed, RenamedPattern, Takes}
use Rattle.bundle_tree_rename.specs.Naming.{Naming}
use Rattle.bundle_tree_rename.specs.Parts as p
use Rattle.bundle_tree_rename.proofs.Leaves as leaf
use Rattle.bundle_tree_rename.proofs.Lists.{named}

pub expr-ThisExpr : {a : List Naming} → Renamed Anywhere k.expr_items a v_expr.ThisExpr v_expr.ThisExpr a
unfolding stmt_items
expr-ThisExpr = record { in_field = λ field. Inside field _ refl Nothing }

pub expr-ArrayLit : {a b : List Naming} {elems elems' : _} → Renamed Anywhere k.each_option_expr_or_spread_items a elems elems' b → Renamed Anywhere k.expr_items a (v_expr.ArrayLit elems) (v_expr.ArrayLit elems') b
unfolding stmt_items
expr-ArrayLit one = record { in_field = λ field. Inside field _ refl (one.in_field 0) }

pub expr-ObjectLit : {a b : List Naming} {props props' : _} → Renamed InObject k.each_prop_or_spread_items a props props' b → Renamed Anywhere k.expr_items a (v_expr.ObjectLit props) (v_expr.ObjectLit props') b
unfolding stmt_items
expr-ObjectLit one = record { in_field = λ field. Inside field _ refl (one.in_field 0) }

pub expr-FnExpr : {a b d : List Naming} {ident ident' function function' : _} → Renamed Anywhere p.option_ident_items a ident ident' b → Renamed Anywhere k.function_items b function function' d → Renamed Anywhere k.expr_items a (v_expr.FnExpr ident function) (v_expr.FnExpr ident' function') d
unfolding stmt_items
expr-FnExpr one two = record { in_field = λ field. Inside field _ refl (Joined (one.in_field 0) (two.in_field 1)) }

pub expr-UnaryExpr : {a b : List Naming} {op arg arg' : _} → Renamed Anywhere p.boxed_expr_items a arg arg' b → Renamed Anywhere k.expr_items a (v_expr.UnaryExpr op arg) (v_expr.UnaryExpr op arg') b
unfolding stmt_items
expr-UnaryExpr one = record { in_field = λ field. Inside field _ refl (one.in_field 1) }

pub expr-UpdateExpr : {a b : List Naming} {op prefix arg arg' : _} → Renamed Anywhere p.boxed_expr_items a arg arg' b → Renamed Anywhere k.expr_items a (v_expr.UpdateExpr op prefix arg) (v_expr.UpdateExpr op prefix arg') b
unfolding stmt_items
expr-UpdateExpr one = record { in_field = λ field. Inside field _ refl (one.in_field 2) }

pub expr-BinExpr : {a b d : List Naming} {op left left' right right' : _} → Renamed Anywhere p.boxed_expr_items a left left' b → Renamed Anywhere p.boxed_expr_items b right right' d → Renamed Anywhere k.expr_items a (v_expr.BinExpr op left right) (v_expr.BinExpr op left' right') d
unfolding stmt_items
expr-BinExpr one two = record { in_field = λ field. Inside field _ refl (Joined (one.in_field 1) (two.in_field 2)) }

pub expr-AssignExpr : {a b d : List Naming} {op left left' right right' : _} → Renamed Anywhere k.assign_target_items a left left' b → Renamed Anywhere p.boxed_expr_items b right right' d → Renamed Anywhere k.expr_items a (v_expr.AssignExpr op left right) (v_expr.AssignExpr op left' right') d
unfolding stmt_items
expr-AssignExpr one two = record { in_field = λ field. Inside field _ refl (Joined (one.in_field 1) (two.in_field 2)) }

pub expr-MemberExpr : {a b : List Naming} {it it' : v_member_expr.MemberExpr v_expr.Expr} → Renamed Anywhere k.member_expr_items a it it' b → Renamed Anywhere k.expr_items a (v_expr.MemberExpr it) (v_expr.MemberExpr it') b
unfolding stmt_items
expr-MemberExpr one = record { in_field = λ field. one.in_field field }

pub expr-SuperPropExpr : {a b : List Naming} {it it' : _} → Renamed Anywhere k.super_prop_expr_items a it it' b → Renamed Anywhere k.expr_items a (v_expr.SuperPropExpr it) (v_expr.SuperPropExpr it') b
unfolding stmt_items
expr-SuperPropExpr one = record { in_field = λ field. one.in_field field }

pub expr-CondExpr : {a b d e : List Naming} {test test' cons cons' alt alt' : _} → Renamed Anywhere p.boxed_expr_items a test test' b → Renamed Anywhere p.boxed_expr_items b cons cons' d → Renamed Anywhere p.boxed_expr_items d alt alt' e → Renamed Anywhere k.expr_items a (v_expr.CondExpr test cons alt) (v_expr.CondExpr test' cons' alt') e
unfolding stmt_items
expr-CondExpr one two three = record { in_field = λ field. Inside field _ refl (Joined (one.in_field 0) (Joined (two.in_field 1) (three.in_field 2))) }

pub expr-CallExpr : {a b d : List Naming} {callee callee' args args' : _} → Renamed Anywhere k.callee_items a callee callee' b → Renamed Anywhere k.each_expr_or_spread_items b args args' d → Renamed Anywhere k.expr_items a (v_expr.CallExpr callee args) (v_expr.CallExpr callee' args') d
unfolding stmt_items
expr-CallExpr one two = record { in_field = λ field. Inside field _ refl (Joined (one.in_field 0) (two.in_field 1)) }

-- whether a list of arguments is given
given_is : (args : Option _) → k.is_given (block.back-Expr-NewExpr-1 args) ≡ is_some args
given_is None = refl
given_is (Some list) = refl

pub expr-NewExpr : {a b d : List Naming} {callee callee' args args' : _} → Renamed Anywhere p.boxed_expr_items a callee callee' b → Renamed Anywhere k.option_each_expr_or_spread_items b args args' d → is_some args' ≡ is_some args → Renamed Anywhere k.expr_items a (v_expr.NewExpr callee args) (v_expr.NewExpr callee' args') d
unfolding stmt_items
expr-NewExpr {a = a} {d = d} {callee = callee} {callee' = callee'} {args = args} {args' = args'} one two same = record {
  in_field = λ field.
      let given : k.is_given (block.back-Expr-NewExpr-1 args') ≡ k.is_given (block.back-Expr-NewExpr-1 args) = given_is args' ∙ (same ∙ sym (given_is args)) in
      subst (λ it. Renames Anywhere a (k.expr_items field (v_expr.NewExpr callee args)) (k.node field (h.NewExpr it) (p.boxed_expr_items 0 callee' ++ k.option_each_expr_or_spread_items 1 args')) d) (sym given)
      (Inside field _ refl (Joined (one.in_field 0) (two.in_field 1)));
}

pub expr-SeqExpr : {a b : List Naming} {exprs exprs' : _} → Renamed Anywhere k.each_expr_items a exprs exprs' b → Renamed Anywhere k.expr_items a (v_expr.SeqExpr exprs) (v_expr.SeqExpr exprs') b
unfolding stmt_items
expr-SeqExpr one = record { in_field = λ field. Inside field _ refl (one.in_field 0) }

pub expr-Ident : {a b : List Naming} {it it' : _} → Takes a it it' b → Renamed Anywhere k.expr_items a (v_expr.Ident it) (v_expr.Ident it') b
unfolding stmt_items
expr-Ident one = record { in_field = λ field. (named one r.Reference refl).in_field field }

pub expr-Lit : {a : List Naming} {it : _} → Renamed Anywhere k.expr_items a (v_expr.Lit it) (v_expr.Lit it) a
unfolding stmt_items
expr-Lit {it = it} = record { in_field = leaf.lit it }

pub expr-Tpl : {a b : List Naming} {it it' : _} → Renamed Anywhere k.tpl_items a it it' b → Renamed Anywhere k.expr_items a (v_expr.Tpl it) (v_expr.Tpl it') b
unfolding stmt_items
expr-Tpl one = record { in_field = λ field. one.in_field field }

pub expr-TaggedTpl : {a b d : List Naming} {tag tag' tpl tpl' : _} → Renamed Anywhere p.boxed_expr_items a tag tag' b → Renamed Anywhere k.tpl_items b tpl tpl' d → Renamed Anywhere k.expr_items a (v_expr.TaggedTpl tag tpl) (v_expr.TaggedTpl tag' tpl') d
unfolding stmt_items
expr-TaggedTpl one two = record { in_field = λ field. Inside field _ refl (Joined (one.in_field 0) (two.in_field 1)) }

pub expr-ArrowExpr : {a b d : List Naming} {params params' body body' is_async : _} → RenamedPattern k.each_pat_items a params params' b → Renamed Anywhere k.arrow_body_items b body body' d → Renamed Anywhere k.expr_items a (v_expr.ArrowExpr params body is_async) (v_expr.ArrowExpr params' body' is_async) d
unfolding stmt_items
expr-ArrowExpr one two = record { in_field = λ field. Inside field _ refl (Joined ((one r.Binding refl).in_field 0) (two.in_field 1)) }

pub expr-ClassExpr : {a b d : List Naming} {ident ident' «class» class' : _} → Renamed Anywhere p.option_ident_items a ident ident' b → Renamed Anywhere k.class_items b «class» class' d → Renamed Anywhere k.expr_items a (v_expr.ClassExpr ident «class») (v_expr.ClassExpr ident' class') d
unfolding stmt_items
expr-ClassExpr one two = record { in_field = λ field. Inside field _ refl (Joined (one.in_field 0) (two.in_field 1)) }

pub expr-YieldExpr : {a b : List Naming} {arg arg' delegate : _} → Renamed Anywhere k.option_boxed_expr_items a arg arg' b → Renamed Anywhere k.expr_items a (v_expr.YieldExpr arg delegate) (v_expr.YieldExpr arg' delegate) b
unfolding stmt_items
expr-YieldExpr one = record { in_field = λ field. Inside field _ refl (one.in_field 0) }

pub expr-MetaPropExpr : {a : List Naming} {kind : _} → Renamed Anywhere k.expr_items a (v_expr.MetaPropExpr kind) (v_expr.MetaPropExpr kind) a
unfolding stmt_items
expr-MetaPropExpr = record { in_field = λ field. Inside field _ refl Nothing }

pub expr-AwaitExpr : {a b : List Naming} {arg arg' : _} → Renamed Anywhere p.boxed_expr_items a arg arg' b → Renamed Anywhere k.expr_items a (v_expr.AwaitExpr arg) (v_expr.AwaitExpr arg') b
unfolding stmt_items
expr-AwaitExpr one = record { in_field = λ field. Inside field _ refl (one.in_field 0) }

pub expr-ParenExpr : {a b : List Naming} {it it' : _} → Renamed Anywhere k.paren_expr_items a it it' b → Renamed Anywhere k.expr_items a (v_expr.ParenExpr it) (v_expr.ParenExpr it') b
unfolding stmt_items
expr-ParenExpr one = record { in_field = λ field. one.in_field field }

pub expr-PrivateName : {a : List Naming} {it : _} → Renamed Anywhere k.expr_items a (v_expr.PrivateName it) (v_expr.PrivateName it) a
unfolding stmt_items
expr-PrivateName = record { in_field = λ field. Inside field _ refl Nothing }

pub expr-OptChainExpr : {a b : List Naming} {optional base base' : _} → Renamed Anywhere k.opt_chain_base_items a base base' b → Renamed Anywhere k.expr_items a (v_expr.OptChainExpr optional base) (v_expr.OptChainExpr optional base') b
unfolding stmt_items
expr-OptChainExpr one = record { in_field = λ field. Inside field _ refl (one.in_field 1) }

pub option_expr-None : {a : List Naming} → Renamed Anywhere k.option_expr_items a None None a
unfolding stmt_items
option_expr-None = record { in_field = λ field. Nothing }

pub option_expr-Some : {a b : List Naming} {it it' : _} → Renamed Anywhere k.expr_items a it it' b → Renamed Anywhere k.option_expr_items a (Some it) (Some it') b
unfolding stmt_items
option_expr-Some one = record { in_field = λ field. one.in_field field }

pub option_boxed_expr-None : {a : List Naming} → Renamed Anywhere k.option_boxed_expr_items a None None a
unfolding stmt_items
option_boxed_expr-None = record { in_field = λ field. Nothing }

pub option_boxed_expr-Some : {a b : List Naming} {it it' : _} → Renamed Anywhere p.boxed_expr_items a it it' b → Renamed Anywhere k.option_boxed_expr_items a (Some it) (Some it') b
unfolding stmt_items
option_boxed_expr-Some one = record { in_field = λ field. one.in_field field }

pub paren_expr : {a b : List Naming} {old : v_paren_expr.ParenExpr v_expr.Expr} {expr : _} → Renamed Anywhere p.boxed_expr_items a old.expr expr b → Renamed Anywhere k.paren_expr_items a old (record { expr = expr }) b
unfolding stmt_items
paren_expr one = record { in_field = λ field. Inside field _ refl (one.in_field 0) }

pub member_expr : {a b d : List Naming} {old : v_member_expr.MemberExpr v_expr.Expr} {obj prop : _} → Renamed Anywhere p.boxed_expr_items a old.obj obj b → Renamed Anywhere k.member_prop_items b old.prop prop d → Renamed Anywhere k.member_expr_items a old (record { obj = obj; prop = prop }) d
unfolding stmt_items
member_expr one two = record { in_field = λ field. Inside field _ refl (Joined (one.in_field 0) (two.in_field 1)) }

pub super_prop_expr : {a b : List Naming} {old : v_super_prop_expr.SuperPropExpr v_expr.Expr} {prop : _} → Renamed Anywhere k.super_prop_items a old.prop prop b → Renamed Anywhere k.super_prop_expr_items a old (record { prop = prop }) b
unfolding stmt_items
super_prop_expr one = record { in_field = λ field. Inside field _ refl (one.in_field 0) }

pub callee-Super : {a : List Naming} → Renamed Anywhere k.callee_items a v_callee.Super v_callee.Super a
unfolding stmt_items
callee-Super = record { in_field = λ field. Inside field _ refl Nothing }

pub callee-Import : {a : List Naming} → Renamed Anywhere k.callee_items a v_callee.Import v_callee.Import a
unfolding stmt_items
callee-Import = record { in_field = λ field. Inside field _ refl Nothing }

pub callee-Expr : {a b : List Naming} {it it' : _} → Renamed Anywhere p.boxed_expr_items a it it' b → Renamed Anywhere k.callee_items a (v_callee.Expr it) (v_callee.Expr it') b
unfolding stmt_items
callee-Expr one = record { in_field = λ field. one.in_field field }

pub expr_or_spread : {a b : List Naming} {old : v_expr_or_spread.ExprOrSpread v_expr.Expr} {expr : _} → Renamed Anywhere k.expr_items a old.expr expr b → Renamed Anywhere k.expr_or_spread_items a old (record { spread = old.spread; expr = expr }) b
unfolding stmt_items
expr_or_spread one = record { in_field = λ field. Inside field _ refl (one.in_field 1) }

pub expr_or_spread_place-None : {a : List Naming} → Renamed Anywhere k.expr_or_spread_place_items a None None a
unfolding stmt_items
expr_or_spread_place-None = record { in_field = λ field. Hole field }

pub expr_or_spread_place-Some : {a b : List Naming} {it it' : _} → Renamed Anywhere k.expr_or_spread_items a it it' b → Renamed Anywhere k.expr_or_spread_place_items a (Some it) (Some it') b
unfolding stmt_items
expr_or_spread_place-Some one = record { in_field = λ field. one.in_field field }

pub option_each_expr_or_spread-None : {a : List Naming} → Renamed Anywhere k.option_each_expr_or_spread_items a None None a
unfolding stmt_items
option_each_expr_or_spread-None = record { in_field = λ field. Nothing }

pub option_each_expr_or_spread-Some : {a b : List Naming} {it it' : _} → Renamed Anywhere k.each_expr_or_spread_items a it it' b → Renamed Anywhere k.option_each_expr_or_spread_items a (Some it) (Some it') b
unfolding stmt_items
option_each_expr_or_spread-Some one = record { in_field = λ field. one.in_field field }

pub arrow_body-BlockStmt : {a b : List Naming} {it it' : _} → Renamed Anywhere k.block_stmt_items a it it' b → Renamed Anywhere k.arrow_body_items a (v_arrow_body.BlockStmt it) (v_arrow_body.BlockStmt it') b
unfolding stmt_items
arrow_body-BlockStmt one = record { in_field = λ field. one.in_field field }

pub arrow_body-Expr : {a b : List Naming} {it it' : _} → Renamed Anywhere p.boxed_expr_items a it it' b → Renamed Anywhere k.arrow_body_items a (v_arrow_body.Expr it) (v_arrow_body.Expr it') b
unfolding stmt_items
arrow_body-Expr one = record { in_field = λ field. one.in_field field }

pub opt_chain_base-MemberExpr : {a b : List Naming} {it it' : _} → Renamed Anywhere k.member_expr_items a it it' b → Renamed Anywhere k.opt_chain_base_items a (v_opt_chain_base.MemberExpr it) (v_opt_chain_base.MemberExpr it') b
unfolding stmt_items
opt_chain_base-MemberExpr one = record { in_field = λ field. one.in_field field }

pub opt_chain_base-OptCall : {a b : List Naming} {it it' : _} → Renamed Anywhere k.opt_call_items a it it' b → Renamed Anywhere k.opt_chain_base_items a (v_opt_chain_base.OptCall it) (v_opt_chain_base.OptCall it') b
unfolding stmt_items
opt_chain_base-OptCall one = record { in_field = λ field. one.in_field field }

pub opt_call : {a b d : List Naming} {old : v_opt_call.OptCall v_expr.Expr} {callee args : _} → Renamed Anywhere p.boxed_expr_items a old.callee callee b → Renamed Anywhere k.each_expr_or_spread_items b old.args args d → Renamed Anywhere k.opt_call_items a old (record { callee = callee; args = args }) d
unfolding stmt_items
opt_call one two = record { in_field = λ field. Inside field _ refl (Joined (one.in_field 0) (two.in_field 1)) }

pub tpl : {a b : List Naming} {old : v_tpl.Tpl v_expr.Expr} {exprs : _} → Renamed Anywhere k.each_expr_items a old.exprs exprs b → Renamed Anywhere k.tpl_items a old (record { exprs = exprs; quasis = old.quasis }) b
unfolding stmt_items
tpl {old = old} one = record { in_field = λ field. Inside field _ refl (Joined (one.in_field 0) (leaf.tpl_elements Anywhere 1 old.quasis.items)) }

pub block_stmt : {a b : List Naming} {old : v_block_stmt.BlockStmt v_stmt.Stmt} {stmts : _} → Renamed Anywhere k.each_stmt_items a old.stmts stmts b → Renamed Anywhere k.block_stmt_items a old (record { stmts = stmts }) b
unfolding stmt_items
block_stmt one = record { in_field = λ field. Inside field _ refl (one.in_field 0) }

pub option_block_stmt-None : {a : List Naming} → Renamed Anywhere k.option_block_stmt_items a None None a
unfolding stmt_items
option_block_stmt-None = record { in_field = λ field. Nothing }

pub option_block_stmt-Some : {a b : List Naming} {it it' : _} → Renamed Anywhere k.block_stmt_items a it it' b → Renamed Anywhere k.option_block_stmt_items a (Some it) (Some it') b
unfolding stmt_items
option_block_stmt-Some one = record { in_field = λ field. one.in_field field }

pub stmt-BlockStmt : {a b : List Naming} {it it' : _} → Renamed Anywhere k.block_stmt_items a it it' b → Renamed Anywhere k.stmt_items a (v_stmt.BlockStmt it) (v_stmt.BlockStmt it') b
unfolding stmt_items
stmt-BlockStmt one = record { in_field = λ field. one.in_field field }

pub stmt-EmptyStmt : {a : List Naming} → Renamed Anywhere k.stmt_items a v_stmt.EmptyStmt v_stmt.EmptyStmt a
unfolding stmt_items
stmt-EmptyStmt = record { in_field = λ field. Inside field _ refl Nothing }

pub stmt-DebuggerStmt : {a : List Naming} → Renamed Anywhere k.stmt_items a v_stmt.DebuggerStmt v_stmt.DebuggerStmt a
unfolding stmt_items
stmt-DebuggerStmt = record { in_field = λ field. Inside field _ refl Nothing }

pub stmt-WithStmt : {a b d : List Naming} {obj obj' body body' : _} → Renamed Anywhere k.expr_items a obj obj' b → Renamed Anywhere p.boxed_stmt_items b body body' d → Renamed Anywhere k.stmt_items a (v_stmt.WithStmt obj body) (v_stmt.WithStmt obj' body') d
unfolding stmt_items
stmt-WithStmt one two = record { in_field = λ field. Inside field _ refl (Joined (one.in_field 0) (two.in_field 1)) }

pub stmt-ReturnStmt : {a b : List Naming} {arg arg' : _} → Renamed Anywhere k.option_expr_items a arg arg' b → Renamed Anywhere k.stmt_items a (v_stmt.ReturnStmt arg) (v_stmt.ReturnStmt arg') b
unfolding stmt_items
stmt-ReturnStmt one = record { in_field = λ field. Inside field _ refl (one.in_field 0) }

pub stmt-LabeledStmt : {a b : List Naming} {label body body' : _} → Renamed Anywhere p.boxed_stmt_items a body body' b → Renamed Anywhere k.stmt_items a (v_stmt.LabeledStmt label body) (v_stmt.LabeledStmt label body') b
unfolding stmt_items
stmt-LabeledStmt one = record { in_field = λ field. Inside field _ refl (Joined (Inside 0 _ refl Nothing) (one.in_field 1)) }

pub stmt-BreakStmt : {a : List Naming} {label : _} → Renamed Anywhere k.stmt_items a (v_stmt.BreakStmt label) (v_stmt.BreakStmt label) a
unfolding stmt_items
stmt-BreakStmt {label = label} = record { in_field = λ field. Inside field _ refl (leaf.label label 0) }

pub stmt-ContinueStmt : {a : List Naming} {label : _} → Renamed Anywhere k.stmt_items a (v_stmt.ContinueStmt label) (v_stmt.ContinueStmt label) a
unfolding stmt_items
stmt-ContinueStmt {label = label} = record { in_field = λ field. Inside field _ refl (leaf.label label 0) }

pub stmt-IfStmt : {a b d e : List Naming} {test test' cons cons' alt alt' : _} → Renamed Anywhere k.expr_items a test test' b → Renamed Anywhere p.boxed_stmt_items b cons cons' d → Renamed Anywhere k.option_boxed_stmt_items d alt alt' e → Renamed Anywhere k.stmt_items a (v_stmt.IfStmt test cons alt) (v_stmt.IfStmt test' cons' alt') e
unfolding stmt_items
stmt-IfStmt one two three = record { in_field = λ field. Inside field _ refl (Joined (one.in_field 0) (Joined (two.in_field 1) (three.in_field 2))) }

pub stmt-SwitchStmt : {a b d : List Naming} {discriminant discriminant' cases cases' : _} → Renamed Anywhere k.expr_items a discriminant discriminant' b → Renamed Anywhere k.each_switch_case_items b cases cases' d → Renamed Anywhere k.stmt_items a (v_stmt.SwitchStmt discriminant cases) (v_stmt.SwitchStmt discriminant' cases') d
unfolding stmt_items
stmt-SwitchStmt one two = record { in_field = λ field. Inside field _ refl (Joined (one.in_field 0) (two.in_field 1)) }

pub stmt-ThrowStmt : {a b : List Naming} {arg arg' : _} → Renamed Anywhere k.expr_items a arg arg' b → Renamed Anywhere k.stmt_items a (v_stmt.ThrowStmt arg) (v_stmt.ThrowStmt arg') b
unfolding stmt_items
stmt-ThrowStmt one = record { in_field = λ field. Inside field _ refl (one.in_field 0) }

pub stmt-TryStmt : {a b d e : List Naming} {block block' handler handler' finalizer finalizer' : _} → Renamed Anywhere k.block_stmt_items a block block' b → Renamed Anywhere k.option_catch_clause_items b handler handler' d → Renamed Anywhere k.option_block_stmt_items d finalizer finalizer' e → Renamed Anywhere k.stmt_items a (v_stmt.TryStmt block handler finalizer) (v_stmt.TryStmt block' handler' finalizer') e
unfolding stmt_items
stmt-TryStmt one two three = record { in_field = λ field. Inside field _ refl (Joined (one.in_field 0) (Joined (two.in_field 1) (three.in_field 2))) }

pub stmt-WhileStmt : {a b d : List Naming} {test test' body body' : _} → Renamed Anywhere k.expr_items a test test' b → Renamed Anywhere p.boxed_stmt_items b body body' d → Renamed Anywhere k.stmt_items a (v_stmt.WhileStmt test body) (v_stmt.WhileStmt test' body') d
unfolding stmt_items
stmt-WhileStmt one two = record { in_field = λ field. Inside field _ refl (Joined (one.in_field 0) (two.in_field 1)) }

pub stmt-DoWhileStmt : {a b d : List Naming} {body body' test test' : _} → Renamed Anywhere p.boxed_stmt_items a body body' b → Renamed Anywhere k.expr_items b test test' d → Renamed Anywhere k.stmt_items a (v_stmt.DoWhileStmt body test) (v_stmt.DoWhileStmt body' test') d
unfolding stmt_items
stmt-DoWhileStmt one two = record { in_field = λ field. Inside field _ refl (Joined (one.in_field 0) (two.in_field 1)) }

pub stmt-ForStmt : {a b d e f : List Naming} {init init' test test' update update' body body' : _} → Renamed Anywhere k.option_for_init_items a init init' b → Renamed Anywhere k.option_expr_items b test test' d → Renamed Anywhere k.option_expr_items d update update' e → Renamed Anywhere p.boxed_stmt_items e body body' f → Renamed Anywhere k.stmt_items a (v_stmt.ForStmt init test update body) (v_stmt.ForStmt init' test' update' body') f
unfolding stmt_items
stmt-ForStmt one two three four = record { in_field = λ field. Inside field _ refl (Joined (one.in_field 0) (Joined (two.in_field 1) (Joined (three.in_field 2) (four.in_field 3)))) }

pub stmt-ForInStmt : {a b d e : List Naming} {left left' right right' body body' : _} → Renamed Anywhere k.for_head_items a left left' b → Renamed Anywhere k.expr_items b right right' d → Renamed Anywhere p.boxed_stmt_items d body body' e → Renamed Anywhere k.stmt_items a (v_stmt.ForInStmt left right body) (v_stmt.ForInStmt left' right' body') e
unfolding stmt_items
stmt-ForInStmt one two three = record { in_field = λ field. Inside field _ refl (Joined (one.in_field 0) (Joined (two.in_field 1) (three.in_field 2))) }

pub stmt-ForOfStmt : {a b d e : List Naming} {is_await left left' right right' body body' : _} → Renamed Anywhere k.for_head_items a left left' b → Renamed Anywhere k.expr_items b right right' d → Renamed Anywhere p.boxed_stmt_items d body body' e → Renamed Anywhere k.stmt_items a (v_stmt.ForOfStmt is_await left right body) (v_stmt.ForOfStmt is_await left' right' body') e
unfolding stmt_items
stmt-ForOfStmt one two three = record { in_field = λ field. Inside field _ refl (Joined (one.in_field 1) (Joined (two.in_field 2) (three.in_field 3))) }

pub stmt-Decl : {a b : List Naming} {it it' : _} → Renamed Anywhere k.decl_items a it it' b → Renamed Anywhere k.stmt_items a (v_stmt.Decl it) (v_stmt.Decl it') b
unfolding stmt_items
stmt-Decl one = record { in_field = λ field. one.in_field field }

pub stmt-ExprStmt : {a b : List Naming} {expr expr' : _} → Renamed Anywhere k.expr_items a expr expr' b → Renamed Anywhere k.stmt_items a (v_stmt.ExprStmt expr) (v_stmt.ExprStmt expr') b
unfolding stmt_items
stmt-ExprStmt one = record { in_field = λ field. Inside field _ refl (one.in_field 0) }

pub option_boxed_stmt-None : {a : List Naming} → Renamed Anywhere k.option_boxed_stmt_items a None None a
unfolding stmt_items
option_boxed_stmt-None = record { in_field = λ field. Nothing }

pub option_boxed_stmt-Some : {a b : List Naming} {it it' : _} → Renamed Anywhere p.boxed_stmt_items a it it' b → Renamed Anywhere k.option_boxed_stmt_items a (Some it) (Some it') b
unfolding stmt_items
option_boxed_stmt-Some one = record { in_field = λ field. one.in_field field }

pub switch_case : {a b d : List Naming} {old new : _} → Renamed Anywhere k.option_expr_items a (v_switch_case.out-SwitchCase old).test (v_switch_case.out-SwitchCase new).test b → Renamed Anywhere k.each_stmt_items b (v_switch_case.out-SwitchCase old).cons (v_switch_case.out-SwitchCase new).cons d → Renamed Anywhere k.switch_case_items a old new d
unfolding stmt_items
switch_case one two = record { in_field = λ field. Inside field _ refl (Joined (one.in_field 0) (two.in_field 1)) }

pub catch_clause : {a b d : List Naming} {old new : _} → RenamedPattern k.option_pat_items a (v_catch_clause.out-CatchClause old).param (v_catch_clause.out-CatchClause new).param b → Renamed Anywhere k.block_stmt_items b (v_catch_clause.out-CatchClause old).body (v_catch_clause.out-CatchClause new).body d → Renamed Anywhere k.catch_clause_items a old new d
unfolding stmt_items
catch_clause one two = record { in_field = λ field. Inside field _ refl (Joined ((one r.Binding refl).in_field 0) (two.in_field 1)) }

pub option_catch_clause-None : {a : List Naming} → Renamed Anywhere k.option_catch_clause_items a None None a
unfolding stmt_items
option_catch_clause-None = record { in_field = λ field. Nothing }

pub option_catch_clause-Some : {a b : List Naming} {it it' : _} → Renamed Anywhere k.catch_clause_items a it it' b → Renamed Anywhere k.option_catch_clause_items a (Some it) (Some it') b
unfolding stmt_items
option_catch_clause-Some one = record { in_field = λ field. one.in_field field }

pub for_init-VarDecl : {a b : List Naming} {it it' : _} → Renamed Anywhere k.var_decl_items a it it' b → Renamed Anywhere k.for_init_items a (v_for_init.VarDecl it) (v_for_init.VarDecl it') b
unfolding stmt_items
for_init-VarDecl one = record { in_field = λ field. one.in_field field }

pub for_init-Expr : {a b : List Naming} {it it' : _} → Renamed Anywhere k.expr_items a it it' b → Renamed Anywhere k.for_init_items a (v_for_init.Expr it) (v_for_init.Expr it') b
unfolding stmt_items
for_init-Expr one = record { in_field = λ field. one.in_field field }

pub option_for_init-None : {a : List Naming} → Renamed Anywhere k.option_for_init_items a None None a
unfolding stmt_items
option_for_init-None = record { in_field = λ field. Nothing }

pub option_for_init-Some : {a b : List Naming} {it it' : _} → Renamed Anywhere k.for_init_items a it it' b → Renamed Anywhere k.option_for_init_items a (Some it) (Some it') b
unfolding stmt_items
option_for_init-Some one = record { in_field = λ field. one.in_field field }

pub for_head-VarDecl : {a b : List Naming} {it it' : _} → Renamed Anywhere k.var_decl_items a it it' b → Renamed Anywhere k.for_head_items a (v_for_head.VarDecl it) (v_for_head.VarDecl it') b
unfolding stmt_items
for_head-VarDecl one = record { in_field = λ field. one.in_field field }

pub for_head-Pat : {a b : List Naming} {it it' : _} → RenamedPattern k.pat_items a it it' b → Renamed Anywhere k.for_head_items a (v_for_head.Pat it) (v_for_head.Pat it') b
unfolding stmt_items
for_head-Pat one = record { in_field = λ field. (one r.Reference refl).in_field field }

pub decl-ClassDecl : {a b d : List Naming} {ident ident' «class» class' : _} → Takes a ident ident' b → Renamed Anywhere k.class_items b «class» class' d → Renamed Anywhere k.decl_items a (v_decl.ClassDecl ident «class») (v_decl.ClassDecl ident' class') d
unfolding stmt_items
decl-ClassDecl one two = record { in_field = λ field. Inside field _ refl (Joined ((named one r.Binding refl).in_field 0) (two.in_field 1)) }

pub decl-FnDecl : {a b d : List Naming} {ident ident' function function' : _} → Takes a ident ident' b → Renamed Anywhere k.function_items b function function' d → Renamed Anywhere k.decl_items a (v_decl.FnDecl ident function) (v_decl.FnDecl ident' function') d
unfolding stmt_items
decl-FnDecl one two = record { in_field = λ field. Inside field _ refl (Joined ((named one r.Binding refl).in_field 0) (two.in_field 1)) }

pub decl-VarDecl : {a b : List Naming} {it it' : _} → Renamed Anywhere k.var_decl_items a it it' b → Renamed Anywhere k.decl_items a (v_decl.VarDecl it) (v_decl.VarDecl it') b
unfolding stmt_items
decl-VarDecl one = record { in_field = λ field. one.in_field field }

pub var_decl : {a b : List Naming} {old : v_var_decl.VarDecl v_var_declarator.VarDeclarator} {decls : _} → Renamed Anywhere k.each_var_declarator_items a old.decls decls b → Renamed Anywhere k.var_decl_items a old (record { kind = old.kind; decls = decls; meta = old.meta }) b
unfolding stmt_items
var_decl one = record { in_field = λ field. Inside field _ refl (one.in_field 1) }

pub var_declarator : {a b d : List Naming} {old new : _} → RenamedPattern k.pat_items a (v_var_declarator.out-VarDeclarator old).name (v_var_declarator.out-VarDeclarator new).name b → Renamed Anywhere k.option_expr_items b (v_var_declarator.out-VarDeclarator old).init (v_var_declarator.out-VarDeclarator new).init d → Renamed Anywhere k.var_declarator_items a old new d
unfolding stmt_items
var_declarator one two = record { in_field = λ field. Inside field _ refl (Joined ((one r.Binding refl).in_field 0) (two.in_field 1)) }

pub prop_or_spread-SpreadElement : {a b : List Naming} {expr expr' : _} → Renamed Anywhere k.expr_items a expr expr' b → Renamed InObject k.prop_or_spread_items a (v_prop_or_spread.SpreadElement expr) (v_prop_or_spread.SpreadElement expr') b
unfolding stmt_items
prop_or_spread-SpreadElement one = record { in_field = λ field. Inside field _ refl (one.in_field 0) }

pub prop_or_spread-Prop : {a b : List Naming} {it it' : _} → Renamed InObject k.prop_items a it it' b → Renamed InObject k.prop_or_spread_items a (v_prop_or_spread.Prop it) (v_prop_or_spread.Prop it') b
unfolding stmt_items
prop_or_spread-Prop one = record { in_field = λ field. one.in_field field }

pub prop-KeyValueProp : {a b : List Naming} {it it' : _} → Renamed InObject k.key_value_prop_items a it it' b → Renamed InObject k.prop_items a (v_prop.KeyValueProp it) (v_prop.KeyValueProp it') b
unfolding stmt_items
prop-KeyValueProp one = record { in_field = λ field. one.in_field field }

pub prop-GetterProp : {a b d : List Naming} {key key' body body' : _} → Renamed Anywhere k.prop_name_items a key key' b → Renamed Anywhere k.block_stmt_items b body body' d → Renamed InObject k.prop_items a (v_prop.GetterProp key body) (v_prop.GetterProp key' body') d
unfolding stmt_items
prop-GetterProp one two = record { in_field = λ field. Inside field _ refl (Joined (one.in_field 0) (two.in_field 1)) }

pub prop-SetterProp : {a b d e : List Naming} {key key' param param' body body' : _} → Renamed Anywhere k.prop_name_items a key key' b → RenamedPattern k.pat_items b param param' d → Renamed Anywhere k.block_stmt_items d body body' e → Renamed InObject k.prop_items a (v_prop.SetterProp key param body) (v_prop.SetterProp key' param' body') e
unfolding stmt_items
prop-SetterProp one two three = record { in_field = λ field. Inside field _ refl (Joined (one.in_field 0) (Joined ((two r.Binding refl).in_field 1) (three.in_field 2))) }

pub prop-MethodProp : {a b d : List Naming} {key key' function function' : _} → Renamed Anywhere k.prop_name_items a key key' b → Renamed Anywhere k.function_items b function function' d → Renamed InObject k.prop_items a (v_prop.MethodProp key function) (v_prop.MethodProp key' function') d
unfolding stmt_items
prop-MethodProp one two = record { in_field = λ field. Inside field _ refl (Joined (one.in_field 0) (two.in_field 1)) }

pub key_value_prop : {a b d : List Naming} {old : v_key_value_prop.KeyValueProp v_expr.Expr} {key value : _} → Renamed Anywhere k.prop_name_items a old.key key b → Renamed Anywhere k.expr_items b old.value value d → Renamed InObject k.key_value_prop_items a old (record { key = key; value = value }) d
unfolding stmt_items
key_value_prop one two = record { in_field = λ field. Inside field _ refl (Joined (one.in_field 0) (two.in_field 1)) }

pub computed_prop_name : {a b : List Naming} {old : v_computed_prop_name.ComputedPropName v_expr.Expr} {expr : _} → Renamed Anywhere p.boxed_expr_items a old.expr expr b → Renamed Anywhere k.computed_prop_name_items a old (record { expr = expr }) b
unfolding stmt_items
computed_prop_name one = record { in_field = λ field. Inside field _ refl (one.in_field 0) }

pub prop_name-IdentName : {a : List Naming} {it : _} → Renamed Anywhere k.prop_name_items a (v_prop_name.IdentName it) (v_prop_name.IdentName it) a
unfolding stmt_items
prop_name-IdentName = record { in_field = λ field. Inside field _ refl Nothing }

pub prop_name-Str : {a : List Naming} {it : _} → Renamed Anywhere k.prop_name_items a (v_prop_name.Str it) (v_prop_name.Str it) a
unfolding stmt_items
prop_name-Str = record { in_field = λ field. Inside field _ refl Nothing }

pub prop_name-Number : {a : List Naming} {it : _} → Renamed Anywhere k.prop_name_items a (v_prop_name.Number it) (v_prop_name.Number it) a
unfolding stmt_items
prop_name-Number = record { in_field = λ field. Inside field _ refl Nothing }

pub prop_name-BigInt : {a : List Naming} {it : _} → Renamed Anywhere k.prop_name_items a (v_prop_name.BigInt it) (v_prop_name.BigInt it) a
unfolding stmt_items
prop_name-BigInt = record { in_field = λ field. Inside field _ refl Nothing }

pub prop_name-ComputedPropName : {a b : List Naming} {it it' : _} → Renamed Anywhere k.computed_prop_name_items a it it' b → Renamed Anywhere k.prop_name_items a (v_prop_name.ComputedPropName it) (v_prop_name.ComputedPropName it') b
unfolding stmt_items
prop_name-ComputedPropName one = record { in_field = λ field. one.in_field field }

pub member_prop-IdentName : {a : List Naming} {it : _} → Renamed Anywhere k.member_prop_items a (v_member_prop.IdentName it) (v_member_prop.IdentName it) a
unfolding stmt_items
member_prop-IdentName = record { in_field = λ field. Inside field _ refl Nothing }

pub member_prop-PrivateName : {a : List Naming} {it : _} → Renamed Anywhere k.member_prop_items a (v_member_prop.PrivateName it) (v_member_prop.PrivateName it) a
unfolding stmt_items
member_prop-PrivateName = record { in_field = λ field. Inside field _ refl Nothing }

pub member_prop-ComputedPropName : {a b : List Naming} {it it' : _} → Renamed Anywhere k.computed_prop_name_items a it it' b → Renamed Anywhere k.member_prop_items a (v_member_prop.ComputedPropName it) (v_member_prop.ComputedPropName it') b
unfolding stmt_items
member_prop-ComputedPropName one = record { in_field = λ field. one.in_field field }

pub super_prop-IdentName : {a : List Naming} {it : _} → Renamed Anywhere k.super_prop_items a (v_super_prop.IdentName it) (v_super_prop.IdentName it) a
unfolding stmt_items
super_prop-IdentName = record { in_field = λ field. Inside field _ refl Nothing }

pub super_prop-ComputedPropName : {a b : List Naming} {it it' : _} → Renamed Anywhere k.computed_prop_name_items a it it' b → Renamed Anywhere k.super_prop_items a (v_super_prop.ComputedPropName it) (v_super_prop.ComputedPropName it') b
unfolding stmt_items
super_prop-ComputedPropName one = record { in_field = λ field. one.in_field field }

pub pat-BindingIdent : {a b : List Naming} {it it' : v_binding_ident.BindingIdent} → Takes a it.id it'.id b → RenamedPattern k.pat_items a (v_pat.BindingIdent it) (v_pat.BindingIdent it') b
unfolding stmt_items
pat-BindingIdent one = λ role occurs. record { in_field = λ field. Inside field h.BindingIdent refl ((named one role occurs).in_field 0) }

pub pat-ArrayPat : {a b : List Naming} {it it' : _} → RenamedPattern k.array_pat_items a it it' b → RenamedPattern k.pat_items a (v_pat.ArrayPat it) (v_pat.ArrayPat it') b
unfolding stmt_items
pat-ArrayPat one = λ role occurs. record { in_field = λ field. (one role occurs).in_field field }

pub pat-RestPat : {a b : List Naming} {it it' : _} → RenamedPattern k.rest_pat_items a it it' b → RenamedPattern k.pat_items a (v_pat.RestPat it) (v_pat.RestPat it') b
unfolding stmt_items
pat-RestPat one = λ role occurs. record { in_field = λ field. (one role occurs).in_field field }

pub pat-ObjectPat : {a b : List Naming} {it it' : _} → RenamedPattern k.object_pat_items a it it' b → RenamedPattern k.pat_items a (v_pat.ObjectPat it) (v_pat.ObjectPat it') b
unfolding stmt_items
pat-ObjectPat one = λ role occurs. record { in_field = λ field. (one role occurs).in_field field }

pub pat-AssignPat : {a b d : List Naming} {left left' right right' : _} → RenamedPattern p.boxed_pat_items a left left' b → Renamed Anywhere p.boxed_expr_items b right right' d → RenamedPattern k.pat_items a (v_pat.AssignPat left right) (v_pat.AssignPat left' right') d
unfolding stmt_items
pat-AssignPat one two = λ role occurs. record { in_field = λ field. Inside field _ refl (Joined ((one role occurs).in_field 0) (two.in_field 1)) }

pub pat-Expr : {a b : List Naming} {it it' : _} → Renamed Anywhere p.boxed_expr_items a it it' b → RenamedPattern k.pat_items a (v_pat.Expr it) (v_pat.Expr it') b
unfolding stmt_items
pat-Expr one = λ role occurs. record { in_field = λ field. one.in_field field }

pub option_pat-None : {a : List Naming} → RenamedPattern k.option_pat_items a None None a
unfolding stmt_items
option_pat-None = λ role occurs. record { in_field = λ field. Nothing }

pub option_pat-Some : {a b : List Naming} {it it' : _} → RenamedPattern k.pat_items a it it' b → RenamedPattern k.option_pat_items a (Some it) (Some it') b
unfolding stmt_items
option_pat-Some one = λ role occurs. record { in_field = λ field. (one role occurs).in_field field }

pub pat_place-None : {a : List Naming} → RenamedPattern k.pat_place_items a None None a
unfolding stmt_items
pat_place-None = λ role occurs. record { in_field = λ field. Hole field }

pub pat_place-Some : {a b : List Naming} {it it' : _} → RenamedPattern k.pat_items a it it' b → RenamedPattern k.pat_place_items a (Some it) (Some it') b
unfolding stmt_items
pat_place-Some one = λ role occurs. record { in_field = λ field. (one role occurs).in_field field }

pub array_pat : {a b : List Naming} {old : v_array_pat.ArrayPat v_pat.Pat} {elems : _} → RenamedPattern k.each_option_pat_items a old.elems elems b → RenamedPattern k.array_pat_items a old (record { elems = elems }) b
unfolding stmt_items
array_pat one = λ role occurs. record { in_field = λ field. Inside field _ refl ((one role occurs).in_field 0) }

pub rest_pat : {a b : List Naming} {old : v_rest_pat.RestPat v_pat.Pat} {arg : _} → RenamedPattern p.boxed_pat_items a old.arg arg b → RenamedPattern k.rest_pat_items a old (record { arg = arg }) b
unfolding stmt_items
rest_pat one = λ role occurs. record { in_field = λ field. Inside field _ refl ((one role occurs).in_field 0) }

pub object_pat : {a b : List Naming} {old : v_object_pat.ObjectPat v_object_pat_prop.ObjectPatProp} {props : _} → RenamedPattern k.each_object_pat_prop_items a old.props props b → RenamedPattern k.object_pat_items a old (record { props = props }) b
unfolding stmt_items
object_pat one = λ role occurs. record { in_field = λ field. Inside field _ refl ((one role occurs).in_field 0) }

pub object_pat_prop-KeyValuePatProp : {a b d : List Naming} {key key' value value' : _} → Renamed Anywhere k.prop_name_items a key key' b → RenamedPattern k.pat_items b value value' d → RenamedPattern k.object_pat_prop_items a (v_object_pat_prop.KeyValuePatProp key value) (v_object_pat_prop.KeyValuePatProp key' value') d
unfolding stmt_items
object_pat_prop-KeyValuePatProp one two = λ role occurs. record { in_field = λ field. Inside field _ refl (Joined (one.in_field 0) ((two role occurs).in_field 1)) }

pub object_pat_prop-RestPat : {a b : List Naming} {it it' : _} → RenamedPattern k.rest_pat_items a it it' b → RenamedPattern k.object_pat_prop_items a (v_object_pat_prop.RestPat it) (v_object_pat_prop.RestPat it') b
unfolding stmt_items
object_pat_prop-RestPat one = λ role occurs. record { in_field = λ field. (one role occurs).in_field field }

pub assign_target-BindingIdent : {a b : List Naming} {it it' : v_binding_ident.BindingIdent} → Takes a it.id it'.id b → Renamed Anywhere k.assign_target_items a (v_assign_target.BindingIdent it) (v_assign_target.BindingIdent it') b
unfolding stmt_items
assign_target-BindingIdent one = record { in_field = λ field. Inside field h.BindingIdent refl ((named one r.Reference refl).in_field 0) }

pub assign_target-MemberExpr : {a b : List Naming} {it it' : _} → Renamed Anywhere k.member_expr_items a it it' b → Renamed Anywhere k.assign_target_items a (v_assign_target.MemberExpr it) (v_assign_target.MemberExpr it') b
unfolding stmt_items
assign_target-MemberExpr one = record { in_field = λ field. one.in_field field }

pub assign_target-SuperPropExpr : {a b : List Naming} {it it' : _} → Renamed Anywhere k.super_prop_expr_items a it it' b → Renamed Anywhere k.assign_target_items a (v_assign_target.SuperPropExpr it) (v_assign_target.SuperPropExpr it') b
unfolding stmt_items
assign_target-SuperPropExpr one = record { in_field = λ field. one.in_field field }

pub assign_target-ParenExpr : {a b : List Naming} {it it' : _} → Renamed Anywhere k.paren_expr_items a it it' b → Renamed Anywhere k.assign_target_items a (v_assign_target.ParenExpr it) (v_assign_target.ParenExpr it') b
unfolding stmt_items
assign_target-ParenExpr one = record { in_field = λ field. one.in_field field }

pub assign_target-ArrayPat : {a b : List Naming} {it it' : _} → RenamedPattern k.array_pat_items a it it' b → Renamed Anywhere k.assign_target_items a (v_assign_target.ArrayPat it) (v_assign_target.ArrayPat it') b
unfolding stmt_items
assign_target-ArrayPat one = record { in_field = λ field. (one r.Reference refl).in_field field }

pub assign_target-ObjectPat : {a b : List Naming} {it it' : _} → RenamedPattern k.object_pat_items a it it' b → Renamed Anywhere k.assign_target_items a (v_assign_target.ObjectPat it) (v_assign_target.ObjectPat it') b
unfolding stmt_items
assign_target-ObjectPat one = record { in_field = λ field. (one r.Reference refl).in_field field }

pub function : {a b d : List Naming} {old new : _} → Renamed Anywhere k.each_param_items a (v_function.out-Function old).params (v_function.out-Function new).params b → Renamed Anywhere k.block_stmt_items b (v_function.out-Function old).body (v_function.out-Function new).body d → (v_function.out-Function new).is_generator ≡ (v_function.out-Function old).is_generator → (v_function.out-Function new).is_async ≡ (v_function.out-Function old).is_async → Renamed Anywhere k.function_items a old new d
unfolding stmt_items
function {a = a} {d = d} {old = old} {new = new} one two generator async = record {
  in_field = λ field.
      let inside : List Item = k.each_param_items 0 (v_function.out-Function new).params ++ k.block_stmt_items 1 (v_function.out-Function new).body in
      let head : k.node field (h.Function (v_function.out-Function old).is_generator (v_function.out-Function old).is_async) inside ≡ k.function_items field new = ap (λ it. k.node field (h.Function it (v_function.out-Function old).is_async) inside) (sym generator) ∙ ap (λ it. k.node field (h.Function (v_function.out-Function new).is_generator it) inside) (sym async) in
      subst (λ list. Renames Anywhere a (k.function_items field old) list d) head (Inside field _ refl (Joined (one.in_field 0) (two.in_field 1)));
}

pub param : {a b : List Naming} {old : v_param.Param v_pat.Pat} {pat : _} → RenamedPattern k.pat_items a old.pat pat b → Renamed Anywhere k.param_items a old (record { pat = pat }) b
unfolding stmt_items
param one = record { in_field = λ field. Inside field _ refl ((one r.Binding refl).in_field 0) }

pub class : {a b d : List Naming} {old new : _} → Renamed Anywhere k.option_boxed_expr_items a (v_class.out-Class old).super_class (v_class.out-Class new).super_class b → Renamed Anywhere k.each_class_member_items b (v_class.out-Class old).body (v_class.out-Class new).body d → Renamed Anywhere k.class_items a old new d
unfolding stmt_items
class one two = record { in_field = λ field. Inside field _ refl (Joined (one.in_field 0) (two.in_field 1)) }

pub class_member-Constructor : {a b d : List Naming} {params params' body body' : _} → Renamed Anywhere k.each_param_items a params params' b → Renamed Anywhere k.block_stmt_items b body body' d → Renamed Anywhere k.class_member_items a (v_class_member.Constructor params body) (v_class_member.Constructor params' body') d
unfolding stmt_items
class_member-Constructor one two = record { in_field = λ field. Inside field _ refl (Joined (one.in_field 0) (two.in_field 1)) }

pub class_member-ClassMethod : {a b d : List Naming} {key key' function function' kind is_static : _} → Renamed Anywhere k.prop_name_items a key key' b → Renamed Anywhere k.function_items b function function' d → Renamed Anywhere k.class_member_items a (v_class_member.ClassMethod key function kind is_static) (v_class_member.ClassMethod key' function' kind is_static) d
unfolding stmt_items
class_member-ClassMethod one two = record { in_field = λ field. Inside field _ refl (Joined (one.in_field 0) (two.in_field 1)) }

pub class_member-PrivateMethod : {a b : List Naming} {key function function' kind is_static : _} → Renamed Anywhere k.function_items a function function' b → Renamed Anywhere k.class_member_items a (v_class_member.PrivateMethod key function kind is_static) (v_class_member.PrivateMethod key function' kind is_static) b
unfolding stmt_items
class_member-PrivateMethod one = record { in_field = λ field. Inside field _ refl (Joined (Inside 0 _ refl Nothing) (one.in_field 1)) }

pub class_member-ClassProp : {a b d : List Naming} {key key' value value' is_static : _} → Renamed Anywhere k.prop_name_items a key key' b → Renamed Anywhere k.option_expr_items b value value' d → Renamed Anywhere k.class_member_items a (v_class_member.ClassProp key value is_static) (v_class_member.ClassProp key' value' is_static) d
unfolding stmt_items
class_member-ClassProp one two = record { in_field = λ field. Inside field _ refl (Joined (one.in_field 0) (two.in_field 1)) }

pub class_member-PrivateProp : {a b : List Naming} {key value value' is_static : _} → Renamed Anywhere k.option_expr_items a value value' b → Renamed Anywhere k.class_member_items a (v_class_member.PrivateProp key value is_static) (v_class_member.PrivateProp key value' is_static) b
unfolding stmt_items
class_member-PrivateProp one = record { in_field = λ field. Inside field _ refl (Joined (Inside 0 _ refl Nothing) (one.in_field 1)) }

pub class_member-StaticBlock : {a b : List Naming} {body body' : _} → Renamed Anywhere k.block_stmt_items a body body' b → Renamed Anywhere k.class_member_items a (v_class_member.StaticBlock body) (v_class_member.StaticBlock body') b
unfolding stmt_items
class_member-StaticBlock one = record { in_field = λ field. Inside field _ refl (one.in_field 0) }

pub class_member-EmptyStmt : {a : List Naming} → Renamed Anywhere k.class_member_items a v_class_member.EmptyStmt v_class_member.EmptyStmt a
unfolding stmt_items
class_member-EmptyStmt = record { in_field = λ field. Inside field _ refl Nothing }
