-- Each node is renamed where its parts are, and each list where its elements are.
use Rattle.std.proofs.Common.{refl, sym, ap, ◌∙◌}
use Rattle.bundle_tree_ast.specs.declared.expr.ArrowBody as v_arrow_body
use Rattle.bundle_tree_ast.specs.declared.pat.AssignTarget as v_assign_target
use Rattle.bundle_tree_ast.specs.declared.class.ClassMember as v_class_member
use Rattle.bundle_tree_ast.specs.declared.decl.Decl as v_decl
use Rattle.bundle_tree_ast.specs.declared.expr.Expr as v_expr
use Rattle.bundle_tree_ast.specs.declared.stmt.ForHead as v_for_head
use Rattle.bundle_tree_ast.specs.declared.stmt.ForInit as v_for_init
use Rattle.bundle_tree_ast.specs.declared.pat.ObjectPatProp as v_object_pat_prop
use Rattle.bundle_tree_ast.specs.declared.pat.Pat as v_pat
use Rattle.bundle_tree_ast.specs.declared.prop.Prop as v_prop
use Rattle.bundle_tree_ast.specs.declared.prop.PropOrSpread as v_prop_or_spread
use Rattle.bundle_tree_ast.specs.declared.stmt.Stmt as v_stmt
use Rattle.bundle_tree_listed.proofs.Rows as row
use Rattle.bundle_tree_listed.specs.Tree.{class_member_items, each_class_member_items, each_expr_items, each_expr_or_spread_items, each_object_pat_prop_items, each_option_expr_or_spread_items, each_option_pat_items, each_param_items, each_pat_items, each_prop_or_spread_items, each_stmt_items, each_switch_case_items, each_var_declarator_items, expr_items, expr_or_spread_items, expr_or_spread_place_items, object_pat_prop_items, param_items, pat_items, pat_place_items, prop_or_spread_items, stmt_items, switch_case_items, var_declarator_items}
use Rattle.bundle_rules.specs.Rebuilds.{plain_key}
use Rattle.bundle_tree_places.specs.Edits.{Anywhere, InObject}
use Rattle.bundle_tree_rename.specs.Parts.{with_default_items}
use Rattle.bundle_tree_rename.proofs.Lists.{if_ok, if_both, none_so_far, visited, one_more, all_of_them}
use Rattle.bundle_tree_rename.proofs.Rules as rule
use Rattle.bundle_tree_rename.proofs.Spelling.{pattern-spelled_out, pattern-stays}
use Rattle.bundle_tree_rename.proofs.rename.Rename.+rename.Goals as goal

pub expr-returns-in-ThisExpr : goal.expr-returns-in-ThisExpr
expr-returns-in-ThisExpr t c = rw c.in-ThisExpr.is rule.expr-ThisExpr

pub expr-returns-in-ArrayLit : goal.expr-returns-in-ArrayLit
unfolding v_expr.out-Expr denote.Hole.Carrier.out
expr-returns-in-ArrayLit t c = rw c.in-ArrayLit.is (if_ok c.each_option_expr_or_spread.result rule.expr-ArrayLit (rw c.in-ArrayLit.elems-is at c.each_option_expr_or_spread.ensures))

pub expr-returns-in-ObjectLit : goal.expr-returns-in-ObjectLit
unfolding v_expr.out-Expr denote.Hole.Carrier.out
expr-returns-in-ObjectLit t c = rw c.in-ObjectLit.is (if_ok c.each_prop_or_spread.result rule.expr-ObjectLit (rw c.in-ObjectLit.props-is at c.each_prop_or_spread.ensures))

pub expr-returns-in_ok-option_ident-in-FnExpr : goal.expr-returns-in_ok-option_ident-in-FnExpr
unfolding v_expr.out-Expr denote.Hole.Carrier.out
expr-returns-in_ok-option_ident-in-FnExpr t c = rw c.in-FnExpr.is (if_ok c.function.result (rule.expr-FnExpr (rw c.in-FnExpr.ident-is at c.in_ok-option_ident-in-FnExpr.ensures)) (rw c.in-FnExpr.function-is at c.function.ensures))

pub expr-returns-in-UnaryExpr : goal.expr-returns-in-UnaryExpr
unfolding v_expr.out-Expr denote.Hole.Carrier.out
expr-returns-in-UnaryExpr t c = rw c.in-UnaryExpr.is (if_ok c.boxed_expr.result rule.expr-UnaryExpr (rw c.in-UnaryExpr.arg-is at c.boxed_expr.ensures))

pub expr-returns-in-UpdateExpr : goal.expr-returns-in-UpdateExpr
unfolding v_expr.out-Expr denote.Hole.Carrier.out
expr-returns-in-UpdateExpr t c = rw c.in-UpdateExpr.is (if_ok c.boxed_expr-in-UpdateExpr.result rule.expr-UpdateExpr (rw c.in-UpdateExpr.arg-is at c.boxed_expr-in-UpdateExpr.ensures))

pub expr-returns-in_ok-boxed_expr-in-BinExpr : goal.expr-returns-in_ok-boxed_expr-in-BinExpr
unfolding v_expr.out-Expr denote.Hole.Carrier.out
expr-returns-in_ok-boxed_expr-in-BinExpr t c = rw c.in-BinExpr.is (if_ok c.boxed_expr-in-BinExpr-2.result (rule.expr-BinExpr (rw c.in-BinExpr.left-is at c.in_ok-boxed_expr-in-BinExpr.ensures)) (rw c.in-BinExpr.right-is at c.boxed_expr-in-BinExpr-2.ensures))

pub expr-returns-in_ok-assign_target-in-AssignExpr : goal.expr-returns-in_ok-assign_target-in-AssignExpr
unfolding v_expr.out-Expr denote.Hole.Carrier.out
expr-returns-in_ok-assign_target-in-AssignExpr t c = rw c.in-AssignExpr.is (if_ok c.boxed_expr-in-AssignExpr.result (rule.expr-AssignExpr (rw c.in-AssignExpr.left-is at c.in_ok-assign_target-in-AssignExpr.ensures)) (rw c.in-AssignExpr.right-is at c.boxed_expr-in-AssignExpr.ensures))

pub expr-returns-in-MemberExpr : goal.expr-returns-in-MemberExpr
unfolding v_expr.out-Expr denote.Hole.Carrier.out
expr-returns-in-MemberExpr t c = rw c.in-MemberExpr.is (if_ok c.member_expr.result rule.expr-MemberExpr (rw c.in-MemberExpr.it-is at c.member_expr.ensures))

pub expr-returns-in-SuperPropExpr : goal.expr-returns-in-SuperPropExpr
unfolding v_expr.out-Expr denote.Hole.Carrier.out
expr-returns-in-SuperPropExpr t c = rw c.in-SuperPropExpr.is (if_ok c.super_prop_expr.result rule.expr-SuperPropExpr (rw c.in-SuperPropExpr.it-is at c.super_prop_expr.ensures))

pub expr-returns-in_ok-boxed_expr-in-CondExpr-2 : goal.expr-returns-in_ok-boxed_expr-in-CondExpr-2
unfolding v_expr.out-Expr denote.Hole.Carrier.out
expr-returns-in_ok-boxed_expr-in-CondExpr-2 t c = rw c.in-CondExpr.is (if_ok c.boxed_expr-in-CondExpr-3.result (rule.expr-CondExpr (rw c.in-CondExpr.test-is at c.in_ok-boxed_expr-in-CondExpr.ensures) (rw c.in-CondExpr.cons-is at c.in_ok-boxed_expr-in-CondExpr-2.ensures)) (rw c.in-CondExpr.alt-is at c.boxed_expr-in-CondExpr-3.ensures))

pub expr-returns-in_ok-callee-in-CallExpr : goal.expr-returns-in_ok-callee-in-CallExpr
unfolding v_expr.out-Expr denote.Hole.Carrier.out
expr-returns-in_ok-callee-in-CallExpr t c = rw c.in-CallExpr.is (if_ok c.each_expr_or_spread.result (rule.expr-CallExpr (rw c.in-CallExpr.callee-is at c.in_ok-callee-in-CallExpr.ensures)) (rw c.in-CallExpr.args-is at c.each_expr_or_spread.ensures))

pub expr-returns-in_ok-boxed_expr-in-NewExpr : goal.expr-returns-in_ok-boxed_expr-in-NewExpr
unfolding v_expr.out-Expr denote.Hole.Carrier.out
expr-returns-in_ok-boxed_expr-in-NewExpr t c = rw c.in-NewExpr.is (if_both c.option_each_expr_or_spread.result (rule.expr-NewExpr (rw c.in-NewExpr.callee-is at c.in_ok-boxed_expr-in-NewExpr.ensures)) (rw c.in-NewExpr.args-is at c.option_each_expr_or_spread.ensures.renamed) (rw c.in-NewExpr.args-is at c.option_each_expr_or_spread.ensures.given))

pub expr-returns-in-SeqExpr : goal.expr-returns-in-SeqExpr
unfolding v_expr.out-Expr denote.Hole.Carrier.out
expr-returns-in-SeqExpr t c = rw c.in-SeqExpr.is (if_ok c.each_expr.result rule.expr-SeqExpr (rw c.in-SeqExpr.exprs-is at c.each_expr.ensures))

pub expr-returns-in-Ident : goal.expr-returns-in-Ident
unfolding v_expr.out-Expr denote.Hole.Carrier.out
expr-returns-in-Ident t c = rw c.in-Ident.is (if_ok c.ident.result rule.expr-Ident (rw c.in-Ident.it-is at c.ident.ensures))

pub expr-returns-in-Lit : goal.expr-returns-in-Lit
expr-returns-in-Lit t c = rw c.in-Lit.is rule.expr-Lit

pub expr-returns-in-Tpl : goal.expr-returns-in-Tpl
unfolding v_expr.out-Expr denote.Hole.Carrier.out
expr-returns-in-Tpl t c = rw c.in-Tpl.is (if_ok c.tpl.result rule.expr-Tpl (rw c.in-Tpl.it-is at c.tpl.ensures))

pub expr-returns-in_ok-boxed_expr-in-TaggedTpl : goal.expr-returns-in_ok-boxed_expr-in-TaggedTpl
unfolding v_expr.out-Expr denote.Hole.Carrier.out
expr-returns-in_ok-boxed_expr-in-TaggedTpl t c = rw c.in-TaggedTpl.is (if_ok c.tpl-in-TaggedTpl.result (rule.expr-TaggedTpl (rw c.in-TaggedTpl.tag-is at c.in_ok-boxed_expr-in-TaggedTpl.ensures)) (rw c.in-TaggedTpl.tpl-is at c.tpl-in-TaggedTpl.ensures))

pub expr-returns-in_ok-each_pat-in-ArrowExpr : goal.expr-returns-in_ok-each_pat-in-ArrowExpr
unfolding v_expr.out-Expr denote.Hole.Carrier.out
expr-returns-in_ok-each_pat-in-ArrowExpr t c = rw c.in-ArrowExpr.is (if_ok c.arrow_body.result (rule.expr-ArrowExpr (rw c.in-ArrowExpr.params-is at c.in_ok-each_pat-in-ArrowExpr.ensures)) (rw c.in-ArrowExpr.body-is at c.arrow_body.ensures))

pub expr-returns-in_ok-option_ident-in-ClassExpr : goal.expr-returns-in_ok-option_ident-in-ClassExpr
unfolding v_expr.out-Expr denote.Hole.Carrier.out
expr-returns-in_ok-option_ident-in-ClassExpr t c = rw c.in-ClassExpr.is (if_ok c.class.result (rule.expr-ClassExpr (rw c.in-ClassExpr.ident-is at c.in_ok-option_ident-in-ClassExpr.ensures)) (rw c.in-ClassExpr.class-is at c.class.ensures))

pub expr-returns-in-YieldExpr : goal.expr-returns-in-YieldExpr
unfolding v_expr.out-Expr denote.Hole.Carrier.out
expr-returns-in-YieldExpr t c = rw c.in-YieldExpr.is (if_ok c.option_boxed_expr.result rule.expr-YieldExpr (rw c.in-YieldExpr.arg-is at c.option_boxed_expr.ensures))

pub expr-returns-in-MetaPropExpr : goal.expr-returns-in-MetaPropExpr
expr-returns-in-MetaPropExpr t c = rw c.in-MetaPropExpr.is rule.expr-MetaPropExpr

pub expr-returns-in-AwaitExpr : goal.expr-returns-in-AwaitExpr
unfolding v_expr.out-Expr denote.Hole.Carrier.out
expr-returns-in-AwaitExpr t c = rw c.in-AwaitExpr.is (if_ok c.boxed_expr-in-AwaitExpr.result rule.expr-AwaitExpr (rw c.in-AwaitExpr.arg-is at c.boxed_expr-in-AwaitExpr.ensures))

pub expr-returns-in-ParenExpr : goal.expr-returns-in-ParenExpr
unfolding v_expr.out-Expr denote.Hole.Carrier.out
expr-returns-in-ParenExpr t c = rw c.in-ParenExpr.is (if_ok c.paren_expr.result rule.expr-ParenExpr (rw c.in-ParenExpr.it-is at c.paren_expr.ensures))

pub expr-returns-in-PrivateName : goal.expr-returns-in-PrivateName
expr-returns-in-PrivateName t c = rw c.in-PrivateName.is rule.expr-PrivateName

pub expr-returns-in-OptChainExpr : goal.expr-returns-in-OptChainExpr
unfolding v_expr.out-Expr denote.Hole.Carrier.out
expr-returns-in-OptChainExpr t c = rw c.in-OptChainExpr.is (if_ok c.opt_chain_base.result rule.expr-OptChainExpr (rw c.in-OptChainExpr.base-is at c.opt_chain_base.ensures))

pub option_expr-returns-in-Some : goal.option_expr-returns-in-Some
option_expr-returns-in-Some t c = rw c.in-Some.is (if_ok c.expr.result rule.option_expr-Some (rw c.in-Some.expr-is at c.expr.ensures))

pub option_expr-returns-in-None : goal.option_expr-returns-in-None
option_expr-returns-in-None t c = rw c.in-None.is rule.option_expr-None

pub each_expr-loop-index-init : goal.each_expr-loop-index-init
each_expr-loop-index-init t c = ((refl, λ k d le. refl), (none_so_far Anywhere expr_items))

pub each_expr-loop-index-preserved : goal.each_expr-loop-index-preserved
each_expr-loop-index-preserved t c = (visited _ _ _ _ c.loop-index.invariant.0, (one_more Anywhere expr_items _ _ _ (rw (c.len-index-end.ensures ∙ c.args.list.now.ok.0) at c.loop-index-test.true) c.loop-index.invariant.0 c.index_mut.ensures.value c.loop-index.invariant.1 c.in_ok-expr.ensures))

pub each_expr-returns : goal.each_expr-returns
each_expr-returns t c = all_of_them Anywhere expr_items each_expr_items row.all_expr (rw (c.len-index-end.ensures ∙ c.args.list.now.ok.0) at c.loop-index-test.false) c.loop-index.invariant.0 c.loop-index.invariant.1

pub option_boxed_expr-returns-in-Some : goal.option_boxed_expr-returns-in-Some
option_boxed_expr-returns-in-Some t c = rw c.in-Some.is (if_ok c.boxed_expr.result rule.option_boxed_expr-Some (rw c.in-Some.expr-is at c.boxed_expr.ensures))

pub option_boxed_expr-returns-in-None : goal.option_boxed_expr-returns-in-None
option_boxed_expr-returns-in-None t c = rw c.in-None.is rule.option_boxed_expr-None

pub paren_expr-returns : goal.paren_expr-returns
paren_expr-returns t c = if_ok c.boxed_expr.result rule.paren_expr c.boxed_expr.ensures

pub member_expr-returns : goal.member_expr-returns
member_expr-returns t c = if_ok c.member_prop.result (rule.member_expr c.in_ok-boxed_expr.ensures) c.member_prop.ensures

pub super_prop_expr-returns : goal.super_prop_expr-returns
super_prop_expr-returns t c = if_ok c.super_prop.result rule.super_prop_expr c.super_prop.ensures

pub callee-returns-in-Super : goal.callee-returns-in-Super
callee-returns-in-Super t c = rw c.in-Super.is rule.callee-Super

pub callee-returns-in-Import : goal.callee-returns-in-Import
callee-returns-in-Import t c = rw c.in-Import.is rule.callee-Import

pub callee-returns-in-Expr : goal.callee-returns-in-Expr
callee-returns-in-Expr t c = rw c.in-Expr.is (if_ok c.boxed_expr.result rule.callee-Expr (rw c.in-Expr.it-is at c.boxed_expr.ensures))

pub expr_or_spread-returns : goal.expr_or_spread-returns
expr_or_spread-returns t c = if_ok c.expr.result rule.expr_or_spread c.expr.ensures

pub expr_or_spread_place-returns-in-Some : goal.expr_or_spread_place-returns-in-Some
expr_or_spread_place-returns-in-Some t c = rw c.in-Some.is (if_ok c.expr_or_spread.result rule.expr_or_spread_place-Some (rw c.in-Some.element-is at c.expr_or_spread.ensures))

pub expr_or_spread_place-returns-in-None : goal.expr_or_spread_place-returns-in-None
expr_or_spread_place-returns-in-None t c = rw c.in-None.is rule.expr_or_spread_place-None

pub each_option_expr_or_spread-loop-index-init : goal.each_option_expr_or_spread-loop-index-init
each_option_expr_or_spread-loop-index-init t c = ((refl, λ k d le. refl), (none_so_far Anywhere expr_or_spread_place_items))

pub each_option_expr_or_spread-loop-index-preserved : goal.each_option_expr_or_spread-loop-index-preserved
each_option_expr_or_spread-loop-index-preserved t c = (visited _ _ _ _ c.loop-index.invariant.0, (one_more Anywhere expr_or_spread_place_items _ _ _ (rw (c.len-index-end.ensures ∙ c.args.list.now.ok.0) at c.loop-index-test.true) c.loop-index.invariant.0 c.index_mut.ensures.value c.loop-index.invariant.1 c.in_ok-expr_or_spread_place.ensures))

pub each_option_expr_or_spread-returns : goal.each_option_expr_or_spread-returns
each_option_expr_or_spread-returns t c = all_of_them Anywhere expr_or_spread_place_items each_option_expr_or_spread_items row.all_option_expr_or_spread (rw (c.len-index-end.ensures ∙ c.args.list.now.ok.0) at c.loop-index-test.false) c.loop-index.invariant.0 c.loop-index.invariant.1

pub each_expr_or_spread-loop-index-init : goal.each_expr_or_spread-loop-index-init
each_expr_or_spread-loop-index-init t c = ((refl, λ k d le. refl), (none_so_far Anywhere expr_or_spread_items))

pub each_expr_or_spread-loop-index-preserved : goal.each_expr_or_spread-loop-index-preserved
each_expr_or_spread-loop-index-preserved t c = (visited _ _ _ _ c.loop-index.invariant.0, (one_more Anywhere expr_or_spread_items _ _ _ (rw (c.len-index-end.ensures ∙ c.args.list.now.ok.0) at c.loop-index-test.true) c.loop-index.invariant.0 c.index_mut.ensures.value c.loop-index.invariant.1 c.in_ok-expr_or_spread.ensures))

pub each_expr_or_spread-returns : goal.each_expr_or_spread-returns
each_expr_or_spread-returns t c = all_of_them Anywhere expr_or_spread_items each_expr_or_spread_items row.all_expr_or_spread (rw (c.len-index-end.ensures ∙ c.args.list.now.ok.0) at c.loop-index-test.false) c.loop-index.invariant.0 c.loop-index.invariant.1

pub option_each_expr_or_spread-returns-in-Some-clause-renamed : goal.option_each_expr_or_spread-returns-in-Some-clause-renamed
option_each_expr_or_spread-returns-in-Some-clause-renamed t c = rw c.in-Some.is (if_ok c.each_expr_or_spread.result rule.option_each_expr_or_spread-Some (rw c.in-Some.list-is at c.each_expr_or_spread.ensures))

pub option_each_expr_or_spread-returns-in-None-clause-renamed : goal.option_each_expr_or_spread-returns-in-None-clause-renamed
option_each_expr_or_spread-returns-in-None-clause-renamed t c = rw c.in-None.is rule.option_each_expr_or_spread-None

pub arrow_body-returns-in-BlockStmt : goal.arrow_body-returns-in-BlockStmt
unfolding v_arrow_body.out-ArrowBody denote.Hole.Carrier.out
arrow_body-returns-in-BlockStmt t c = rw c.in-BlockStmt.is (if_ok c.block_stmt.result rule.arrow_body-BlockStmt (rw c.in-BlockStmt.it-is at c.block_stmt.ensures))

pub arrow_body-returns-in-Expr : goal.arrow_body-returns-in-Expr
unfolding v_arrow_body.out-ArrowBody denote.Hole.Carrier.out
arrow_body-returns-in-Expr t c = rw c.in-Expr.is (if_ok c.boxed_expr.result rule.arrow_body-Expr (rw c.in-Expr.it-is at c.boxed_expr.ensures))

pub opt_chain_base-returns-in-MemberExpr : goal.opt_chain_base-returns-in-MemberExpr
opt_chain_base-returns-in-MemberExpr t c = rw c.in-MemberExpr.is (if_ok c.member_expr.result rule.opt_chain_base-MemberExpr (rw c.in-MemberExpr.it-is at c.member_expr.ensures))

pub opt_chain_base-returns-in-OptCall : goal.opt_chain_base-returns-in-OptCall
opt_chain_base-returns-in-OptCall t c = rw c.in-OptCall.is (if_ok c.opt_call.result rule.opt_chain_base-OptCall (rw c.in-OptCall.it-is at c.opt_call.ensures))

pub opt_call-returns : goal.opt_call-returns
opt_call-returns t c = if_ok c.each_expr_or_spread.result (rule.opt_call c.in_ok-boxed_expr.ensures) c.each_expr_or_spread.ensures

pub tpl-returns : goal.tpl-returns
tpl-returns t c = if_ok c.each_expr.result rule.tpl c.each_expr.ensures

pub block_stmt-returns : goal.block_stmt-returns
block_stmt-returns t c = if_ok c.each_stmt.result rule.block_stmt c.each_stmt.ensures

pub option_block_stmt-returns-in-Some : goal.option_block_stmt-returns-in-Some
option_block_stmt-returns-in-Some t c = rw c.in-Some.is (if_ok c.block_stmt.result rule.option_block_stmt-Some (rw c.in-Some.block_stmt-is at c.block_stmt.ensures))

pub option_block_stmt-returns-in-None : goal.option_block_stmt-returns-in-None
option_block_stmt-returns-in-None t c = rw c.in-None.is rule.option_block_stmt-None

pub stmt-returns-in-BlockStmt : goal.stmt-returns-in-BlockStmt
unfolding v_stmt.out-Stmt denote.Hole.Carrier.out
stmt-returns-in-BlockStmt t c = rw c.in-BlockStmt.is (if_ok c.block_stmt.result rule.stmt-BlockStmt (rw c.in-BlockStmt.it-is at c.block_stmt.ensures))

pub stmt-returns-in-EmptyStmt : goal.stmt-returns-in-EmptyStmt
stmt-returns-in-EmptyStmt t c = rw c.in-EmptyStmt.is rule.stmt-EmptyStmt

pub stmt-returns-in-DebuggerStmt : goal.stmt-returns-in-DebuggerStmt
stmt-returns-in-DebuggerStmt t c = rw c.in-DebuggerStmt.is rule.stmt-DebuggerStmt

pub stmt-returns-in_ok-expr-in-WithStmt : goal.stmt-returns-in_ok-expr-in-WithStmt
unfolding v_stmt.out-Stmt denote.Hole.Carrier.out
stmt-returns-in_ok-expr-in-WithStmt t c = rw c.in-WithStmt.is (if_ok c.boxed_stmt.result (rule.stmt-WithStmt (rw c.in-WithStmt.obj-is at c.in_ok-expr-in-WithStmt.ensures)) (rw c.in-WithStmt.body-is at c.boxed_stmt.ensures))

pub stmt-returns-in-ReturnStmt : goal.stmt-returns-in-ReturnStmt
unfolding v_stmt.out-Stmt denote.Hole.Carrier.out
stmt-returns-in-ReturnStmt t c = rw c.in-ReturnStmt.is (if_ok c.option_expr.result rule.stmt-ReturnStmt (rw c.in-ReturnStmt.arg-is at c.option_expr.ensures))

pub stmt-returns-in-LabeledStmt : goal.stmt-returns-in-LabeledStmt
unfolding v_stmt.out-Stmt denote.Hole.Carrier.out
stmt-returns-in-LabeledStmt t c = rw c.in-LabeledStmt.is (if_ok c.boxed_stmt-in-LabeledStmt.result rule.stmt-LabeledStmt (rw c.in-LabeledStmt.body-is at c.boxed_stmt-in-LabeledStmt.ensures))

pub stmt-returns-in-BreakStmt : goal.stmt-returns-in-BreakStmt
stmt-returns-in-BreakStmt t c = rw c.in-BreakStmt.is rule.stmt-BreakStmt

pub stmt-returns-in-ContinueStmt : goal.stmt-returns-in-ContinueStmt
stmt-returns-in-ContinueStmt t c = rw c.in-ContinueStmt.is rule.stmt-ContinueStmt

pub stmt-returns-in_ok-boxed_stmt-in-IfStmt : goal.stmt-returns-in_ok-boxed_stmt-in-IfStmt
unfolding v_stmt.out-Stmt denote.Hole.Carrier.out
stmt-returns-in_ok-boxed_stmt-in-IfStmt t c = rw c.in-IfStmt.is (if_ok c.option_boxed_stmt.result (rule.stmt-IfStmt (rw c.in-IfStmt.test-is at c.in_ok-expr-in-IfStmt.ensures) (rw c.in-IfStmt.cons-is at c.in_ok-boxed_stmt-in-IfStmt.ensures)) (rw c.in-IfStmt.alt-is at c.option_boxed_stmt.ensures))

pub stmt-returns-in_ok-expr-in-SwitchStmt : goal.stmt-returns-in_ok-expr-in-SwitchStmt
unfolding v_stmt.out-Stmt denote.Hole.Carrier.out
stmt-returns-in_ok-expr-in-SwitchStmt t c = rw c.in-SwitchStmt.is (if_ok c.each_switch_case.result (rule.stmt-SwitchStmt (rw c.in-SwitchStmt.discriminant-is at c.in_ok-expr-in-SwitchStmt.ensures)) (rw c.in-SwitchStmt.cases-is at c.each_switch_case.ensures))

pub stmt-returns-in-ThrowStmt : goal.stmt-returns-in-ThrowStmt
unfolding v_stmt.out-Stmt denote.Hole.Carrier.out
stmt-returns-in-ThrowStmt t c = rw c.in-ThrowStmt.is (if_ok c.expr-in-ThrowStmt.result rule.stmt-ThrowStmt (rw c.in-ThrowStmt.arg-is at c.expr-in-ThrowStmt.ensures))

pub stmt-returns-in_ok-option_catch_clause-in-TryStmt : goal.stmt-returns-in_ok-option_catch_clause-in-TryStmt
unfolding v_stmt.out-Stmt denote.Hole.Carrier.out
stmt-returns-in_ok-option_catch_clause-in-TryStmt t c = rw c.in-TryStmt.is (if_ok c.option_block_stmt.result (rule.stmt-TryStmt (rw c.in-TryStmt.block-is at c.in_ok-block_stmt-in-TryStmt.ensures) (rw c.in-TryStmt.handler-is at c.in_ok-option_catch_clause-in-TryStmt.ensures)) (rw c.in-TryStmt.finalizer-is at c.option_block_stmt.ensures))

pub stmt-returns-in_ok-expr-in-WhileStmt : goal.stmt-returns-in_ok-expr-in-WhileStmt
unfolding v_stmt.out-Stmt denote.Hole.Carrier.out
stmt-returns-in_ok-expr-in-WhileStmt t c = rw c.in-WhileStmt.is (if_ok c.boxed_stmt-in-WhileStmt.result (rule.stmt-WhileStmt (rw c.in-WhileStmt.test-is at c.in_ok-expr-in-WhileStmt.ensures)) (rw c.in-WhileStmt.body-is at c.boxed_stmt-in-WhileStmt.ensures))

pub stmt-returns-in_ok-boxed_stmt-in-DoWhileStmt : goal.stmt-returns-in_ok-boxed_stmt-in-DoWhileStmt
unfolding v_stmt.out-Stmt denote.Hole.Carrier.out
stmt-returns-in_ok-boxed_stmt-in-DoWhileStmt t c = rw c.in-DoWhileStmt.is (if_ok c.expr-in-DoWhileStmt.result (rule.stmt-DoWhileStmt (rw c.in-DoWhileStmt.body-is at c.in_ok-boxed_stmt-in-DoWhileStmt.ensures)) (rw c.in-DoWhileStmt.test-is at c.expr-in-DoWhileStmt.ensures))

pub stmt-returns-in_ok-option_expr-in-ForStmt-2 : goal.stmt-returns-in_ok-option_expr-in-ForStmt-2
unfolding v_stmt.out-Stmt denote.Hole.Carrier.out
stmt-returns-in_ok-option_expr-in-ForStmt-2 t c = rw c.in-ForStmt.is (if_ok c.boxed_stmt-in-ForStmt.result (rule.stmt-ForStmt (rw c.in-ForStmt.init-is at c.in_ok-option_for_init-in-ForStmt.ensures) (rw c.in-ForStmt.test-is at c.in_ok-option_expr-in-ForStmt.ensures) (rw c.in-ForStmt.update-is at c.in_ok-option_expr-in-ForStmt-2.ensures)) (rw c.in-ForStmt.body-is at c.boxed_stmt-in-ForStmt.ensures))

pub stmt-returns-in_ok-expr-in-ForInStmt : goal.stmt-returns-in_ok-expr-in-ForInStmt
unfolding v_stmt.out-Stmt denote.Hole.Carrier.out
stmt-returns-in_ok-expr-in-ForInStmt t c = rw c.in-ForInStmt.is (if_ok c.boxed_stmt-in-ForInStmt.result (rule.stmt-ForInStmt (rw c.in-ForInStmt.left-is at c.in_ok-for_head-in-ForInStmt.ensures) (rw c.in-ForInStmt.right-is at c.in_ok-expr-in-ForInStmt.ensures)) (rw c.in-ForInStmt.body-is at c.boxed_stmt-in-ForInStmt.ensures))

pub stmt-returns-in_ok-expr-in-ForOfStmt : goal.stmt-returns-in_ok-expr-in-ForOfStmt
unfolding v_stmt.out-Stmt denote.Hole.Carrier.out
stmt-returns-in_ok-expr-in-ForOfStmt t c = rw c.in-ForOfStmt.is (if_ok c.boxed_stmt-in-ForOfStmt.result (rule.stmt-ForOfStmt (rw c.in-ForOfStmt.left-is at c.in_ok-for_head-in-ForOfStmt.ensures) (rw c.in-ForOfStmt.right-is at c.in_ok-expr-in-ForOfStmt.ensures)) (rw c.in-ForOfStmt.body-is at c.boxed_stmt-in-ForOfStmt.ensures))

pub stmt-returns-in-Decl : goal.stmt-returns-in-Decl
unfolding v_stmt.out-Stmt denote.Hole.Carrier.out
stmt-returns-in-Decl t c = rw c.in-Decl.is (if_ok c.decl.result rule.stmt-Decl (rw c.in-Decl.it-is at c.decl.ensures))

pub stmt-returns-in-ExprStmt : goal.stmt-returns-in-ExprStmt
unfolding v_stmt.out-Stmt denote.Hole.Carrier.out
stmt-returns-in-ExprStmt t c = rw c.in-ExprStmt.is (if_ok c.expr-in-ExprStmt.result rule.stmt-ExprStmt (rw c.in-ExprStmt.expr-is at c.expr-in-ExprStmt.ensures))

pub each_stmt-loop-index-init : goal.each_stmt-loop-index-init
each_stmt-loop-index-init t c = ((refl, λ k d le. refl), (none_so_far Anywhere stmt_items))

pub each_stmt-loop-index-preserved : goal.each_stmt-loop-index-preserved
each_stmt-loop-index-preserved t c = (visited _ _ _ _ c.loop-index.invariant.0, (one_more Anywhere stmt_items _ _ _ (rw (c.len-index-end.ensures ∙ c.args.list.now.ok.0) at c.loop-index-test.true) c.loop-index.invariant.0 c.index_mut.ensures.value c.loop-index.invariant.1 c.in_ok-stmt.ensures))

pub each_stmt-returns : goal.each_stmt-returns
each_stmt-returns t c = all_of_them Anywhere stmt_items each_stmt_items row.all_stmt (rw (c.len-index-end.ensures ∙ c.args.list.now.ok.0) at c.loop-index-test.false) c.loop-index.invariant.0 c.loop-index.invariant.1

pub option_boxed_stmt-returns-in-Some : goal.option_boxed_stmt-returns-in-Some
option_boxed_stmt-returns-in-Some t c = rw c.in-Some.is (if_ok c.boxed_stmt.result rule.option_boxed_stmt-Some (rw c.in-Some.stmt-is at c.boxed_stmt.ensures))

pub option_boxed_stmt-returns-in-None : goal.option_boxed_stmt-returns-in-None
option_boxed_stmt-returns-in-None t c = rw c.in-None.is rule.option_boxed_stmt-None

pub switch_case-returns : goal.switch_case-returns
switch_case-returns t c = if_ok c.each_stmt.result (rule.switch_case c.in_ok-option_expr.ensures) c.each_stmt.ensures

pub each_switch_case-loop-index-init : goal.each_switch_case-loop-index-init
each_switch_case-loop-index-init t c = ((refl, λ k d le. refl), (none_so_far Anywhere switch_case_items))

pub each_switch_case-loop-index-preserved : goal.each_switch_case-loop-index-preserved
each_switch_case-loop-index-preserved t c = (visited _ _ _ _ c.loop-index.invariant.0, (one_more Anywhere switch_case_items _ _ _ (rw (c.len-index-end.ensures ∙ c.args.list.now.ok.0) at c.loop-index-test.true) c.loop-index.invariant.0 c.index_mut.ensures.value c.loop-index.invariant.1 c.in_ok-switch_case.ensures))

pub each_switch_case-returns : goal.each_switch_case-returns
each_switch_case-returns t c = all_of_them Anywhere switch_case_items each_switch_case_items row.all_switch_case (rw (c.len-index-end.ensures ∙ c.args.list.now.ok.0) at c.loop-index-test.false) c.loop-index.invariant.0 c.loop-index.invariant.1

pub catch_clause-returns : goal.catch_clause-returns
catch_clause-returns t c = if_ok c.block_stmt.result (rule.catch_clause c.in_ok-option_pat.ensures) c.block_stmt.ensures

pub option_catch_clause-returns-in-Some : goal.option_catch_clause-returns-in-Some
option_catch_clause-returns-in-Some t c = rw c.in-Some.is (if_ok c.catch_clause.result rule.option_catch_clause-Some (rw c.in-Some.catch_clause-is at c.catch_clause.ensures))

pub option_catch_clause-returns-in-None : goal.option_catch_clause-returns-in-None
option_catch_clause-returns-in-None t c = rw c.in-None.is rule.option_catch_clause-None

pub for_init-returns-in-VarDecl : goal.for_init-returns-in-VarDecl
unfolding v_for_init.out-ForInit denote.Hole.Carrier.out
for_init-returns-in-VarDecl t c = rw c.in-VarDecl.is (if_ok c.var_decl.result rule.for_init-VarDecl (rw c.in-VarDecl.it-is at c.var_decl.ensures))

pub for_init-returns-in-Expr : goal.for_init-returns-in-Expr
unfolding v_for_init.out-ForInit denote.Hole.Carrier.out
for_init-returns-in-Expr t c = rw c.in-Expr.is (if_ok c.expr.result rule.for_init-Expr (rw c.in-Expr.it-is at c.expr.ensures))

pub option_for_init-returns-in-Some : goal.option_for_init-returns-in-Some
option_for_init-returns-in-Some t c = rw c.in-Some.is (if_ok c.for_init.result rule.option_for_init-Some (rw c.in-Some.for_init-is at c.for_init.ensures))

pub option_for_init-returns-in-None : goal.option_for_init-returns-in-None
option_for_init-returns-in-None t c = rw c.in-None.is rule.option_for_init-None

pub for_head-returns-in-VarDecl : goal.for_head-returns-in-VarDecl
unfolding v_for_head.out-ForHead denote.Hole.Carrier.out
for_head-returns-in-VarDecl t c = rw c.in-VarDecl.is (if_ok c.var_decl.result rule.for_head-VarDecl (rw c.in-VarDecl.it-is at c.var_decl.ensures))

pub for_head-returns-in-Pat : goal.for_head-returns-in-Pat
unfolding v_for_head.out-ForHead denote.Hole.Carrier.out
for_head-returns-in-Pat t c = rw c.in-Pat.is (if_ok c.pat.result rule.for_head-Pat (rw c.in-Pat.it-is at c.pat.ensures))

pub decl-returns-in_ok-ident-in-ClassDecl : goal.decl-returns-in_ok-ident-in-ClassDecl
unfolding v_decl.out-Decl denote.Hole.Carrier.out
decl-returns-in_ok-ident-in-ClassDecl t c = rw c.in-ClassDecl.is (if_ok c.class.result (rule.decl-ClassDecl (rw c.in-ClassDecl.ident-is at c.in_ok-ident-in-ClassDecl.ensures)) (rw c.in-ClassDecl.class-is at c.class.ensures))

pub decl-returns-in_ok-ident-in-FnDecl : goal.decl-returns-in_ok-ident-in-FnDecl
unfolding v_decl.out-Decl denote.Hole.Carrier.out
decl-returns-in_ok-ident-in-FnDecl t c = rw c.in-FnDecl.is (if_ok c.function.result (rule.decl-FnDecl (rw c.in-FnDecl.ident-is at c.in_ok-ident-in-FnDecl.ensures)) (rw c.in-FnDecl.function-is at c.function.ensures))

pub decl-returns-in-VarDecl : goal.decl-returns-in-VarDecl
unfolding v_decl.out-Decl denote.Hole.Carrier.out
decl-returns-in-VarDecl t c = rw c.in-VarDecl.is (if_ok c.var_decl.result rule.decl-VarDecl (rw c.in-VarDecl.it-is at c.var_decl.ensures))

pub var_decl-returns : goal.var_decl-returns
var_decl-returns t c = if_ok c.each_var_declarator.result rule.var_decl c.each_var_declarator.ensures

pub var_declarator-returns : goal.var_declarator-returns
var_declarator-returns t c = if_ok c.option_expr.result (rule.var_declarator c.in_ok-pat.ensures) c.option_expr.ensures

pub each_var_declarator-loop-index-init : goal.each_var_declarator-loop-index-init
each_var_declarator-loop-index-init t c = ((refl, λ k d le. refl), (none_so_far Anywhere var_declarator_items))

pub each_var_declarator-loop-index-preserved : goal.each_var_declarator-loop-index-preserved
each_var_declarator-loop-index-preserved t c = (visited _ _ _ _ c.loop-index.invariant.0, (one_more Anywhere var_declarator_items _ _ _ (rw (c.len-index-end.ensures ∙ c.args.list.now.ok.0) at c.loop-index-test.true) c.loop-index.invariant.0 c.index_mut.ensures.value c.loop-index.invariant.1 c.in_ok-var_declarator.ensures))

pub each_var_declarator-returns : goal.each_var_declarator-returns
each_var_declarator-returns t c = all_of_them Anywhere var_declarator_items each_var_declarator_items row.all_var_declarator (rw (c.len-index-end.ensures ∙ c.args.list.now.ok.0) at c.loop-index-test.false) c.loop-index.invariant.0 c.loop-index.invariant.1

pub prop_or_spread-returns-in-SpreadElement : goal.prop_or_spread-returns-in-SpreadElement
unfolding v_prop_or_spread.out-PropOrSpread denote.Hole.Carrier.out
prop_or_spread-returns-in-SpreadElement t c = rw c.in-SpreadElement.is (if_ok c.expr.result rule.prop_or_spread-SpreadElement (rw c.in-SpreadElement.expr-is at c.expr.ensures))

pub prop_or_spread-returns-in-Prop : goal.prop_or_spread-returns-in-Prop
unfolding v_prop_or_spread.out-PropOrSpread denote.Hole.Carrier.out
prop_or_spread-returns-in-Prop t c = rw c.in-Prop.is (if_ok c.prop.result rule.prop_or_spread-Prop (rw c.in-Prop.it-is at c.prop.ensures))

pub each_prop_or_spread-loop-index-init : goal.each_prop_or_spread-loop-index-init
each_prop_or_spread-loop-index-init t c = ((refl, λ k d le. refl), (none_so_far InObject prop_or_spread_items))

pub each_prop_or_spread-loop-index-preserved : goal.each_prop_or_spread-loop-index-preserved
each_prop_or_spread-loop-index-preserved t c = (visited _ _ _ _ c.loop-index.invariant.0, (one_more InObject prop_or_spread_items _ _ _ (rw (c.len-index-end.ensures ∙ c.args.list.now.ok.0) at c.loop-index-test.true) c.loop-index.invariant.0 c.index_mut.ensures.value c.loop-index.invariant.1 c.in_ok-prop_or_spread.ensures))

pub each_prop_or_spread-returns : goal.each_prop_or_spread-returns
each_prop_or_spread-returns t c = all_of_them InObject prop_or_spread_items each_prop_or_spread_items row.all_prop_or_spread (rw (c.len-index-end.ensures ∙ c.args.list.now.ok.0) at c.loop-index-test.false) c.loop-index.invariant.0 c.loop-index.invariant.1

pub prop-returns-in-Some : goal.prop-returns-in-Some
unfolding v_prop.out-Prop denote.Hole.Carrier.out
prop-returns-in-Some t c = rw c.in-Shorthand.is (rw c.in-Some.is at (rw c.in-Shorthand.it-is at c.in_ok-pair-in-Shorthand.ensures))

pub prop-returns-in-None : goal.prop-returns-in-None
unfolding v_prop.out-Prop denote.Hole.Carrier.out
prop-returns-in-None t c = rw c.in-Shorthand.is (rw c.in-None.is at (rw c.in-Shorthand.it-is at c.in_ok-pair-in-Shorthand.ensures))

pub prop-returns-in-KeyValueProp : goal.prop-returns-in-KeyValueProp
unfolding v_prop.out-Prop denote.Hole.Carrier.out
prop-returns-in-KeyValueProp t c = rw c.in-KeyValueProp.is (if_ok c.key_value_prop.result rule.prop-KeyValueProp (rw c.in-KeyValueProp.it-is at c.key_value_prop.ensures))

pub prop-returns-in_ok-prop_name-in-GetterProp : goal.prop-returns-in_ok-prop_name-in-GetterProp
unfolding v_prop.out-Prop denote.Hole.Carrier.out
prop-returns-in_ok-prop_name-in-GetterProp t c = rw c.in-GetterProp.is (if_ok c.block_stmt.result (rule.prop-GetterProp (rw c.in-GetterProp.key-is at c.in_ok-prop_name-in-GetterProp.ensures)) (rw c.in-GetterProp.body-is at c.block_stmt.ensures))

pub prop-returns-in_ok-pat-in-SetterProp : goal.prop-returns-in_ok-pat-in-SetterProp
unfolding v_prop.out-Prop denote.Hole.Carrier.out
prop-returns-in_ok-pat-in-SetterProp t c = rw c.in-SetterProp.is (if_ok c.block_stmt-in-SetterProp.result (rule.prop-SetterProp (rw c.in-SetterProp.key-is at c.in_ok-prop_name-in-SetterProp.ensures) (rw c.in-SetterProp.param-is at c.in_ok-pat-in-SetterProp.ensures)) (rw c.in-SetterProp.body-is at c.block_stmt-in-SetterProp.ensures))

pub prop-returns-in_ok-prop_name-in-MethodProp : goal.prop-returns-in_ok-prop_name-in-MethodProp
unfolding v_prop.out-Prop denote.Hole.Carrier.out
prop-returns-in_ok-prop_name-in-MethodProp t c = rw c.in-MethodProp.is (if_ok c.function.result (rule.prop-MethodProp (rw c.in-MethodProp.key-is at c.in_ok-prop_name-in-MethodProp.ensures)) (rw c.in-MethodProp.function-is at c.function.ensures))

pub key_value_prop-returns : goal.key_value_prop-returns
key_value_prop-returns t c = if_ok c.expr.result (rule.key_value_prop c.in_ok-prop_name.ensures) c.expr.ensures

pub computed_prop_name-returns : goal.computed_prop_name-returns
computed_prop_name-returns t c = if_ok c.boxed_expr.result rule.computed_prop_name c.boxed_expr.ensures

pub prop_name-returns-in-IdentName : goal.prop_name-returns-in-IdentName
prop_name-returns-in-IdentName t c = rw c.in-IdentName.is rule.prop_name-IdentName

pub prop_name-returns-in-Str : goal.prop_name-returns-in-Str
prop_name-returns-in-Str t c = rw c.in-Str.is rule.prop_name-Str

pub prop_name-returns-in-Number : goal.prop_name-returns-in-Number
prop_name-returns-in-Number t c = rw c.in-Number.is rule.prop_name-Number

pub prop_name-returns-in-BigInt : goal.prop_name-returns-in-BigInt
prop_name-returns-in-BigInt t c = rw c.in-BigInt.is rule.prop_name-BigInt

pub prop_name-returns-in-ComputedPropName : goal.prop_name-returns-in-ComputedPropName
prop_name-returns-in-ComputedPropName t c = rw c.in-ComputedPropName.is (if_ok c.computed_prop_name.result rule.prop_name-ComputedPropName (rw c.in-ComputedPropName.it-is at c.computed_prop_name.ensures))

pub member_prop-returns-in-IdentName : goal.member_prop-returns-in-IdentName
member_prop-returns-in-IdentName t c = rw c.in-IdentName.is rule.member_prop-IdentName

pub member_prop-returns-in-PrivateName : goal.member_prop-returns-in-PrivateName
member_prop-returns-in-PrivateName t c = rw c.in-PrivateName.is rule.member_prop-PrivateName

pub member_prop-returns-in-ComputedPropName : goal.member_prop-returns-in-ComputedPropName
member_prop-returns-in-ComputedPropName t c = rw c.in-ComputedPropName.is (if_ok c.computed_prop_name.result rule.member_prop-ComputedPropName (rw c.in-ComputedPropName.it-is at c.computed_prop_name.ensures))

pub super_prop-returns-in-IdentName : goal.super_prop-returns-in-IdentName
super_prop-returns-in-IdentName t c = rw c.in-IdentName.is rule.super_prop-IdentName

pub super_prop-returns-in-ComputedPropName : goal.super_prop-returns-in-ComputedPropName
super_prop-returns-in-ComputedPropName t c = rw c.in-ComputedPropName.is (if_ok c.computed_prop_name.result rule.super_prop-ComputedPropName (rw c.in-ComputedPropName.it-is at c.computed_prop_name.ensures))

pub pat-returns-in-BindingIdent : goal.pat-returns-in-BindingIdent
unfolding v_pat.out-Pat denote.Hole.Carrier.out
pat-returns-in-BindingIdent t c = rw c.in-BindingIdent.is (if_ok c.binding_ident.result rule.pat-BindingIdent (rw c.in-BindingIdent.it-is at c.binding_ident.ensures))

pub pat-returns-in-ArrayPat : goal.pat-returns-in-ArrayPat
unfolding v_pat.out-Pat denote.Hole.Carrier.out
pat-returns-in-ArrayPat t c = rw c.in-ArrayPat.is (if_ok c.array_pat.result rule.pat-ArrayPat (rw c.in-ArrayPat.it-is at c.array_pat.ensures))

pub pat-returns-in-RestPat : goal.pat-returns-in-RestPat
unfolding v_pat.out-Pat denote.Hole.Carrier.out
pat-returns-in-RestPat t c = rw c.in-RestPat.is (if_ok c.rest_pat.result rule.pat-RestPat (rw c.in-RestPat.it-is at c.rest_pat.ensures))

pub pat-returns-in-ObjectPat : goal.pat-returns-in-ObjectPat
unfolding v_pat.out-Pat denote.Hole.Carrier.out
pat-returns-in-ObjectPat t c = rw c.in-ObjectPat.is (if_ok c.object_pat.result rule.pat-ObjectPat (rw c.in-ObjectPat.it-is at c.object_pat.ensures))

pub pat-returns-in_ok-boxed_pat-in-AssignPat : goal.pat-returns-in_ok-boxed_pat-in-AssignPat
unfolding v_pat.out-Pat denote.Hole.Carrier.out
pat-returns-in_ok-boxed_pat-in-AssignPat t c = rw c.in-AssignPat.is (if_ok c.boxed_expr.result (rule.pat-AssignPat (rw c.in-AssignPat.left-is at c.in_ok-boxed_pat-in-AssignPat.ensures)) (rw c.in-AssignPat.right-is at c.boxed_expr.ensures))

pub pat-returns-in-Expr : goal.pat-returns-in-Expr
unfolding v_pat.out-Pat denote.Hole.Carrier.out
pat-returns-in-Expr t c = rw c.in-Expr.is (if_ok c.boxed_expr-in-Expr.result rule.pat-Expr (rw c.in-Expr.it-is at c.boxed_expr-in-Expr.ensures))

pub option_pat-returns-in-Some : goal.option_pat-returns-in-Some
option_pat-returns-in-Some t c = rw c.in-Some.is (if_ok c.pat.result rule.option_pat-Some (rw c.in-Some.pat-is at c.pat.ensures))

pub option_pat-returns-in-None : goal.option_pat-returns-in-None
option_pat-returns-in-None t c = rw c.in-None.is rule.option_pat-None

pub pat_place-returns-in-Some : goal.pat_place-returns-in-Some
pat_place-returns-in-Some t c = rw c.in-Some.is (if_ok c.pat.result rule.pat_place-Some (rw c.in-Some.pat-is at c.pat.ensures))

pub pat_place-returns-in-None : goal.pat_place-returns-in-None
pat_place-returns-in-None t c = rw c.in-None.is rule.pat_place-None

pub each_pat-loop-index-init : goal.each_pat-loop-index-init
each_pat-loop-index-init t c = ((refl, λ k d le. refl), (λ role occurs. none_so_far Anywhere (pat_items role)))

pub each_pat-loop-index-preserved : goal.each_pat-loop-index-preserved
each_pat-loop-index-preserved t c = (visited _ _ _ _ c.loop-index.invariant.0, (λ role occurs. one_more Anywhere (pat_items role) _ _ _ (rw (c.len-index-end.ensures ∙ c.args.list.now.ok.0) at c.loop-index-test.true) c.loop-index.invariant.0 c.index_mut.ensures.value (c.loop-index.invariant.1 role occurs) (c.in_ok-pat.ensures role occurs)))

pub each_pat-returns : goal.each_pat-returns
each_pat-returns t c = λ role occurs. all_of_them Anywhere (pat_items role) (each_pat_items role) (row.all_pat role) (rw (c.len-index-end.ensures ∙ c.args.list.now.ok.0) at c.loop-index-test.false) c.loop-index.invariant.0 (c.loop-index.invariant.1 role occurs)

pub each_option_pat-loop-index-init : goal.each_option_pat-loop-index-init
each_option_pat-loop-index-init t c = ((refl, λ k d le. refl), (λ role occurs. none_so_far Anywhere (pat_place_items role)))

pub each_option_pat-loop-index-preserved : goal.each_option_pat-loop-index-preserved
each_option_pat-loop-index-preserved t c = (visited _ _ _ _ c.loop-index.invariant.0, (λ role occurs. one_more Anywhere (pat_place_items role) _ _ _ (rw (c.len-index-end.ensures ∙ c.args.list.now.ok.0) at c.loop-index-test.true) c.loop-index.invariant.0 c.index_mut.ensures.value (c.loop-index.invariant.1 role occurs) (c.in_ok-pat_place.ensures role occurs)))

pub each_option_pat-returns : goal.each_option_pat-returns
each_option_pat-returns t c = λ role occurs. all_of_them Anywhere (pat_place_items role) (each_option_pat_items role) (row.all_option_pat role) (rw (c.len-index-end.ensures ∙ c.args.list.now.ok.0) at c.loop-index-test.false) c.loop-index.invariant.0 (c.loop-index.invariant.1 role occurs)

pub array_pat-returns : goal.array_pat-returns
array_pat-returns t c = if_ok c.each_option_pat.result rule.array_pat c.each_option_pat.ensures

pub rest_pat-returns : goal.rest_pat-returns
rest_pat-returns t c = if_ok c.boxed_pat.result rule.rest_pat c.boxed_pat.ensures

pub object_pat-returns : goal.object_pat-returns
object_pat-returns t c = if_ok c.each_object_pat_prop.result rule.object_pat c.each_object_pat_prop.ensures

pub object_pat_prop-returns-in_ok-prop_name-in-KeyValuePatProp : goal.object_pat_prop-returns-in_ok-prop_name-in-KeyValuePatProp
unfolding v_object_pat_prop.out-ObjectPatProp denote.Hole.Carrier.out
object_pat_prop-returns-in_ok-prop_name-in-KeyValuePatProp t c = rw c.in-KeyValuePatProp.is (if_ok c.pat.result (rule.object_pat_prop-KeyValuePatProp (rw c.in-KeyValuePatProp.key-is at c.in_ok-prop_name-in-KeyValuePatProp.ensures)) (rw c.in-KeyValuePatProp.value-is at c.pat.ensures))

pub object_pat_prop-returns-in-Some : goal.object_pat_prop-returns-in-Some
unfolding v_object_pat_prop.out-ObjectPatProp denote.Hole.Carrier.out
object_pat_prop-returns-in-Some t c = rw c.in-AssignPatProp.is (rw c.in-Some.is at (rw c.in-AssignPatProp.value-is at (rw c.in-AssignPatProp.key-is at c.in_ok-pair-in-AssignPatProp.ensures)))

pub object_pat_prop-returns-in-None : goal.object_pat_prop-returns-in-None
unfolding v_object_pat_prop.out-ObjectPatProp denote.Hole.Carrier.out
object_pat_prop-returns-in-None t c = rw c.in-AssignPatProp.is (rw c.in-None.is at (rw c.in-AssignPatProp.value-is at (rw c.in-AssignPatProp.key-is at c.in_ok-pair-in-AssignPatProp.ensures)))

pub object_pat_prop-returns-in-RestPat : goal.object_pat_prop-returns-in-RestPat
unfolding v_object_pat_prop.out-ObjectPatProp denote.Hole.Carrier.out
object_pat_prop-returns-in-RestPat t c = rw c.in-RestPat.is (if_ok c.rest_pat.result rule.object_pat_prop-RestPat (rw c.in-RestPat.it-is at c.rest_pat.ensures))

pub short_pat_prop-returns-in_ok-key : goal.short_pat_prop-returns-in_ok-key
short_pat_prop-returns-in_ok-key t c = pattern-spelled_out {name = record { id = c.in_ok-id.id }} c.in_ok-key.key c.in_ok-value.value c.in_ok-id.ensures c.in_ok-option_expr.ensures (sym c.spells_out-is_spelled_out.ensures ∙ c.if-is_spelled_out.true) (c.in_ok-key.ensures ∙ ap plain_key c.as_str.ensures.value) (λ role field. c.in_ok-value.ensures role field ∙ ap (with_default_items role field (v_pat.BindingIdent (record { id = c.in_ok-id.id }))) c.take.ensures.value)

pub short_pat_prop-returns-in_ok-option_expr-2 : goal.short_pat_prop-returns-in_ok-option_expr-2
short_pat_prop-returns-in_ok-option_expr-2 t c = pattern-stays c.in_ok-ident.ensures c.in_ok-option_expr-2.ensures (sym c.spells_out-is_spelled_out.ensures ∙ c.if-is_spelled_out.false)

pub each_object_pat_prop-loop-index-init : goal.each_object_pat_prop-loop-index-init
each_object_pat_prop-loop-index-init t c = ((refl, λ k d le. refl), (λ role occurs. none_so_far Anywhere (object_pat_prop_items role)))

pub each_object_pat_prop-loop-index-preserved : goal.each_object_pat_prop-loop-index-preserved
each_object_pat_prop-loop-index-preserved t c = (visited _ _ _ _ c.loop-index.invariant.0, (λ role occurs. one_more Anywhere (object_pat_prop_items role) _ _ _ (rw (c.len-index-end.ensures ∙ c.args.list.now.ok.0) at c.loop-index-test.true) c.loop-index.invariant.0 c.index_mut.ensures.value (c.loop-index.invariant.1 role occurs) (c.in_ok-object_pat_prop.ensures role occurs)))

pub each_object_pat_prop-returns : goal.each_object_pat_prop-returns
each_object_pat_prop-returns t c = λ role occurs. all_of_them Anywhere (object_pat_prop_items role) (each_object_pat_prop_items role) (row.all_object_pat_prop role) (rw (c.len-index-end.ensures ∙ c.args.list.now.ok.0) at c.loop-index-test.false) c.loop-index.invariant.0 (c.loop-index.invariant.1 role occurs)

pub assign_target-returns-in-BindingIdent : goal.assign_target-returns-in-BindingIdent
unfolding v_assign_target.out-AssignTarget denote.Hole.Carrier.out
assign_target-returns-in-BindingIdent t c = rw c.in-BindingIdent.is (if_ok c.binding_ident.result rule.assign_target-BindingIdent (rw c.in-BindingIdent.it-is at c.binding_ident.ensures))

pub assign_target-returns-in-MemberExpr : goal.assign_target-returns-in-MemberExpr
unfolding v_assign_target.out-AssignTarget denote.Hole.Carrier.out
assign_target-returns-in-MemberExpr t c = rw c.in-MemberExpr.is (if_ok c.member_expr.result rule.assign_target-MemberExpr (rw c.in-MemberExpr.it-is at c.member_expr.ensures))

pub assign_target-returns-in-SuperPropExpr : goal.assign_target-returns-in-SuperPropExpr
unfolding v_assign_target.out-AssignTarget denote.Hole.Carrier.out
assign_target-returns-in-SuperPropExpr t c = rw c.in-SuperPropExpr.is (if_ok c.super_prop_expr.result rule.assign_target-SuperPropExpr (rw c.in-SuperPropExpr.it-is at c.super_prop_expr.ensures))

pub assign_target-returns-in-ParenExpr : goal.assign_target-returns-in-ParenExpr
unfolding v_assign_target.out-AssignTarget denote.Hole.Carrier.out
assign_target-returns-in-ParenExpr t c = rw c.in-ParenExpr.is (if_ok c.paren_expr.result rule.assign_target-ParenExpr (rw c.in-ParenExpr.it-is at c.paren_expr.ensures))

pub assign_target-returns-in-ArrayPat : goal.assign_target-returns-in-ArrayPat
unfolding v_assign_target.out-AssignTarget denote.Hole.Carrier.out
assign_target-returns-in-ArrayPat t c = rw c.in-ArrayPat.is (if_ok c.array_pat.result rule.assign_target-ArrayPat (rw c.in-ArrayPat.it-is at c.array_pat.ensures))

pub assign_target-returns-in-ObjectPat : goal.assign_target-returns-in-ObjectPat
unfolding v_assign_target.out-AssignTarget denote.Hole.Carrier.out
assign_target-returns-in-ObjectPat t c = rw c.in-ObjectPat.is (if_ok c.object_pat.result rule.assign_target-ObjectPat (rw c.in-ObjectPat.it-is at c.object_pat.ensures))

pub function-returns : goal.function-returns
function-returns t c = if_ok c.block_stmt.result (λ two. rule.function c.in_ok-each_param.ensures two refl refl) c.block_stmt.ensures

pub param-returns : goal.param-returns
param-returns t c = if_ok c.pat.result rule.param c.pat.ensures

pub each_param-loop-index-init : goal.each_param-loop-index-init
each_param-loop-index-init t c = ((refl, λ k d le. refl), (none_so_far Anywhere param_items))

pub each_param-loop-index-preserved : goal.each_param-loop-index-preserved
each_param-loop-index-preserved t c = (visited _ _ _ _ c.loop-index.invariant.0, (one_more Anywhere param_items _ _ _ (rw (c.len-index-end.ensures ∙ c.args.list.now.ok.0) at c.loop-index-test.true) c.loop-index.invariant.0 c.index_mut.ensures.value c.loop-index.invariant.1 c.in_ok-param.ensures))

pub each_param-returns : goal.each_param-returns
each_param-returns t c = all_of_them Anywhere param_items each_param_items row.all_param (rw (c.len-index-end.ensures ∙ c.args.list.now.ok.0) at c.loop-index-test.false) c.loop-index.invariant.0 c.loop-index.invariant.1

pub class-returns : goal.class-returns
class-returns t c = if_ok c.each_class_member.result (rule.class c.in_ok-option_boxed_expr.ensures) c.each_class_member.ensures

pub class_member-returns-in_ok-each_param-in-Constructor : goal.class_member-returns-in_ok-each_param-in-Constructor
unfolding v_class_member.out-ClassMember denote.Hole.Carrier.out
class_member-returns-in_ok-each_param-in-Constructor t c = rw c.in-Constructor.is (if_ok c.block_stmt.result (rule.class_member-Constructor (rw c.in-Constructor.params-is at c.in_ok-each_param-in-Constructor.ensures)) (rw c.in-Constructor.body-is at c.block_stmt.ensures))

pub class_member-returns-in_ok-prop_name-in-ClassMethod : goal.class_member-returns-in_ok-prop_name-in-ClassMethod
unfolding v_class_member.out-ClassMember denote.Hole.Carrier.out
class_member-returns-in_ok-prop_name-in-ClassMethod t c = rw c.in-ClassMethod.is (if_ok c.function.result (rule.class_member-ClassMethod (rw c.in-ClassMethod.key-is at c.in_ok-prop_name-in-ClassMethod.ensures)) (rw c.in-ClassMethod.function-is at c.function.ensures))

pub class_member-returns-in-PrivateMethod : goal.class_member-returns-in-PrivateMethod
unfolding v_class_member.out-ClassMember denote.Hole.Carrier.out
class_member-returns-in-PrivateMethod t c = rw c.in-PrivateMethod.is (if_ok c.function-in-PrivateMethod.result rule.class_member-PrivateMethod (rw c.in-PrivateMethod.function-is at c.function-in-PrivateMethod.ensures))

pub class_member-returns-in_ok-prop_name-in-ClassProp : goal.class_member-returns-in_ok-prop_name-in-ClassProp
unfolding v_class_member.out-ClassMember denote.Hole.Carrier.out
class_member-returns-in_ok-prop_name-in-ClassProp t c = rw c.in-ClassProp.is (if_ok c.option_expr.result (rule.class_member-ClassProp (rw c.in-ClassProp.key-is at c.in_ok-prop_name-in-ClassProp.ensures)) (rw c.in-ClassProp.value-is at c.option_expr.ensures))

pub class_member-returns-in-PrivateProp : goal.class_member-returns-in-PrivateProp
unfolding v_class_member.out-ClassMember denote.Hole.Carrier.out
class_member-returns-in-PrivateProp t c = rw c.in-PrivateProp.is (if_ok c.option_expr-in-PrivateProp.result rule.class_member-PrivateProp (rw c.in-PrivateProp.value-is at c.option_expr-in-PrivateProp.ensures))

pub class_member-returns-in-StaticBlock : goal.class_member-returns-in-StaticBlock
unfolding v_class_member.out-ClassMember denote.Hole.Carrier.out
class_member-returns-in-StaticBlock t c = rw c.in-StaticBlock.is (if_ok c.block_stmt-in-StaticBlock.result rule.class_member-StaticBlock (rw c.in-StaticBlock.body-is at c.block_stmt-in-StaticBlock.ensures))

pub class_member-returns-in-EmptyStmt : goal.class_member-returns-in-EmptyStmt
class_member-returns-in-EmptyStmt t c = rw c.in-EmptyStmt.is rule.class_member-EmptyStmt

pub each_class_member-loop-index-init : goal.each_class_member-loop-index-init
each_class_member-loop-index-init t c = ((refl, λ k d le. refl), (none_so_far Anywhere class_member_items))

pub each_class_member-loop-index-preserved : goal.each_class_member-loop-index-preserved
each_class_member-loop-index-preserved t c = (visited _ _ _ _ c.loop-index.invariant.0, (one_more Anywhere class_member_items _ _ _ (rw (c.len-index-end.ensures ∙ c.args.list.now.ok.0) at c.loop-index-test.true) c.loop-index.invariant.0 c.index_mut.ensures.value c.loop-index.invariant.1 c.in_ok-class_member.ensures))

pub each_class_member-returns : goal.each_class_member-returns
each_class_member-returns t c = all_of_them Anywhere class_member_items each_class_member_items row.all_class_member (rw (c.len-index-end.ensures ∙ c.args.list.now.ok.0) at c.loop-index-test.false) c.loop-index.invariant.0 c.loop-index.invariant.1
