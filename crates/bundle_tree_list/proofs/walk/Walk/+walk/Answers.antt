-- Arms whose nodes hold further nodes by value: the list of the whole, written out, closes them.
use Rattle.std.proofs.Common.{ap, ◌∙◌, arith}
use Rattle.std.proofs.lemmas.Grind.{common_steps}
use Rattle.bundle_tree_listed.specs.Tree.{expr_items, prop_items, stmt_items}
use Rattle.bundle_tree_listed.proofs.Steps as step
use Rattle.bundle_tree_list.proofs.walk.Walk.+walk.Goals as goal

pub stmt-returns-in_ok-option_block_stmt-in-TryStmt : goal.stmt-returns-in_ok-option_block_stmt-in-TryStmt
stmt-returns-in_ok-option_block_stmt-in-TryStmt t c =
    let whole = ap (stmt_items c.args.field) c.in-TryStmt.is ∙ step.stmt_items-TryStmt _ _ _ _ _ in
    grind (arith, common_steps, whole)

pub expr-returns-in_ok-class-in-ClassExpr : goal.expr-returns-in_ok-class-in-ClassExpr
expr-returns-in_ok-class-in-ClassExpr t c =
    let whole = ap (expr_items c.args.field) c.in-ClassExpr.is ∙ step.expr_items-ClassExpr _ _ _ _ _ in
    grind (arith, common_steps, whole)

pub expr-returns-in_ok-function-in-FnExpr : goal.expr-returns-in_ok-function-in-FnExpr
expr-returns-in_ok-function-in-FnExpr t c =
    let whole = ap (expr_items c.args.field) c.in-FnExpr.is ∙ step.expr_items-FnExpr _ _ _ _ _ _ _ _ in
    grind (arith, common_steps, whole)

pub expr-returns-in_ok-tpl-in-TaggedTpl : goal.expr-returns-in_ok-tpl-in-TaggedTpl
expr-returns-in_ok-tpl-in-TaggedTpl t c =
    let whole = ap (expr_items c.args.field) c.in-TaggedTpl.is ∙ step.expr_items-TaggedTpl _ _ _ _ _ _ in
    grind (arith, common_steps, whole)

pub prop-returns-in_ok-block_stmt-in-SetterProp : goal.prop-returns-in_ok-block_stmt-in-SetterProp
prop-returns-in_ok-block_stmt-in-SetterProp t c =
    let whole = ap (prop_items c.args.field) c.in-SetterProp.is ∙ step.prop_items-SetterProp _ _ _ _ _ in
    grind (arith, common_steps, whole)
