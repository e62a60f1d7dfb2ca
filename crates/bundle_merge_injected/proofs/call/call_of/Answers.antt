-- A function in parentheses, called with no argument.
use Rattle.std.proofs.Common.{◌∙◌, ap, append-nil, [], false}
use Rattle.std.proofs.lemmas.Result.{IfOk-weaker}
use Rattle.bundle_syntax.specs.Item as h
use Rattle.bundle_tree_listed.specs.Tree.{each_stmt_items, expr_items, node, stmt_items}
use Rattle.bundle_merge_injected.specs.Listed.{call_in}
use Rattle.bundle_merge_injected.proofs.call.call_of.Goals as goal

pub returns : goal.returns
unfolding stmt_items
returns c =
    IfOk-weaker c.call_bare.result _ _ (λ made is. is 0
    ∙ ap (λ e. call_in 0 (node 0 h.ParenExpr (expr_items 0 e)) []) c.in_ok-expr.ensures.ok
    ∙ ap (λ inner. call_in 0 (node 0 h.ParenExpr inner) []) c.body_of.ensures
    ∙ ap (node 0 h.CallExpr) (append-nil (node 0 h.ParenExpr (node 0 h.FnExpr (node 1 (h.Function false c.args.is_async) (node 1 h.BlockStmt (each_stmt_items 0 c.args.stmts))))))) c.call_bare.ensures
