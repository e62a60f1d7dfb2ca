-- The object is returned behind the statements.
use Rattle.std.proofs.Common.{◌∙◌, ap, ◌++◌}
use Rattle.bundle_syntax.specs.Item as h
use Rattle.bundle_tree_listed.specs.Tree.{each_stmt_items, node, stmt_items}
use Rattle.bundle_merge_injected.specs.Listed.{called}
use Rattle.bundle_merge_injected.proofs.call.function_call.Goals as goal

pub returns : goal.returns
unfolding stmt_items
returns c =
    ap (node 0 h.ExprStmt) (c.in_ok-expr.ensures ∙ ap (called c.args.is_async) (c.in_ok-whole.ensures ∙ ap (λ last. each_stmt_items 0 c.args.stmts ++ last) c.in_ok-returned.ensures))
