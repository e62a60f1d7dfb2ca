-- No parameter.
use Rattle.std.proofs.Common.{ap, ◌++◌, false}
use Rattle.bundle_syntax.specs.Item as h
use Rattle.bundle_tree_listed.specs.Tree.{each_stmt_items, node, stmt_items}
use Rattle.bundle_merge_injected.proofs.Parts.{no_param}
use Rattle.bundle_merge_injected.proofs.call.body_of.Goals as goal

pub returns : goal.returns
unfolding stmt_items
returns c =
    ap (λ params. node 0 h.FnExpr (node 1 (h.Function false c.args.is_async) (params ++ node 1 h.BlockStmt (each_stmt_items 0 c.args.stmts)))) (no_param c.new-params.result c.new-params.ensures.items)
