-- A function with two parameters.
use Rattle.std.proofs.Common.{◌∙◌, ap}
use Rattle.std.proofs.lemmas.Result.{IfOk-weaker}
use Rattle.bundle_syntax.specs.Item as h
use Rattle.bundle_tree_listed.specs.Tree.{each_stmt_items, node}
use Rattle.bundle_merge_injected.specs.Listed.{argument, function_in}
use Rattle.bundle_merge_injected.proofs.common_js.load_argument.Goals as goal

pub returns : goal.returns
returns c =
    IfOk-weaker c.one_argument.result _ _ (λ made is. is ∙ ap argument (c.function.ensures 1 ∙ ap (λ params. node 1 h.FnExpr (function_in 1 params (each_stmt_items 0 c.args.stmts))) c.in_ok-params.ensures)) c.one_argument.ensures
