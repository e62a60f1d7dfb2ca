-- The statements, and behind them the object that is returned.
use Rattle.std.proofs.Common.{◌∙◌, ap, map}
use Rattle.std.proofs.lemmas.Result.{IfOk-weaker}
use Rattle.bundle_tree_listed.specs.Tree.{each_stmt_items, stmt_items}
use Rattle.bundle_tree_listed.proofs.Rows.{all_stmt}
use Rattle.bundle_merge_injected.specs.Listed.{pair_of}
use Rattle.bundle_merge_forms.proofs.Objects.{called_is}
use Rattle.bundle_merge_forms.proofs.wrap.call_of.Goals as goal

pub returns : goal.returns
returns c =
    IfOk-weaker c.function_call.result _ _ (λ made is.
    called_is (stmt_items 0 made) c.in_ok-is_async.is_async _ (each_stmt_items 0 c.in_ok-stmts.stmts) _ (map pair_of c.as_slice.result.now) _ is
    c.in_ok-is_async.ensures
    (all_stmt 0 c.in_ok-stmts.stmts ∙ c.in_ok-stmts.ensures)
    (ap (map pair_of) c.as_slice.ensures.value ∙ c.in_ok-pairs.ensures)) c.function_call.ensures
