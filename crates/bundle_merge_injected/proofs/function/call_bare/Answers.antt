-- No argument.
use Rattle.std.proofs.Common.{◌≡◌, ◌∙◌, ℕ, ap, []}
use Rattle.std.proofs.lemmas.Result.{IfOk-weaker}
use Rattle.bundle_tree_listed.specs.Tree.{each_expr_or_spread_items, expr_items}
use Rattle.bundle_merge_injected.specs.Listed.{call_in}
use Rattle.bundle_merge_injected.proofs.Parts.{no_argument}
use Rattle.bundle_merge_injected.proofs.function.call_bare.Goals as goal

pub returns : goal.returns
returns c =
    IfOk-weaker c.call.result (λ made. (field : ℕ) → expr_items field made ≡ call_in field (expr_items 0 c.args.callee) (each_expr_or_spread_items 1 c.new-args.result))
    (λ made. (field : ℕ) → expr_items field made ≡ call_in field (expr_items 0 c.args.callee) [])
    (λ made is. λ field. is field ∙ ap (call_in field (expr_items 0 c.args.callee)) (no_argument c.new-args.result c.new-args.ensures.items)) c.call.ensures
