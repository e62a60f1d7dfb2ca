-- A list of one.
use Rattle.bundle_tree_listed.specs.Tree.{expr_items}
use Rattle.bundle_merge_injected.specs.Listed.{argument}
use Rattle.bundle_merge_injected.proofs.Parts.{one_argument}
use Rattle.bundle_merge_injected.proofs.row.one_argument.Goals as goal

pub returns : goal.returns
returns c = one_argument c.in_ok-args.args c.argument.result (argument (expr_items 1 c.args.expr)) c.in_ok-args.ensures.items c.argument.ensures
