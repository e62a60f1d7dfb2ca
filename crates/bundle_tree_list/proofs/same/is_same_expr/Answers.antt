-- By the kind of expression.
use Rattle.bundle_tree_list.proofs.Part.{told}
use Rattle.bundle_tree_list.proofs.Trees.{same_expr}
use Rattle.bundle_tree_list.proofs.same.is_same_expr.Goals as goal

pub returns : goal.returns
returns c = told c.eq.ensures (same_expr 0 c.args.expr.now c.args.other.now).same
