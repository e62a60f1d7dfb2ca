-- What is made of a node that begins there, by what it holds and its end.
use Rattle.bundle_tree_listed.specs.Tree.{paren_expr_items}
use Rattle.bundle_tree_parse.specs.Sorts.{AParen}
use Rattle.bundle_tree_parse.proofs.Parsing.{place_built}
use Rattle.bundle_tree_parse.proofs.from_list.exprs.ParenExprFromList.take.Goals as goal

pub returns : goal.returns
returns c =
    place_built c.paren_expr_of-it.result c.leave.result paren_expr_items c.args.field _ _ _ _ _ _ _
    (c.in_ok-node.ensures.taken AParen) c.in_ok-node.ensures.item c.paren_expr_of-it.ensures c.leave.ensures
