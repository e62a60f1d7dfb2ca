-- What is made of a node that begins there, by what it holds and its end.
use Rattle.bundle_tree_listed.specs.Tree.{member_expr_items}
use Rattle.bundle_tree_parse.specs.Sorts.{AMemberExpr}
use Rattle.bundle_tree_parse.proofs.Parsing.{place_built}
use Rattle.bundle_tree_parse.proofs.from_list.exprs.MemberExprFromList.take.Goals as goal

pub returns : goal.returns
returns c =
    place_built c.member_expr_of-it.result c.leave.result member_expr_items c.args.field _ _ _ _ _ _ _
    (c.in_ok-node.ensures.taken AMemberExpr) c.in_ok-node.ensures.item c.member_expr_of-it.ensures c.leave.ensures
