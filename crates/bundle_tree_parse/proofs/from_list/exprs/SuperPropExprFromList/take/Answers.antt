-- What is made of a node that begins there, by what it holds and its end.
use Rattle.bundle_tree_listed.specs.Tree.{super_prop_expr_items}
use Rattle.bundle_tree_parse.specs.Sorts.{ASuperMember}
use Rattle.bundle_tree_parse.proofs.Parsing.{place_built}
use Rattle.bundle_tree_parse.proofs.from_list.exprs.SuperPropExprFromList.take.Goals as goal

pub returns : goal.returns
returns c =
    place_built c.super_prop_expr_of-it.result c.leave.result super_prop_expr_items c.args.field _ _ _ _ _ _ _
    (c.in_ok-node.ensures.taken ASuperMember) c.in_ok-node.ensures.item c.super_prop_expr_of-it.ensures c.leave.ensures
