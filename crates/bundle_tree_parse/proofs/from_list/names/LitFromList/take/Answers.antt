-- What is made of a node that begins there, by what it holds and its end.
use Rattle.bundle_tree_listed.specs.Tree.{lit_items}
use Rattle.bundle_tree_parse.specs.Sorts.{ALiteral}
use Rattle.bundle_tree_parse.proofs.Parsing.{leaf_built}
use Rattle.bundle_tree_parse.proofs.from_list.names.LitFromList.take.Goals as goal

pub returns : goal.returns
returns c =
    leaf_built c.lit_of-it.result c.leave.result lit_items c.args.field _ _ _ _ _ _ _
    (c.in_ok-node.ensures.taken ALiteral) c.in_ok-node.ensures.item c.lit_of-it.ensures c.leave.ensures
