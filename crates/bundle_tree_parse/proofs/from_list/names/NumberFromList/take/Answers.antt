-- What is made of a node that begins there, by what it holds and its end.
use Rattle.bundle_tree_listed.specs.Tree.{number_items}
use Rattle.bundle_tree_parse.specs.Sorts.{ANumber}
use Rattle.bundle_tree_parse.proofs.Parsing.{leaf_built}
use Rattle.bundle_tree_parse.proofs.from_list.names.NumberFromList.take.Goals as goal

pub returns : goal.returns
returns c =
    leaf_built c.number_of-it.result c.leave.result number_items c.args.field _ _ _ _ _ _ _
    (c.in_ok-node.ensures.taken ANumber) c.in_ok-node.ensures.item c.number_of-it.ensures c.leave.ensures
