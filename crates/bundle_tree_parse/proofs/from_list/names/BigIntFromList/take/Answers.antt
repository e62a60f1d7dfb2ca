-- What is made of a node that begins there, by what it holds and its end.
use Rattle.bundle_tree_listed.specs.Tree.{big_int_items}
use Rattle.bundle_tree_parse.specs.Sorts.{ABigInt}
use Rattle.bundle_tree_parse.proofs.Parsing.{leaf_built}
use Rattle.bundle_tree_parse.proofs.from_list.names.BigIntFromList.take.Goals as goal

pub returns : goal.returns
returns c =
    leaf_built c.big_int_of-it.result c.leave.result big_int_items c.args.field _ _ _ _ _ _ _
    (c.in_ok-node.ensures.taken ABigInt) c.in_ok-node.ensures.item c.big_int_of-it.ensures c.leave.ensures
