-- What is made of a node that begins there, by what it holds and its end.
use Rattle.bundle_tree_listed.specs.Tree.{str_items}
use Rattle.bundle_tree_parse.specs.Sorts.{AString}
use Rattle.bundle_tree_parse.proofs.Parsing.{leaf_built}
use Rattle.bundle_tree_parse.proofs.build.Builder.str.Goals as goal

pub returns : goal.returns
returns c =
    leaf_built c.str_of-it.result c.leave.result str_items c.args.field _ _ _ _ _ _ _
    (c.in_ok-node.ensures.taken AString) c.in_ok-node.ensures.item c.str_of-it.ensures c.leave.ensures
