-- What is made of a node that begins there, by what it holds and its end.
use Rattle.bundle_tree_listed.specs.Tree.{module_items}
use Rattle.bundle_tree_parse.specs.Sorts.{AModule}
use Rattle.bundle_tree_parse.proofs.Parsing.{place_built}
use Rattle.bundle_tree_parse.proofs.build.Builder.module.Goals as goal

pub returns : goal.returns
returns c =
    place_built c.module_of-it.result c.leave.result module_items _ _ _ _ _ _ _ _
    (c.in_ok-node.ensures.taken AModule) c.in_ok-node.ensures.item c.module_of-it.ensures c.leave.ensures
