-- What is made of a node that begins there, by what it holds and its end.
use Rattle.bundle_tree_listed.specs.Tree.{tpl_element_items}
use Rattle.bundle_tree_parse.specs.Sorts.{ATextPart}
use Rattle.bundle_tree_parse.proofs.Parsing.{leaf_built}
use Rattle.bundle_tree_parse.proofs.build.Builder.tpl_element.Goals as goal

pub returns : goal.returns
returns c =
    leaf_built c.tpl_element_of-it.result c.leave.result tpl_element_items c.args.field _ _ _ _ _ _ _
    (c.in_ok-node.ensures.taken ATextPart) c.in_ok-node.ensures.item c.tpl_element_of-it.ensures c.leave.ensures
