-- What is made of a node that begins there, by what it holds and its end.
use Rattle.bundle_tree_listed.specs.Tree.{key_value_prop_items}
use Rattle.bundle_tree_parse.specs.Sorts.{AKeyValue}
use Rattle.bundle_tree_parse.proofs.Parsing.{place_built}
use Rattle.bundle_tree_parse.proofs.build.Builder.key_value_prop.Goals as goal

pub returns : goal.returns
returns c =
    place_built c.key_value_prop_of-it.result c.leave.result key_value_prop_items c.args.field _ _ _ _ _ _ _
    (c.in_ok-node.ensures.taken AKeyValue) c.in_ok-node.ensures.item c.key_value_prop_of-it.ensures c.leave.ensures
