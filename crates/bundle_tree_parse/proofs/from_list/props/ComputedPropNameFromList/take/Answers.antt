-- What is made of a node that begins there, by what it holds and its end.
use Rattle.bundle_tree_listed.specs.Tree.{computed_prop_name_items}
use Rattle.bundle_tree_parse.specs.Sorts.{AComputedKey}
use Rattle.bundle_tree_parse.proofs.Parsing.{place_built}
use Rattle.bundle_tree_parse.proofs.from_list.props.ComputedPropNameFromList.take.Goals as goal

pub returns : goal.returns
returns c =
    place_built c.computed_prop_name_of-it.result c.leave.result computed_prop_name_items c.args.field _ _ _ _ _ _ _
    (c.in_ok-node.ensures.taken AComputedKey) c.in_ok-node.ensures.item c.computed_prop_name_of-it.ensures c.leave.ensures
