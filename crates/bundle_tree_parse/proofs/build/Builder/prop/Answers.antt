-- What is made of a node that begins there, by what it holds and its end.
use Rattle.bundle_tree_listed.specs.Tree.{prop_items}
use Rattle.bundle_tree_parse.specs.Sorts.{AProperty}
use Rattle.bundle_tree_parse.proofs.Parsing.{place_built}
use Rattle.bundle_tree_parse.proofs.build.Builder.prop.Goals as goal

pub returns : goal.returns
returns c =
    place_built c.prop_of-it.result c.leave.result prop_items c.args.field _ _ _ _ _ _ _
    (c.in_ok-node.ensures.taken AProperty) c.in_ok-node.ensures.item c.prop_of-it.ensures c.leave.ensures
