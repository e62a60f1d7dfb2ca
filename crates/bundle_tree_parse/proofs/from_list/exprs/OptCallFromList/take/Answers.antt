-- What is made of a node that begins there, by what it holds and its end.
use Rattle.bundle_tree_listed.specs.Tree.{opt_call_items}
use Rattle.bundle_tree_parse.specs.Sorts.{AnOptCall}
use Rattle.bundle_tree_parse.proofs.Parsing.{place_built}
use Rattle.bundle_tree_parse.proofs.from_list.exprs.OptCallFromList.take.Goals as goal

pub returns : goal.returns
returns c =
    place_built c.opt_call_of-it.result c.leave.result opt_call_items c.args.field _ _ _ _ _ _ _
    (c.in_ok-node.ensures.taken AnOptCall) c.in_ok-node.ensures.item c.opt_call_of-it.ensures c.leave.ensures
