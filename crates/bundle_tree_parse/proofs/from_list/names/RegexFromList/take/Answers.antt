-- What is made of a node that begins there, by what it holds and its end.
use Rattle.bundle_tree_listed.specs.Tree.{regex_items}
use Rattle.bundle_tree_parse.specs.Sorts.{ARegex}
use Rattle.bundle_tree_parse.proofs.Parsing.{leaf_built}
use Rattle.bundle_tree_parse.proofs.from_list.names.RegexFromList.take.Goals as goal

pub returns : goal.returns
returns c =
    leaf_built c.regex_of-it.result c.leave.result regex_items c.args.field _ _ _ _ _ _ _
    (c.in_ok-node.ensures.taken ARegex) c.in_ok-node.ensures.item c.regex_of-it.ensures c.leave.ensures
