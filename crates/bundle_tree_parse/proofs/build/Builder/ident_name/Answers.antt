-- What is made of a node that begins there, by what it holds and its end.
use Rattle.bundle_tree_listed.specs.Tree.{ident_name_items}
use Rattle.bundle_tree_parse.specs.Sorts.{AWord}
use Rattle.bundle_tree_parse.proofs.Parsing.{leaf_built}
use Rattle.bundle_tree_parse.proofs.build.Builder.ident_name.Goals as goal

pub returns : goal.returns
returns c =
    leaf_built c.ident_name_of-it.result c.leave.result ident_name_items c.args.field _ _ _ _ _ _ _
    (c.in_ok-node.ensures.taken AWord) c.in_ok-node.ensures.item c.ident_name_of-it.ensures c.leave.ensures
