-- What is made of a node that begins there, by what it holds and its end.
use Rattle.bundle_tree_listed.specs.Tree.{default_decl_items}
use Rattle.bundle_tree_parse.specs.Sorts.{ADefault}
use Rattle.bundle_tree_parse.proofs.Parsing.{place_built}
use Rattle.bundle_tree_parse.proofs.build.Builder.default_decl.Goals as goal

pub returns : goal.returns
returns c =
    place_built c.default_decl_of-it.result c.leave.result default_decl_items c.args.field _ _ _ _ _ _ _
    (c.in_ok-node.ensures.taken ADefault) c.in_ok-node.ensures.item c.default_decl_of-it.ensures c.leave.ensures
