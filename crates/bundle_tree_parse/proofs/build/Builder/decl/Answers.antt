-- What is made of a node that begins there, by what it holds and its end.
use Rattle.bundle_tree_listed.specs.Tree.{decl_items}
use Rattle.bundle_tree_parse.specs.Sorts.{ADecl}
use Rattle.bundle_tree_parse.proofs.Parsing.{place_built}
use Rattle.bundle_tree_parse.proofs.build.Builder.decl.Goals as goal

pub returns : goal.returns
returns c =
    place_built c.decl_of-it.result c.leave.result decl_items c.args.field _ _ _ _ _ _ _
    (c.in_ok-node.ensures.taken ADecl) c.in_ok-node.ensures.item c.decl_of-it.ensures c.leave.ensures
