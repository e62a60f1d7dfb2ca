-- What is made of a node that begins there, by what it holds and its end.
use Rattle.bundle_tree_listed.specs.Tree.{module_decl_items}
use Rattle.bundle_tree_parse.specs.Sorts.{AModuleDecl}
use Rattle.bundle_tree_parse.proofs.Parsing.{place_built}
use Rattle.bundle_tree_parse.proofs.from_list.modules.ModuleDeclFromList.take.Goals as goal

pub returns : goal.returns
returns c =
    place_built c.module_decl_of-it.result c.leave.result module_decl_items c.args.field _ _ _ _ _ _ _
    (c.in_ok-node.ensures.taken AModuleDecl) c.in_ok-node.ensures.item c.module_decl_of-it.ensures c.leave.ensures
