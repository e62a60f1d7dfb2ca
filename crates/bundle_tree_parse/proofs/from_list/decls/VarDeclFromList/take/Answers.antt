-- What is made of a node that begins there, by what it holds and its end.
use Rattle.bundle_tree_listed.specs.Tree.{var_decl_items}
use Rattle.bundle_tree_parse.specs.Sorts.{AVarDecl}
use Rattle.bundle_tree_parse.proofs.Parsing.{place_built}
use Rattle.bundle_tree_parse.proofs.from_list.decls.VarDeclFromList.take.Goals as goal

pub returns : goal.returns
returns c =
    place_built c.var_decl_of-it.result c.leave.result var_decl_items c.args.field _ _ _ _ _ _ _
    (c.in_ok-node.ensures.taken AVarDecl) c.in_ok-node.ensures.item c.var_decl_of-it.ensures c.leave.ensures
