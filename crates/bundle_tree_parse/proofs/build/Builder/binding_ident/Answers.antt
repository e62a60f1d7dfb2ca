-- What is made of a node that begins there, by what it holds and its end.
use Rattle.bundle_tree_listed.specs.Tree.{binding_ident_items}
use Rattle.bundle_tree_parse.specs.Sorts.{ABindingIdent}
use Rattle.bundle_tree_parse.proofs.Parsing.{place_built}
use Rattle.bundle_tree_parse.proofs.build.Builder.binding_ident.Goals as goal

pub returns : goal.returns
returns c =
    place_built c.binding_ident_of-it.result c.leave.result (binding_ident_items c.args.role) c.args.field _ _ _ _ _ _ _
    (c.in_ok-node.ensures.taken (ABindingIdent c.args.role)) c.in_ok-node.ensures.item (c.binding_ident_of-it.ensures _) c.leave.ensures
