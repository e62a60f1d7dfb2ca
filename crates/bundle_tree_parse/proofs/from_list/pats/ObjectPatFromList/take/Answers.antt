-- What is made of a node that begins there, by what it holds and its end.
use Rattle.bundle_syntax.specs.declared.piece.Role.TheVariants.{Binding}
use Rattle.bundle_tree_listed.specs.Tree.{object_pat_items}
use Rattle.bundle_tree_parse.specs.Sorts.{AnObjectPattern}
use Rattle.bundle_tree_parse.proofs.Parsing.{place_built}
use Rattle.bundle_tree_parse.proofs.from_list.pats.ObjectPatFromList.take.Goals as goal

pub returns : goal.returns
returns c =
    place_built c.object_pat_of-it.result c.leave.result (object_pat_items Binding) c.args.field _ _ _ _ _ _ _
    (c.in_ok-node.ensures.taken (AnObjectPattern Binding)) c.in_ok-node.ensures.item c.object_pat_of-it.ensures c.leave.ensures
