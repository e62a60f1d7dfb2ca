-- What is made of a node that begins there, by what it holds and its end.
use Rattle.bundle_syntax.specs.declared.piece.Role.TheVariants.{Binding}
use Rattle.bundle_tree_listed.specs.Tree.{array_pat_items}
use Rattle.bundle_tree_parse.specs.Sorts.{AnArrayPattern}
use Rattle.bundle_tree_parse.proofs.Parsing.{place_built}
use Rattle.bundle_tree_parse.proofs.from_list.pats.ArrayPatFromList.take.Goals as goal

pub returns : goal.returns
returns c =
    place_built c.array_pat_of-it.result c.leave.result (array_pat_items Binding) c.args.field _ _ _ _ _ _ _
    (c.in_ok-node.ensures.taken (AnArrayPattern Binding)) c.in_ok-node.ensures.item c.array_pat_of-it.ensures c.leave.ensures
