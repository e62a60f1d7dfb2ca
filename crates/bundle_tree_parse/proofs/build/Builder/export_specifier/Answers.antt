-- What is made of a node that begins there, by what it holds and its end.
use Rattle.bundle_tree_listed.specs.Tree.{export_specifier_items}
use Rattle.bundle_tree_parse.specs.Sorts.{AnExport}
use Rattle.bundle_tree_parse.proofs.Parsing.{place_built}
use Rattle.bundle_tree_parse.proofs.build.Builder.export_specifier.Goals as goal

pub returns : goal.returns
returns c =
    place_built c.export_specifier_of-it.result c.leave.result (export_specifier_items c.args.role) c.args.field _ _ _ _ _ _ _
    (c.in_ok-node.ensures.taken (AnExport c.args.role)) c.in_ok-node.ensures.item c.export_specifier_of-it.ensures c.leave.ensures
