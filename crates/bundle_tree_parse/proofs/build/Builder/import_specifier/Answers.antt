-- What is made of a node that begins there, by what it holds and its end.
use Rattle.bundle_tree_listed.specs.Tree.{import_specifier_items}
use Rattle.bundle_tree_parse.specs.Sorts.{AnImport}
use Rattle.bundle_tree_parse.proofs.Parsing.{place_built}
use Rattle.bundle_tree_parse.proofs.build.Builder.import_specifier.Goals as goal

pub returns : goal.returns
returns c =
    place_built c.import_specifier_of-it.result c.leave.result import_specifier_items c.args.field _ _ _ _ _ _ _
    (c.in_ok-node.ensures.taken AnImport) c.in_ok-node.ensures.item c.import_specifier_of-it.ensures c.leave.ensures
