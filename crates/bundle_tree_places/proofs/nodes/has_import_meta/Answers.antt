-- The list has such a node if some element begins one.
use Rattle.std.proofs.Common.{◌∙◌}
use Rattle.bundle_rules.specs.Entries.{is_import_meta}
use Rattle.bundle_tree_places.proofs.HeadLemmas.{has_head_any}
use Rattle.bundle_tree_places.proofs.nodes.has_import_meta.Goals as goal

pub returns : goal.returns
returns c = c.some_import_meta.ensures ∙ has_head_any is_import_meta c.args.pieces.now
