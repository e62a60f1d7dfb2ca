-- The list has such a node if some element begins one.
use Rattle.std.proofs.Common.{◌∙◌}
use Rattle.bundle_rules.specs.Bundle.{is_with}
use Rattle.bundle_tree_places.proofs.HeadLemmas.{has_head_any}
use Rattle.bundle_tree_places.proofs.nodes.has_with.Goals as goal

pub returns : goal.returns
returns c = c.some_with.ensures ∙ has_head_any is_with c.args.pieces.now
