-- The list has such a node if some element begins one.
use Rattle.std.proofs.Common.{◌∙◌}
use Rattle.bundle_tree_places.specs.Rarities.{is_rare}
use Rattle.bundle_tree_places.proofs.HeadLemmas.{has_head_any}
use Rattle.bundle_tree_places.proofs.rare.has_rare.Goals as goal

pub returns : goal.returns
returns c = c.some_rare.ensures ∙ has_head_any is_rare c.args.pieces.now
