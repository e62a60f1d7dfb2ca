-- The node is open in those around it.
use Rattle.std.proofs.Common.{refl, ◌∙◌}
use Rattle.bundle_syntax.specs.Item.{head_of}
use Rattle.bundle_tree_places.proofs.PlaceLemmas.{stated_in_field}
use Rattle.bundle_tree_places.proofs.places.frame_at.Goals as goal

pub returns : goal.returns
returns c = λ begins path all. record {
  head = refl;
  written = (c.spot_at-spot.ensures path all).written;
  stated = c.is_stated_in.ensures path all ∙ stated_in_field (head_of c.args.node) c.args.field path;
}
