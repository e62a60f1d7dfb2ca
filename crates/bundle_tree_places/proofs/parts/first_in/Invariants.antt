-- The first node in the field is that of the rest.
use Rattle.std.proofs.Common.{◌≡◌, ◌≤◌, ◌-◌, length, drop}
use Rattle.bundle_tree_places.proofs.PartLemmas.{first_from}
use Rattle.bundle_tree_places.proofs.parts.first_in.Given as goal

abbrev pub invariant-each : goal.invariant-each
invariant-each l =
    record {
      within : l.at ≤ length l.pieces;
      first : first_from l.field l.pieces ≡ first_from l.field (drop l.at l.pieces);
    }

abbrev pub decreases-each : goal.decreases-each
decreases-each l = length l.pieces - l.at
