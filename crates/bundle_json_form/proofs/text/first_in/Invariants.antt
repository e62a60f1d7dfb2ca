-- None of the nodes that were passed over is in the field.
use Rattle.std.proofs.Common.{◌-◌, ◌≤◌, length}
use Rattle.bundle_json_form.specs.Texts.{from}
use Rattle.bundle_json_form.proofs.Pieces.{FindsLeft}
use Rattle.bundle_json_form.proofs.text.first_in.Given as goal

abbrev pub invariant-children : goal.invariant-children
invariant-children l = record {
  finds : FindsLeft l.number (from l.at l.pieces) (from l.child l.pieces);
  later : l.at ≤ l.child;
}

abbrev pub decreases-children : goal.decreases-children
decreases-children l = length l.pieces - l.child
