-- What is left of the list, with the nodes that are open, gives what the list gives.
use Rattle.std.proofs.Common.{◌≡◌, ◌+◌, ◌-◌, ◌≤◌, length}
use Rattle.bundle_json_form.specs.Texts.{from}
use Rattle.bundle_json_form.proofs.OfKind.{past}
use Rattle.bundle_json_form.proofs.text.after_first.Given as goal

abbrev pub invariant-pieces : goal.invariant-pieces
invariant-pieces l = record {
  same : past l.opened (from l.rest l.pieces) ≡ past 0 (from l.at l.pieces);
  counted : l.opened + l.at ≤ l.rest;
}

abbrev pub decreases-pieces : goal.decreases-pieces
decreases-pieces l = length l.pieces - l.rest
