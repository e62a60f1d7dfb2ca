use Rattle.std.proofs.Common.{◌≡◌, ◌≤◌, vec_len}
use Rattle.gutsirava_maps.proofs.place.TextCursor.back_to.Given as goal

abbrev pub invariant-loop-mark : goal.invariant-loop-mark
invariant-loop-mark l = record {
  same : l.self.text.now ≡ l.initial.self.text.now;
  before : l.self.here.at ≤ l.at;
}

abbrev pub decreases-loop-mark : goal.decreases-loop-mark
decreases-loop-mark l = vec_len l.self.marks
