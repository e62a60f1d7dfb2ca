use Rattle.std.proofs.Common.{◌≡◌, ℕ, ◌+◌, Bool, Some, length, slice_get}
use Rattle.gutsirava_package.proofs.patterns.make_marks.Given as goal

abbrev pub invariant-loop : goal.invariant-loop
invariant-loop l = record {
  stay : (at : ℕ) (mark : Bool) → slice_get l.initial.marks.items at ≡ Some mark → slice_get l.marks.items at ≡ Some mark;
  count : length l.marks.items ≡ length l.initial.marks.items + l.counter;
}
