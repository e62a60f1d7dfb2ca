use Rattle.std.proofs.Common.{◌≡◌, ◌+◌, length}
use Rattle.gutsirava_package.specs.Lengths.{AllStay}
use Rattle.gutsirava_package.proofs.patterns.make_lists.Given as goal

abbrev pub invariant-loop : goal.invariant-loop
invariant-loop l = record {
  stay : AllStay l.initial.lists.items l.lists.items;
  count : length l.lists.items ≡ length l.initial.lists.items + l.counter;
}
