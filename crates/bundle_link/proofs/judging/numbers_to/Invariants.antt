use Rattle.std.proofs.Common.{◌≡◌}
use Rattle.bundle_link.specs.Judged.{numbers_below}
use Rattle.bundle_link.proofs.judging.numbers_to.Given as goal

abbrev pub invariant-loop-number : goal.invariant-loop-number
invariant-loop-number l = l.numbers.items ≡ numbers_below l.number
