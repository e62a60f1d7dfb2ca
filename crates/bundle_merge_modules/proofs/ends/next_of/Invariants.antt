-- Those that were passed.
use Rattle.std.proofs.Common.{◌≡◌, take}
use Rattle.bundle_merge_modules.specs.Pairs.{next_by}
use Rattle.bundle_merge_modules.proofs.ends.next_of.Given as goal

abbrev pub invariant-loop-pair : goal.invariant-loop-pair
invariant-loop-pair l = l.next.items ≡ next_by l.numbers (take l.pair-index l.pairs)
