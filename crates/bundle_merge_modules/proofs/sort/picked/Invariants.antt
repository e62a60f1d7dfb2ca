-- The places that have the numbers that were passed.
use Rattle.std.proofs.Common.{◌≡◌, map, take}
use Rattle.std.specs.Prelude.{slice_index}
use Rattle.bundle_merge_modules.proofs.sort.picked.Given as goal

abbrev pub invariant-loop-number : goal.invariant-loop-number
invariant-loop-number l = l.picked.items ≡ map (λ n. slice_index l.places n) (take l.number-index l.numbers)
