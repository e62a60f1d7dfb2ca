use Rattle.std.proofs.Common.{◌≡◌, get_or, take}
use Rattle.std.specs.Prelude.{map}
use Rattle.bundle_merge_modules.proofs.chains.doubled.Given as goal

abbrev pub invariant-loop-jump : goal.invariant-loop-jump
invariant-loop-jump l = l.twice.items ≡ map (λ j. get_or l.jumps j 0) (take l.jump-index l.jumps)
