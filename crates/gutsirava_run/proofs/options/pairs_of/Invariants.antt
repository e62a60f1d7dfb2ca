use Rattle.std.proofs.Common.{◌≡◌, map, take}
use Rattle.gutsirava_run.specs.Making.{pair_of, global_of}
use Rattle.gutsirava_run.proofs.options.pairs_of.Given as goal

abbrev pub invariant-loop-global : goal.invariant-loop-global
invariant-loop-global l =
    map pair_of l.pairs.items ≡ map global_of (take l.global-index l.globals)
