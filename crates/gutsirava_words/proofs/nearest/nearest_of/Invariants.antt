use Rattle.std.proofs.Common.{map, take}
use Rattle.std.specs.Option.{option_map}
use Rattle.gutsirava_words.proofs.NearestLemmas.{IsSoFar}
use Rattle.gutsirava_words.proofs.nearest.nearest_of.Given as goal

abbrev pub invariant-loop-option : goal.invariant-loop-option
invariant-loop-option l =
    IsSoFar l.name (map (λ option. option.now) (take l.option-index l.options)) l.fewest
    (option_map (λ option. option.now) l.nearest)
