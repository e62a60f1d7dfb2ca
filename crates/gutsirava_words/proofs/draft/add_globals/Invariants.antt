use Rattle.std.proofs.Common.{◌≡◌, ◌++◌, map}
use Rattle.gutsirava_words.specs.Draft.{pair_text}
use Rattle.gutsirava_words.proofs.draft.add_globals.Given as goal

abbrev pub invariant-loop-pair : goal.invariant-loop-pair
invariant-loop-pair l =
    map pair_text l.globals.items ≡ map pair_text l.initial.globals.items ++ map (λ p. p.now) l.yielded
