use Rattle.std.proofs.Common.{◌≡◌, [], fold, map}
use Rattle.gutsirava_path.specs.Normal.{step}
use Rattle.gutsirava_path.proofs.normal.normal_parts.Given as goal

abbrev pub invariant-loop-part : goal.invariant-loop-part
invariant-loop-part l =
    map (λ p. p.now) l.kept.items ≡ fold (step l.rooted) [] (map (λ p. p.now) l.yielded)
