use Rattle.std.proofs.Common.{◌≡◌, map, take}
use Rattle.gutsirava_path.proofs.normal.shared_parts.Given as goal

abbrev pub invariant-loop-i : goal.invariant-loop-i
invariant-loop-i l = take l.i (map (λ p. p.now) l.a) ≡ take l.i (map (λ p. p.now) l.b)
