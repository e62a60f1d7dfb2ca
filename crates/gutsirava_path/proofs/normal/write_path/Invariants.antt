use Rattle.std.proofs.Common.{◌≡◌, map, take, string_bytes}
use Rattle.gutsirava_path.specs.Normal.{path_text}
use Rattle.gutsirava_path.proofs.normal.write_path.Given as goal

abbrev pub invariant-loop-i : goal.invariant-loop-i
invariant-loop-i l = string_bytes l.text ≡ path_text l.rooted (map (λ p. p.now) (take l.i l.parts))
