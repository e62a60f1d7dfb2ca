use Rattle.std.proofs.Common.{◌≡◌, ◌++◌, map, string_bytes}
use Rattle.gutsirava_words.proofs.draft.add_parts.Given as goal

abbrev pub invariant-loop-part : goal.invariant-loop-part
invariant-loop-part l =
    map string_bytes l.parts.items ≡ map string_bytes l.initial.parts.items ++ map (λ p. p.now) l.yielded
