use Rattle.std.proofs.Common.{◌≡◌, ◌++◌, length, take, flat_map, string_bytes}
use Rattle.std.specs.Str.{chars}
use Rattle.gutsirava_views.specs.Json.{char_text}
use Rattle.gutsirava_views.proofs.json.push_escaped.Given as goal

abbrev pub invariant-loop-c : goal.invariant-loop-c
invariant-loop-c l =
    string_bytes l.text
    ≡ string_bytes l.initial.text ++ flat_map char_text (take (length l.yielded) (chars l.value))
