-- The text is no shorter than before the loop, and what stands behind it is read as the letters so far.
use Rattle.std.proofs.Common.{◌≤◌, string_len, string_bytes, flat_map}
use Rattle.std.specs.Char.Escape.{encode_utf16}
use Rattle.bundle_js_print.specs.Literal.{Writes}
use Rattle.bundle_js_print.proofs.text.push_quoted.Given as goal

abbrev pub invariant-loop-letter : goal.invariant-loop-letter
invariant-loop-letter l =
    (string_len l.initial.text ≤ string_len l.text)
    × Writes l.charset (string_bytes l.initial.text) (string_bytes l.text) (flat_map encode_utf16 l.yielded)
