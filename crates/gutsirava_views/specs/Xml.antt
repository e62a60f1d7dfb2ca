-- Text in XML 1.0.
use Rattle.std.specs.Prelude.{ℕ, ◌==◌, ◌||◌, List, codes, encode_utf8, nat_lt, if◌then◌else◌}

-- a character of a text: one that marks by its entity, and U+FFFD for one that XML has not
abbrev pub xml_char : ℕ → List ℕ
xml_char c =
    if c == 38 then codes "&amp;"
    else (if c == 60 then codes "&lt;"
    else (if c == 62 then codes "&gt;"
    else (if c == 34 then codes "&quot;"
    else (if nat_lt c 32 || ((c == 65534) || (c == 65535)) then encode_utf8 65533
    else encode_utf8 c))))
