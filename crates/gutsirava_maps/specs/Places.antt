-- Lines and columns of a text.
use Rattle.std.specs.Prelude.{◌≡◌, ◌≤◌, ℕ, zero, suc, ◌+◌, min, nat_lt, Bool, true, false, not, ◌&&◌, ◌||◌, ◌==◌, List, get_or, length, if◌then◌else◌}
use Rattle.gutsirava_maps.specs.declared.place.LineColumn.{LineColumn}
use Rattle.gutsirava_maps.specs.declared.place.PlaceMark.{PlaceMark}

-- the byte at a place; behind the end, 0
abbrev pub byte_at : List ℕ → ℕ → ℕ
byte_at text at = get_or text at 0

-- U+2028 or U+2029
abbrev pub is_separator : List ℕ → ℕ → Bool
is_separator text at =
    (byte_at text (at + 1) == 128)
    && ((byte_at text (at + 2) == 168) || (byte_at text (at + 2) == 169))

-- whether a line ends with the character whose first byte stands here (ECMA-262, 12.3): of a
-- return and a newline, with the newline
abbrev pub ends_line : List ℕ → ℕ → Bool
ends_line text at =
    if byte_at text at == 10 then true
    else (if byte_at text at == 13 then not (byte_at text (at + 1) == 10)
    else (if byte_at text at == 226 then is_separator text at else false))

-- how many code units of UTF-16 the character has of which this is the first byte
abbrev pub units_of : ℕ → ℕ
units_of byte =
    if nat_lt byte 128 then 1
    else (if nat_lt byte 192 then 0 else (if nat_lt byte 240 then 1 else 2))

-- what 32 bits cannot number is the greatest that they can
abbrev pub numbered : ℕ → ℕ
numbered n = min n 4294967295

-- the place behind a byte that has this place
abbrev pub stepped : List ℕ → ℕ → LineColumn → LineColumn
stepped text at place =
    if ends_line text at then record { line = numbered (place.line + 1); column = 0 }
    else record { line = place.line; column = numbered (place.column + units_of (byte_at text at)) }

-- the place of a byte, or of the end
unfoldable pub place_in : List ℕ → ℕ → LineColumn
place_in text zero = record { line = 0; column = 0 }
place_in text (suc at) = stepped text at (place_in text at)

-- the byte or end of the text has this place
pub record IsMarkOf (text : List ℕ) (mark : PlaceMark) : Type 0 where
  pub within : mark.at ≤ length text
  pub is : mark.place ≡ place_in text mark.at
