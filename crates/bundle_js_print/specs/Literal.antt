-- String literals (ECMA-262, 12.9.4): which characters are one in strict code, and its value (SV)
-- in code units.
use Rattle.std.specs.Prelude.{◌≡◌, ◌≢◌, ℕ, zero, suc, ◌+◌, ◌*◌, ◌/◌, ◌%◌, ◌<◌, ◌≤◌, ◌==◌, nat_le, nat_lt, Bool, true, false, ◌&&◌, ◌||◌, ◌⊎◌, List, [], ◌∷◌, ◌++◌, Option, Some, None, if◌then◌else◌, unwrap_or, option_map, option_and_then, flat_map, chars, encode_utf8_all}
use Rattle.std.specs.Char.{is_ascii_digit, is_digit, digit_value, digit_char}
use Rattle.std.specs.Char.Escape.{encode_utf16}
use Rattle.std.specs.List.{AllByRecursion, list_all}
use Rattle.bundle_js_print.specs.declared.text.Charset.{Charset}
use Rattle.bundle_js_print.specs.declared.text.Charset.TheVariants as ch
use Rattle.bundle_js_print.specs.declared.text.LetterSpelling.{LetterSpelling}
use Rattle.bundle_js_print.specs.declared.text.LetterSpelling.TheVariants as s

-- what the characters of a literal so far leave open
pub data Reading : Type 0 where
  -- nothing
  Whole : Reading
  -- a backslash
  Backslash : Reading
  -- `\0`, behind which no digit may stand
  Nil : Reading
  -- a backslash and a carriage return, to which a line feed belongs
  Return : Reading
  -- `\u`
  Unicode : Reading
  -- hexadecimal digits of this value, with so many behind the next
  Digits : ℕ → ℕ → Reading
  -- `\u{`, whether a digit stands behind it, and the value of those that do
  Braced : Bool → ℕ → Reading

-- the state behind a character with the code units that it completes, if it may stand there
abbrev pub Step : Type 0
Step = Option (Reading × List ℕ)

-- what a SingleEscapeCharacter stands for (table 37)
abbrev pub single_escape : ℕ → Option ℕ
single_escape c =
    if c == 98 then Some 8
    else if c == 116 then Some 9
    else if c == 110 then Some 10
    else if c == 118 then Some 11
    else if c == 102 then Some 12
    else if c == 114 then Some 13
    else if c == 34 || (c == 39 || c == 92) then Some c
    else None

-- any other character behind a backslash
abbrev pub other_escape : ℕ → Step
other_escape c =
    if c == 120 then Some (Digits 1 0, [])
    else if c == 117 then Some (Unicode, [])
    else if c == 48 then Some (Nil, 0 ∷ [])
    else if is_ascii_digit c then None
    else if c == 13 then Some (Return, [])
    else if c == 10 || (c == 0x2028 || c == 0x2029) then Some (Whole, [])
    else Some (Whole, encode_utf16 c)

-- a character behind a backslash
abbrev pub escape : ℕ → Step
escape c =
    unwrap_or (option_map (λ u. Some (Whole, encode_utf16 u)) (single_escape c)) (other_escape c)

-- a character where nothing is open, in these quotes
abbrev pub plain : ℕ → ℕ → Step
plain quote c =
    if c == 92 then Some (Backslash, [])
    else if c == quote || (c == 10 || c == 13) then None
    else Some (Whole, encode_utf16 c)

-- a hexadecimal digit, with so many behind it and those of this value before it
abbrev pub digit : ℕ → ℕ → ℕ → Step
digit zero v c = if is_digit c 16 then Some (Whole, (v * 16 + digit_value c) ∷ []) else None
digit (suc n) v c = if is_digit c 16 then Some (Digits n (v * 16 + digit_value c), []) else None

-- a digit or the closing brace behind `\u{`
abbrev pub braced : Bool → ℕ → ℕ → Step
braced has_digit v c =
    if has_digit && c == 125 then Some (Whole, encode_utf16 v)
    else if is_digit c 16 && nat_le (v * 16 + digit_value c) 0x10FFFF
    then Some (Braced true (v * 16 + digit_value c), [])
    else None

abbrev pub step : ℕ → Reading → ℕ → Step
step quote Whole c = plain quote c
step quote Backslash c = escape c
step quote Nil c = if is_ascii_digit c then None else plain quote c
step quote Return c = if c == 10 then Some (Whole, []) else plain quote c
step quote Unicode c = if c == 123 then Some (Braced false 0, []) else digit 3 0 c
step quote (Digits n v) c = digit n v c
step quote (Braced has_digit v) c = braced has_digit v c

-- the value of a literal of no more characters
abbrev pub value_at_end : Reading → Option (List ℕ)
value_at_end Whole = Some []
value_at_end Nil = Some []
value_at_end Return = Some []
value_at_end _ = None

-- the value of the rest of a literal, up to its closing quote
abbrev pub value_from : ℕ → Reading → List ℕ → Option (List ℕ)
value_from quote r [] = value_at_end r
value_from quote r (c ∷ cs) =
    option_and_then (λ s. option_map (λ us. s.1 ++ us) (value_from quote s.0 cs)) (step quote r c)

-- these characters are a literal of this value
abbrev pub IsLiteralOf : List ℕ → List ℕ → Type 0
IsLiteralOf literal units =
    (quote : ℕ) × (body : List ℕ) × ((quote ≡ 34) ⊎ (quote ≡ 39))
    × (literal ≡ (quote ∷ body) ++ quote ∷ []) × (value_from quote Whole body ≡ Some units)

-- a character that a literal may have that is put in quotes: no control, none that ends a line, and
-- in ASCII alone none beyond it
abbrev pub Allows : Charset → ℕ → Type 0
Allows charset c =
    (32 ≤ c) × (c ≢ 0x2028) × (c ≢ 0x2029) × (charset ≡ ch.Ascii → c < 127)

-- a literal of the characters of a text is put behind another text
pub record PutsLiteral (charset : Charset) (old new value : List ℕ) : Type 0 where
  pub literal : List ℕ
  pub bytes : new ≡ old ++ encode_utf8_all literal
  pub is_read : IsLiteralOf literal (flat_map encode_utf16 (chars value))
  pub allowed : AllByRecursion (Allows charset) literal

-- a string is put behind a text: by its source text, or by a literal of its value
abbrev pub PutsString : Charset → List ℕ → List ℕ → List ℕ → Option (List ℕ) → Type 0
PutsString charset old new value raw =
    PutsLiteral charset old new value
    ⊎ ((source : List ℕ) × (raw ≡ Some source) × (new ≡ old ++ source)
    × (charset ≡ ch.Ascii → list_all (λ c. nat_lt c 128) source ≡ true))

-- characters that lead from one state to another, and complete these units
abbrev pub Reads : Reading → Reading → List ℕ → List ℕ → Type 0
Reads from to written units =
    (rest : List ℕ) → value_from 34 from (written ++ rest)
    ≡ option_map (λ us. units ++ us) (value_from 34 to rest)

-- such characters are put behind a text
pub record Writes (charset : Charset) (old new units : List ℕ) : Type 0 where
  pub written : List ℕ
  pub bytes : new ≡ old ++ encode_utf8_all written
  pub reads : Reads Whole Whole written units
  pub allowed : AllByRecursion (Allows charset) written

-- a letter may be spelled so
abbrev pub IsSpelling : Charset → LetterSpelling → ℕ → Type 0
IsSpelling charset s.Itself c = Allows charset c × (c ≢ 34) × (c ≢ 92)
IsSpelling charset (s.Escaped by) c = (32 ≤ by) × (by < 127) × (single_escape by ≡ Some c)
IsSpelling charset s.Byte c = c < 256
IsSpelling charset s.Units c = c < 0x110000

-- the lowest byte of a number, by two hexadecimal digits
abbrev pub digit_pair : ℕ → List ℕ
digit_pair n = digit_char (n / 16 % 16) ∷ digit_char (n % 16) ∷ []

-- a HexEscapeSequence, and a UnicodeEscapeSequence of four digits
abbrev pub byte_escape : ℕ → List ℕ
byte_escape n = 92 ∷ 120 ∷ digit_pair n

abbrev pub unit_escape : ℕ → List ℕ
unit_escape n = (92 ∷ 117 ∷ digit_pair (n / 256)) ++ digit_pair n
