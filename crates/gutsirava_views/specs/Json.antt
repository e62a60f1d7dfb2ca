-- JSON (RFC 8259), each member and each element on a line of its own.
use Rattle.std.specs.Prelude.{ℕ, ◌==◌, ◌+◌, ◌/◌, ◌%◌, ◌++◌, Bool, true, false, List, [], ◌∷◌, chars, codes, encode_utf8, nat_lt, if◌then◌else◌}
use Rattle.std.specs.List.{flat_map, repeat}

-- a hexadecimal digit: one of 0 to 9, or of a to f
abbrev pub digit_of : ℕ → ℕ
digit_of n = if nat_lt n 10 then 48 + n else 87 + n

-- the escape of a control character
abbrev pub control_text : ℕ → List ℕ
control_text c = codes "\\u00" ++ (digit_of (c / 16) ∷ digit_of (c % 16) ∷ [])

-- a character between quotes: a quote, a backslash or a control character by its escape
abbrev pub char_text : ℕ → List ℕ
char_text c =
    if c == 34 then codes "\\\""
    else (if c == 92 then codes "\\\\"
    else (if nat_lt c 32 then control_text c else encode_utf8 c))

-- characters in quotes
abbrev pub quoted : List ℕ → List ℕ
quoted cs = 34 ∷ (flat_map char_text cs ++ 34 ∷ [])

-- a text as a string
abbrev pub string_of : List ℕ → List ℕ
string_of bytes = quoted (chars bytes)

-- the key of a member
abbrev pub key_of : List ℕ → List ℕ
key_of bytes = string_of bytes ++ codes ": "

-- a member: its key, and its value
abbrev pub member : List ℕ → List ℕ → List ℕ
member key value = key_of key ++ value

-- a line of its own, this deep
abbrev pub line : ℕ → List ℕ
line depth = 10 ∷ repeat depth (codes "  ")

-- what stands before an item: a comma, if it is not the first
abbrev pub comma : Bool → List ℕ
comma true = []
comma false = codes ","

-- items this deep, each on a line of its own; whether the first of them has none before it
abbrev pub items_text : Bool → ℕ → List (List ℕ) → List ℕ
items_text first depth [] = []
items_text first depth (item ∷ items) =
    comma first ++ (line depth ++ (item ++ items_text false depth items))

-- what stands before the bracket that ends them: nothing, where there are none
abbrev pub last_line : Bool → ℕ → List ℕ
last_line true depth = []
last_line false depth = line depth

abbrev pub is_none : List (List ℕ) → Bool
is_none [] = true
is_none (item ∷ items) = false

-- items in their brackets
abbrev pub nest : List ℕ → List ℕ → ℕ → List (List ℕ) → List ℕ
nest opening closing depth items =
    opening ++ (items_text true (depth + 1) items ++ (last_line (is_none items) depth ++ closing))

-- an object that begins this deep, of these members
abbrev pub object : ℕ → List (List ℕ) → List ℕ
object = nest (codes "{") (codes "}")

-- an array that begins this deep, of these elements
abbrev pub array : ℕ → List (List ℕ) → List ℕ
array = nest (codes "[") (codes "]")
