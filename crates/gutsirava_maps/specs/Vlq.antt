-- Numbers in base64 digits, read (ECMA-426, Base64 VLQ).
use Rattle.std.specs.Prelude.{◌≡◌, ℕ, ◌+◌, ◌*◌, ◌-◌, nat_lt, nat_le, List, [], ◌∷◌, ◌++◌, if◌then◌else◌, ◌==◌}

-- the character of a digit
abbrev pub digit_code : ℕ → ℕ
digit_code n =
    if nat_lt n 26 then n + 65
    else (if nat_lt n 52 then n + 71
    else (if nat_lt n 62 then n - 4 else (if n == 62 then 43 else 47)))

-- the digit that a character is
abbrev pub digit_value : ℕ → ℕ
digit_value c =
    if nat_le 97 c then c - 71
    else (if nat_le 65 c then c - 65
    else (if nat_le 48 c then c + 4 else (if c == 43 then 62 else 63)))

-- the first number, with five bits below its own
abbrev pub carried : ℕ → List ℕ → List ℕ
carried low [] = []
carried low (n ∷ more) = (low + 32 * n) ∷ more

-- with one more digit before it: one of 32 or more has the first number behind it, and a lower one
-- is a number
abbrev pub with_digit : ℕ → List ℕ → List ℕ
with_digit d numbers = if nat_lt d 32 then d ∷ numbers else carried (d - 32) numbers

-- the numbers that stand in characters
abbrev pub numbers_in : List ℕ → List ℕ
numbers_in [] = []
numbers_in (c ∷ rest) = with_digit (digit_value c) (numbers_in rest)

-- some characters are put behind a text, and whatever stands behind them, the first numbers there
-- are these
pub record Writes (old new : List ℕ) (values : List ℕ) : Type 0 where
  pub digits : List ℕ
  pub there : new ≡ old ++ digits
  pub read : (rest : List ℕ) → numbers_in (digits ++ rest) ≡ values ++ numbers_in rest

-- a difference as one number
abbrev pub difference : ℕ → ℕ → ℕ
difference from to = if nat_le from to then (to - from) * 2 else (from - to) * 2 + 1
