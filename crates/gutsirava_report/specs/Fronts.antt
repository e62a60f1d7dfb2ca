-- What stands before a place of a text.
use Rattle.std.specs.Prelude.{◌≡◌, ◌<◌, ◌≤◌, ◌+◌, ◌-◌, ◌++◌, ◌==◌, ◌&&◌, ℕ, Bool, false, List, Option, Some, None, length, slice_get, if◌then◌else◌}
use Rattle.std.specs.Str.{IsCharBoundary}
use Rattle.gutsirava_report.specs.Lines.{line_ends}

abbrev pub is_byte : Option ℕ → ℕ → Bool
is_byte None byte = false
is_byte (Some it) byte = it == byte

-- whether a byte stands at a place
abbrev pub has_byte : List ℕ → ℕ → ℕ → Bool
has_byte text at byte = is_byte (slice_get text at) byte

-- a place in a text, or the one before where the two bytes there are a carriage return and a line
-- feed: they end one line
abbrev pub line_place : List ℕ → ℕ → ℕ
line_place text at = if has_byte text (at - 1) 13 && has_byte text at 10 then at - 1 else at

-- what is before a place, up to the first byte of the character there
pub record IsFront (text : List ℕ) (at : ℕ) (front : List ℕ) : Type 0 where
  pub rest : List ℕ
  pub whole : front ++ rest ≡ text
  pub within : length front ≤ at
  pub boundary : IsCharBoundary text (length front)
  pub nearest : (i : ℕ) → length front < i → i ≤ at → ¬ IsCharBoundary text i

-- the line in which a place is, from 1 on
abbrev pub IsLineAt : List ℕ → ℕ → ℕ → Type 0
IsLineAt text at line = (front : List ℕ) × IsFront text (line_place text at) front
    × (line ≡ 1 + line_ends false front)
