-- What a writer holds after a text was written to it, whole or in part.
use Rattle.std.specs.Prelude.{◌≡◌, ◌⊎◌, ℕ, List, ◌++◌, Option}
use Rattle.std.specs.Io.KnownBytes.{Appends}

-- some front of the text was written, and nothing else
pub record AppendsFront (old new : Option (List ℕ)) (text : List ℕ) : Type 0 where
  pub front : List ℕ
  pub rest : List ℕ
  pub split : text ≡ front ++ rest
  pub written : Appends old new front

-- the text was written whole; or else some front of it, and writing may fail
abbrev pub AppendsOrFails : Type 0 → Option (List ℕ) → Option (List ℕ) → List ℕ → Type 0
AppendsOrFails may_fail old new text = Appends old new text ⊎ (may_fail × AppendsFront old new text)
