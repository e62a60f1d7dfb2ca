-- The option that someone may have meant.
use Rattle.std.specs.Prelude.{ℕ, ◌≡◌, ◌<◌, ◌≤◌, ◌/◌, ◌⊎◌, ◌++◌, List, [], ◌∷◌, All, Contains, Option, Some, None, chars, codes, length, map}
use Rattle.strsim.specs.Edits.{osa_table}
use Rattle.gutsirava_words.specs.Key.{all_keys, key_text}

-- all options, as they are written
abbrev pub options : List (List ℕ)
options = map key_text all_keys ++ (codes "--help" ∷ codes "--version" ∷ codes "-o" ∷ [])

-- how many edits lead from a name to an option: insertions, deletions, replacements, and neighbours
-- that are exchanged
unfoldable pub edits : List ℕ → List ℕ → ℕ
edits name option =
    (osa_table (chars name) (chars option)).last_row (length (chars option))

-- an option is near to a name: as many edits away as a third of its length at most
abbrev pub IsNear : List ℕ → List ℕ → Type 0
IsNear name option = edits name option ≤ length option / 3

-- of all options that are near to a name, this is one with the fewest edits
pub record IsNearest (name option : List ℕ) (all : List (List ℕ)) : Type 0 where
  pub known : Contains all option
  pub near : IsNear name option
  pub least : All (λ other. IsNear name other → edits name option ≤ edits name other) all

-- the nearest of some options, or that none is near
abbrev pub IsAnswer : List ℕ → List (List ℕ) → Option (List ℕ) → Type 0
IsAnswer name all (Some option) = IsNearest name option all
IsAnswer name all None = All (λ other. ¬ IsNear name other) all

-- the same of all options; a name of more than 40 bytes has none near
abbrev pub IsNearestOf : List ℕ → Option (List ℕ) → Type 0
IsNearestOf name (Some option) = IsNearest name option options
IsNearestOf name None = (40 < length name) ⊎ All (λ other. ¬ IsNear name other) options
