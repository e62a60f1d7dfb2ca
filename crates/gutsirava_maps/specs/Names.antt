-- The names that a map tells.
use Rattle.std.specs.Prelude.{◌≡◌, ◌⊎◌, ◌++◌, ℕ, List, [], ◌∷◌, Option, Some, String, map, slice_get, string_bytes}
use Rattle.std.specs.declared.alloc.Global.{Global}
use Rattle.std.specs.BTreeMap.{BTreeMap, get_by_text}

-- the name of a number, if there is one
abbrev pub name_at : List (String Global) → ℕ → Option (List ℕ)
name_at names number = slice_get (map string_bytes names) number

-- each name is found under its place
abbrev pub AreNumbered : BTreeMap (String Global) ℕ → List (String Global) → Type 0
AreNumbered numbers names =
    (number : ℕ) (name : List ℕ) → name_at names number ≡ Some name
    → get_by_text numbers name ≡ Some number

-- no name stands twice
abbrev pub AreDistinct : List (String Global) → Type 0
AreDistinct names =
    (one other : ℕ) (name : List ℕ) → name_at names one ≡ Some name
    → name_at names other ≡ Some name → one ≡ other

-- a name is not among these
abbrev pub IsNew : List ℕ → List (String Global) → Type 0
IsNew name names = (number : ℕ) → name_at names number ≡ Some name → ⊥

-- names stay as they are, or this one is put down behind them
abbrev pub IsPutDown : List ℕ → List (String Global) → List (String Global) → Type 0
IsPutDown name old new =
    (new ≡ old) ⊎ ((it : String Global) × (string_bytes it ≡ name) × (new ≡ old ++ it ∷ []))
