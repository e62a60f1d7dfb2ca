-- Names by their first character.
use Rattle.std.proofs.Common.{◌≡◌, ℕ, Bool, true, false, ◌&&◌, List, [], ◌∷◌, Option, Some, None, MatchOption, slice_get, refl}
use Rattle.std.specs.List.{list_all}
use Rattle.gutsirava_words.specs.Variable as names

-- whether the first character, if any, begins a name tells whether all are one
pub name_by : (cs : List ℕ) (begins : Bool)
    → MatchOption (slice_get cs 0) (begins ≡ false) (λ c. begins ≡ names.begins_name c)
    → (begins && list_all names.continues_name cs) ≡ names.is_name cs
name_by [] begins is = rw is refl
name_by (c ∷ cs) begins is = rw is refl
