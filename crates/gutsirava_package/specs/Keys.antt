-- Keys, and the place of each.
use Rattle.std.specs.Prelude.{◌≡◌, ◌++◌, ◌⊎◌, ℕ, List, [], ◌∷◌, Option, Some, IfSome, length, nat_lt, slice_get, slice_set, if◌then◌else◌}
use Rattle.std.specs.BTreeMap.{BTreeMap, get_by}
use Rattle.std.specs.Cmp.Lexicographic.{slice_cmp}
use Rattle.std.specs.Ordering.{nat_cmp}
use Rattle.std.specs.declared.vec.Vec.{Vec}
use Rattle.std.specs.declared.alloc.Global.{Global}

-- a key stands there, and nowhere else
abbrev pub IsPlaceOf : List (List ℕ) → List ℕ → Option ℕ → Type 0
IsPlaceOf keys key place =
    (IfSome place (λ at. slice_get keys at ≡ Some key))
    × ((at : ℕ) → slice_get keys at ≡ Some key → place ≡ Some at)

-- keys are the others, and may have one more behind them
abbrev pub IsExtended : List (List ℕ) → List ℕ → List (List ℕ) → Type 0
IsExtended keys key more = (more ≡ keys) ⊎ (more ≡ keys ++ (key ∷ []))

-- items with this one at a place, or last where the place is behind all
abbrev pub put_at : {X : Type 0} → ℕ → X → List X → List X
put_at place item items =
    if nat_lt place (length items) then slice_set items place item else items ++ (item ∷ [])

-- what a map from texts has at one
abbrev pub place_in : {X : Type 0} → BTreeMap (Vec ℕ Global) X → List ℕ → Option X
place_in places text = get_by (λ key. slice_cmp nat_cmp text key.items) places

-- a map has the place of each of the keys, and of nothing else
abbrev pub ArePlaces : List (List ℕ) → BTreeMap (Vec ℕ Global) ℕ → Type 0
ArePlaces keys places = (text : List ℕ) → IsPlaceOf keys text (place_in places text)
