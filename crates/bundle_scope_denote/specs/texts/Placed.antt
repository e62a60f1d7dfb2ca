-- The place of each of some keys is at hand.
use Rattle.std.specs.Prelude.{◌≡◌, ℕ, List, Bool, cond, Option, Some, None, position}
use Rattle.std.specs.List.{IsDistinct}
use Rattle.std.specs.BTreeMap.{BTreeMap, get, is_at}
use Rattle.std.specs.declared.cmp.Ordering.{Ordering}

-- no two of the keys are equal, and a map has the place of each, and of no other key
pub record ArePlaced
    {K : Type 0} (cmp : K → K → Ordering) (eq : K → K → Bool) (keys : List K)
    (places : BTreeMap K ℕ) : Type 0 where
  pub distinct : IsDistinct eq keys
  pub found : (key : K) → get cmp places key ≡ position (eq key) keys

-- a key that had no place has this one, and any other key has the place that it had
abbrev pub IsKeyPut : {K : Type 0} → (K → K → Ordering) → (old new : BTreeMap K ℕ) →
    (key : K) (place : ℕ) (own : Option ℕ) → Type 0
IsKeyPut {K} cmp old new key place None =
    (other : K) → get cmp new other ≡ cond (is_at (cmp key) other) (Some place) (get cmp old other)
IsKeyPut {K} cmp old new key place (Some own) = (other : K) → get cmp new other ≡ get cmp old other
