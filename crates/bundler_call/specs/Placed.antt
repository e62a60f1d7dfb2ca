-- Keys that are found where they stand.
use Rattle.std.specs.Prelude.{◌≡◌, ℕ, List, Bool, Some, position, slice_get}
use Rattle.std.specs.BTreeMap.{BTreeMap, get}
use Rattle.std.specs.declared.cmp.Ordering.{Ordering}

-- a search for each of the keys finds the place where it stands, so that no two are equal
abbrev pub StandOnce : {K : Type 0} → (K → K → Bool) → List K → Type 0
StandOnce {K} eq keys = (i : ℕ) (key : K) → slice_get keys i ≡ Some key →
    position (eq key) keys ≡ Some i

-- no two of the keys are equal, and a map has the place of each, and of no other key
pub record HavePlaces {K : Type 0} (cmp : K → K → Ordering) (eq : K → K → Bool) (keys : List K)
    (places : BTreeMap K ℕ) : Type 0 where
  pub once : StandOnce eq keys
  pub found : (key : K) → get cmp places key ≡ position (eq key) keys
