-- How long the parts of patterns are.
use Rattle.std.specs.Prelude.{◌≡◌, ℕ, List, Some, true, Contains, length, slice_get}
use Rattle.std.specs.declared.vec.Vec.{Vec}
use Rattle.std.specs.declared.alloc.Global.{Global}
use Rattle.gutsirava_package.specs.Patterns.{IsKey, parts}
use Rattle.gutsirava_package.specs.declared.patterns.PatternLengths.{PatternLengths}

-- a list has a length
abbrev pub HasAt : List (Vec ℕ Global) → ℕ → ℕ → Type 0
HasAt lists place size =
    (list : Vec ℕ Global) × (slice_get lists place ≡ Some list) × Contains list.items size

-- each list is there, and has the lengths that it had
abbrev pub AllStay : List (Vec ℕ Global) → List (Vec ℕ Global) → Type 0
AllStay old new = (place size : ℕ) → HasAt old place size → HasAt new place size

-- it is noted that a pattern has this before its `*`, and so many bytes behind it
pub record HasLengths (it : PatternLengths) (base : List ℕ) (trailer : ℕ) : Type 0 where
  pub is_marked : slice_get it.marks.items (length base) ≡ Some true
  pub place : ℕ
  pub base_at : slice_get it.bases place ≡ Some base
  pub has : HasAt it.trailers.items place trailer

-- what was noted is
abbrev pub Stays : PatternLengths → PatternLengths → Type 0
Stays old new = (base : List ℕ) (trailer : ℕ) → HasLengths old base trailer →
    HasLengths new base trailer

-- of a key that is a pattern it is noted
abbrev pub IsNoted : List ℕ → PatternLengths → Type 0
IsNoted key it = (base trailer : List ℕ) → parts key ≡ Some (base, trailer) →
    HasLengths it base (length trailer)

-- and so of each of the keys
abbrev pub AreNoted : List (List ℕ) → PatternLengths → Type 0
AreNoted keys it = (key : List ℕ) → IsKey keys key → IsNoted key it
