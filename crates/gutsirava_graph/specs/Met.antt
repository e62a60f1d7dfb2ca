-- A list of numbers without repeats, and the set beside it.
use Rattle.std.specs.Prelude.{◌≡◌, ℕ, List, nat_eq}
use Rattle.std.specs.Ordering.{nat_cmp}
use Rattle.std.specs.List.{IsDistinct, list_any}
use Rattle.std.specs.BTreeSet.{BTreeSet, contains}

-- the set has the numbers of the list, which are distinct
pub record IsSetOf (list : List ℕ) (all : BTreeSet ℕ) : Type 0 where
  pub once : IsDistinct nat_eq list
  pub same : (q : ℕ) → contains nat_cmp all q ≡ list_any (nat_eq q) list
