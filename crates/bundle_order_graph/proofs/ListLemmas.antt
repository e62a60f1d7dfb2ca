-- Lists in which no number stands twice: their places, and their order once sorted.
use Rattle.std.proofs.Common.{◌≡◌, nat_eq, eq-eqb, ℕ, ◌<◌, List, length, get_or, sym, ◌∙◌, inl, inr, arith}
use Rattle.std.specs.List.{IsDistinct}
use Rattle.std.specs.List.Sorted.{IsPermutation, IsSorted, IsStrictlyIncreasing}
use Rattle.std.specs.Ordering.{nat_cmp}
use Rattle.std.proofs.lemmas.Bool.{cases_lt, false≢true}
use Rattle.std.proofs.lemmas.Cmp.{nat_eq_equiv}
use Rattle.std.proofs.lemmas.List.{get_or_default}
use Rattle.std.proofs.lemmas.List.Sorted.{IsNonDecreasingBy-from_sort}
use Rattle.std.proofs.lemmas.Map.Keys.{apart_from_distinct, IsDistinct-IsPermutation, IsStrictlyIncreasing-from_distinct}
use Rattle.bundle_order_graph.specs.Nodes.{place}
use Rattle.bundle_order_graph.proofs.NodeLemmas.{place-read, place-contains}

-- one number stands at one place
pub same_index : (xs : List ℕ) → IsDistinct nat_eq xs → (i j : ℕ) → i < length xs → j < length xs → get_or xs i 0 ≡ get_or xs j 0 → i ≡ j
same_index xs once i j l m e = elim (cases_lt i j) [
  | inl lt ↦ absurd (false≢true (sym (apart_from_distinct nat_eq xs i j 0 once lt m) ∙ eq-eqb (get_or xs i 0) (get_or xs j 0) e))
  | inr ge ↦ elim (cases_lt j i) [
    | inl gt ↦ absurd (false≢true (sym (apart_from_distinct nat_eq xs j i 0 once gt l) ∙ eq-eqb (get_or xs j 0) (get_or xs i 0) (sym e)))
    | inr le ↦ omega (arith, ge, le)
  ]
]

-- and that is its place
pub place-index : (xs : List ℕ) → IsDistinct nat_eq xs → (i : ℕ) → i < length xs → place xs (get_or xs i 0) ≡ i
place-index xs once i l =
    let n = get_or xs i 0 in
    let h = place-contains xs n (i, l, get_or_default xs i n 0 l) in
    same_index xs once (place xs n) i h l (place-read xs n 0 h)

-- distinct numbers, sorted
pub ascending : (old new : List ℕ) → IsPermutation old new → IsDistinct nat_eq old → IsSorted nat_cmp new → IsStrictlyIncreasing new
ascending old new p once sorted = IsStrictlyIncreasing-from_distinct new (IsNonDecreasingBy-from_sort (λ x. x) new sorted) (IsDistinct-IsPermutation nat_eq nat_eq_equiv.symm old new p once)
