-- A search among numbers that ascend finds one just where it is among them.
use Rattle.std.proofs.Common.{◌≡◌, ℕ, ◌<◌, ◌≤◌, eqb, eq-eqb, ne_eqb, List, length, get_or, Result, Ok, Err, MatchResult, is_ok, inl, inr, sym, ◌∙◌, arith}
use Rattle.std.proofs.lemmas.Bool.{cases_order}
use Rattle.std.proofs.lemmas.List.{get_or_default}
use Rattle.std.proofs.lemmas.List.Folds.{list_any_at, list_any_none}
use Rattle.std.proofs.lemmas.List.Sorted.{searched}
use Rattle.gutsirava_sources.specs.Places.{is_among}
use Rattle.gutsirava_sources.proofs.pieces.contains.Goals as goal

-- a number that is in none of two parts is in none
absent : (xs : List ℕ) (x i k d : ℕ) → ((j : ℕ) → j < i → get_or xs j 0 < x) → ((j : ℕ) → i ≤ j → j < length xs → x < get_or xs j 0) → k < length xs → get_or xs k d ≡ x → ⊥
absent xs x i k d low high lt e =
    let same : get_or xs k 0 ≡ x = get_or_default xs k 0 d lt ∙ e in
    elim (cases_order k i) [
      | inl here ↦ absurd (omega (arith, high k (omega arith) lt))
      | inr other ↦ elim other [
        | inl less ↦ absurd (omega (arith, low k less))
        | inr more ↦ absurd (omega (arith, high k (omega arith) lt))
      ]
    ]

-- what a search says, as a test
among_searched : (xs : List ℕ) (x : ℕ) (r : Result ℕ ℕ) → MatchResult r (λ i. (i < length xs) × (get_or xs i 0 ≡ x)) (λ i. (i ≤ length xs) × ((k : ℕ) → k < i → get_or xs k 0 < x) × ((k : ℕ) → i ≤ k → k < length xs → x < get_or xs k 0)) → is_ok r ≡ is_among xs x
among_searched xs x (Ok i) h = sym (list_any_at (λ place. eqb place x) xs i 0 h.0 (eq-eqb (get_or xs i 0) x h.1))
among_searched xs x (Err i) h =
    sym (list_any_none (λ place. eqb place x) xs (λ k d lt. ne_eqb (get_or xs k d) x (absent xs x i k d h.1 h.2 lt)))

pub returns : goal.returns
returns c = λ rising.
    c.is_ok.ensures.value
    ∙ among_searched _ _ c.binary_search.result (searched _ _ _ c.binary_search.ensures.position (λ i j le lt. rising i j 0 le lt))
