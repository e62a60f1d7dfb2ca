-- How many of what stands at some occurrences were passed, where the occurrences are gone over in turn.
use Rattle.std.proofs.Common.{◌≡◌, inl, inr, ◌⊎◌, ◌≤◌, ◌<◌, ℕ, zero, suc, ◌==◌, Bool, true, false, List, [], ◌∷◌, Option, Some, None, map, refl, ap, sym, ◌∙◌, arith, eqb-true, eq-eqb}
use Rattle.std.specs.Prelude.{option_map, slice_get}
use Rattle.std.proofs.lemmas.Bool.{cases_lt, false≢true}
use Rattle.std.proofs.lemmas.Option.{none-some, same_Some, slice_get-map}
use Rattle.bundle_rules.specs.Places.{Occurrence}
use Rattle.bundle_merge_names.specs.Body.{is_at, past_by}
use Rattle.bundle_merge_names.proofs.Rising.{Rises, rises-order, place_of}

-- so many stand before the i-th occurrence, and the others at occurrences from it on
pub record SplitsAt {A : Type 0} (f : A → ℕ) (xs : List A) (os : List Occurrence) (number i : ℕ) : Type 0 where
  pub passed : (k j : ℕ) (x : A) (o : Occurrence) → k < number → slice_get xs k ≡ Some x → i ≤ j → slice_get os j ≡ Some o → f x < o.place
  pub ahead : (k : ℕ) (x : A) → number ≤ k → slice_get xs k ≡ Some x → (j : ℕ) × (o : Occurrence) × (i ≤ j) × (slice_get os j ≡ Some o) × (f x ≡ o.place)

-- at first none was passed
pub splits-first : {A : Type 0} (f : A → ℕ) (xs : List A) (os : List Occurrence)
    → ((k : ℕ) (x : A) → slice_get xs k ≡ Some x → (j : ℕ) × (o : Occurrence) × (slice_get os j ≡ Some o) × (f x ≡ o.place))
    → SplitsAt f xs os 0 0
splits-first f xs os stand = record {
  passed = λ k j x o less at later there. absurd (omega (arith, less));
  ahead = λ k x later at. let s = stand k x at in (s.0, s.1, omega arith, s.2, s.3);
}

-- where one stands there stand all before
there-before : {A : Type 0} (xs : List A) (k n : ℕ) (x : A) → slice_get xs k ≡ Some x → n ≤ k → (y : A) × (slice_get xs n ≡ Some y)
there-before [] k n x at less = absurd (none-some x at)
there-before (y ∷ xs) k zero x at less = (y, refl)
there-before (y ∷ xs) zero (suc n) x at less = absurd (omega (arith, less))
there-before (y ∷ xs) (suc k) (suc n) x at less = there-before xs k n x at (omega (arith, less))

-- two at one number are one
same-at : {A : Type 0} (xs : List A) (k l : ℕ) (x y : A) → k ≡ l → slice_get xs k ≡ Some x → slice_get xs l ≡ Some y → x ≡ y
same-at xs k l x y same ex ey = same_Some x y (sym ex ∙ ap (slice_get xs) same ∙ ey)

module _ {A : Type 0} (f : A → ℕ) (xs : List A) (os : List Occurrence) (rise : Rises f 0 xs) (rises : Rises place_of 0 os) where
  -- the occurrences from one on have no lower places
  no-lower : (i j : ℕ) (o q : Occurrence) → i ≤ j → slice_get os i ≡ Some o → slice_get os j ≡ Some q → o.place ≤ q.place
  no-lower i j o q less at there = elim (cases_lt i j) [ inl before ↦ (let l = rises-order place_of 0 os i j o q rises before at there in omega (arith, l)) | inr behind ↦ (let s = ap place_of (same-at os i j o q (omega (arith, less, behind)) at there) in omega (arith, s)) ]

  module _ (number i : ℕ) (o : Occurrence) (at : slice_get os i ≡ Some o) (splits : SplitsAt f xs os number i) where
    -- what stands at the occurrence is the next
    pub next-only : (k : ℕ) (x : A) → slice_get xs k ≡ Some x → f x ≡ o.place → k ≡ number
    next-only k x at_k is = elim (cases_lt k number) [ inl before ↦ (let l = splits.passed k i x o before at_k (omega arith) at in absurd (omega (arith, l, is))) | inr from ↦ behind from (cases_lt number k) ]
      where
        behind : number ≤ k → (number < k) ⊎ (k ≤ number) → k ≡ number
        behind from (inr upto) = omega (arith, from, upto)
        behind from (inl later) =
            let y = there-before xs k number x at_k from in
            let a = splits.ahead number y.0 (omega arith) y.1 in
            let low = no-lower i a.0 o a.1 a.2 at a.3 in
            let order = rises-order f 0 xs number k y.0 x rise later y.1 at_k in
            let here = a.4 in
            absurd (omega (arith, low, order, is, here))

    -- behind an occurrence at which the next stands
    pub passes-next : (x : A) → slice_get xs number ≡ Some x → f x ≡ o.place → SplitsAt f xs os (suc number) (suc i)
    passes-next x there is = record {
      passed = λ k j y q less at_k later at_j. passed-by k j y q less at_k later at_j (cases_lt k number);
      ahead = λ k y later at_k. ahead-of k y later at_k (splits.ahead k y (omega (arith, later)) at_k);
    }
      where
        passed-by : (k j : ℕ) (y : A) (q : Occurrence) → k < suc number → slice_get xs k ≡ Some y → suc i ≤ j → slice_get os j ≡ Some q → (k < number) ⊎ (number ≤ k) → f y < q.place
        passed-by k j y q less at_k later at_j (inl before) = splits.passed k j y q before at_k (omega (arith, later)) at_j
        passed-by k j y q less at_k later at_j (inr from) =
            let same = ap f (same-at xs k number y x (omega (arith, less, from)) at_k there) in
            let order = rises-order place_of 0 os i j o q rises (omega (arith, later)) at at_j in
            omega (arith, same, order, is)

        ahead-of : (k : ℕ) (y : A) → suc number ≤ k → slice_get xs k ≡ Some y → ((j : ℕ) × (q : Occurrence) × (i ≤ j) × (slice_get os j ≡ Some q) × (f y ≡ q.place)) → (j : ℕ) × (q : Occurrence) × (suc i ≤ j) × (slice_get os j ≡ Some q) × (f y ≡ q.place)
        ahead-of k y later at_k (j, q, less, at_j, stands) = elim (cases_lt i j) [ inl before ↦ (j, q, omega (arith, before), at_j, stands) | inr behind ↦ (let same = ap place_of (same-at os i j o q (omega (arith, less, behind)) at at_j) in let order = rises-order f 0 xs number k x y rise (omega (arith, later)) there at_k in absurd (omega (arith, same, order, is, stands))) ]

    -- behind any other
    pub passes-over : ((x : A) → slice_get xs number ≡ Some x → f x ≡ o.place → ⊥) → SplitsAt f xs os number (suc i)
    passes-over none = record {
      passed = λ k j y q less at_k later at_j. splits.passed k j y q less at_k (omega (arith, later)) at_j;
      ahead = λ k y later at_k. ahead-of k y at_k (splits.ahead k y later at_k);
    }
      where
        ahead-of : (k : ℕ) (y : A) → slice_get xs k ≡ Some y → ((j : ℕ) × (q : Occurrence) × (i ≤ j) × (slice_get os j ≡ Some q) × (f y ≡ q.place)) → (j : ℕ) × (q : Occurrence) × (suc i ≤ j) × (slice_get os j ≡ Some q) × (f y ≡ q.place)
        ahead-of k y at_k (j, q, less, at_j, stands) = elim (cases_lt i j) [ inl before ↦ (j, q, omega (arith, before), at_j, stands) | inr behind ↦ (let same : f y ≡ o.place = stands ∙ sym (ap place_of (same-at os i j o q (omega (arith, less, behind)) at at_j)) in absurd (none y (sym (ap (slice_get xs) (next-only k y at_k same)) ∙ at_k) same)) ]

-- The same where what stands there is told by the code.
module _ {A C : Type 0} (f : A → ℕ) (entry : C → A) (codes : List C) (xs : List A) (same : map entry codes ≡ xs) (os : List Occurrence) (rise : Rises f 0 xs) (rises : Rises place_of 0 os) (number i : ℕ) (o : Occurrence) (at : slice_get os i ≡ Some o) (splits : SplitsAt f xs os number i) where
  -- what the code tells of the next
  pub told-next : (found : Option C) → slice_get codes number ≡ found → slice_get xs number ≡ option_map entry found
  told-next found e = ap (λ l. slice_get l number) (sym same) ∙ slice_get-map entry codes number ∙ ap (option_map entry) e

  -- behind the occurrence so many stand before
  pub passes : SplitsAt f xs os (past_by (is_at (λ (c : C). f (entry c)) o.place (slice_get codes number)) number) (suc i)
  passes = by (slice_get codes number) refl
    where
      by-place : (c : C) → slice_get codes number ≡ Some c → (b : Bool) → (f (entry c) == o.place) ≡ b → SplitsAt f xs os (past_by b number) (suc i)
      by-place c e true is = passes-next f xs os rise rises number i o at splits (entry c) (told-next (Some c) e) (eqb-true (f (entry c)) o.place is)
      by-place c e false is = passes-over f xs os rise rises number i o at splits (λ x there here. false≢true (sym is ∙ eq-eqb (f (entry c)) o.place (ap f (same_Some (entry c) x (sym (told-next (Some c) e) ∙ there)) ∙ here)))

      by : (found : Option C) → slice_get codes number ≡ found → SplitsAt f xs os (past_by (is_at (λ (c : C). f (entry c)) o.place found) number) (suc i)
      by None e = passes-over f xs os rise rises number i o at splits (λ x there here. none-some x (sym (told-next None e) ∙ there))
      by (Some c) e = by-place c e (f (entry c) == o.place) refl

  -- what stands at the occurrence is told next
  pub next-there : (k : ℕ) (x : A) → slice_get xs k ≡ Some x → f x ≡ o.place → (c : C) × (slice_get codes number ≡ Some c) × (entry c ≡ x)
  next-there k x at_k is = by (slice_get codes number) refl
    where
      there : slice_get xs number ≡ Some x
      there = sym (ap (slice_get xs) (next-only f xs os rise rises number i o at splits k x at_k is)) ∙ at_k

      by : (found : Option C) → slice_get codes number ≡ found → (c : C) × (slice_get codes number ≡ Some c) × (entry c ≡ x)
      by None e = absurd (none-some x (sym (told-next None e) ∙ there))
      by (Some c) e = (c, e, same_Some (entry c) x (sym (told-next (Some c) e) ∙ there))
