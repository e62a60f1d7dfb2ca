-- Two values change places, and all stand where they should in the end.
use Rattle.std.proofs.Common.{◌≡◌, ◌≢◌, ℕ, zero, suc, ◌+◌, ◌<◌, List, [], ◌∷◌, length, get_or, slice_get, Some, refl, sym, ap, ◌∙◌, subst, inl, inr, arith}
use Rattle.std.specs.List.{AllZip, swap}
use Rattle.std.proofs.lemmas.Bool.{cases_eq, cases_lt}
use Rattle.std.proofs.lemmas.Option.{slice_get-get_or}
use Rattle.std.proofs.lemmas.List.{get_or_default}
use Rattle.std.proofs.lemmas.List.Edits.{swapped_from_swap, length-swap}
use Rattle.bundle_order_sort.specs.declared.arranging.Shuffle.{Shuffle}
use Rattle.bundle_order_sort.specs.Arranged.{IsArrangement, AreArranged, IsInverse, IsStill, IsShuffled, AreSwapped}

pub AreSwapped-from_swap : (xs ys : List ℕ) (a b : ℕ) → a < length xs → b < length xs → ys ≡ swap xs a b → AreSwapped xs ys a b
AreSwapped-from_swap xs ys a b l m e = let s = swapped_from_swap xs ys a b 0 l m e in (s.0, s.1, s.2)

module _ (N P M Q : List ℕ) (n a b : ℕ) (inverse : IsInverse N P n) (a_in : a < n) (b_in : b < n) (M_len : length M ≡ n) (Q_len : length Q ≡ n) (first : AreSwapped N M a b) (second : AreSwapped P Q (get_or N a 0) (get_or N b 0)) where
  number_in : (k : ℕ) → k < n → get_or M k 0 < n
  number_in k l = elim (cases_eq k a) [
    | inl e ↦ subst (λ x. x < n) (sym (ap (λ j. get_or M j 0) e ∙ first.0)) (inverse.numbers_in b b_in)
    | inr x ↦ elim (cases_eq k b) [
      | inl e ↦ subst (λ x. x < n) (sym (ap (λ j. get_or M j 0) e ∙ first.1)) (inverse.numbers_in a a_in)
      | inr y ↦ subst (λ x. x < n) (sym (first.2 k x y)) (inverse.numbers_in k l)
    ]
  ]

  at_a : get_or Q (get_or N a 0) 0 ≡ b
  at_a = second.0 ∙ inverse.forth b b_in

  at_b : get_or Q (get_or N b 0) 0 ≡ a
  at_b = second.1 ∙ inverse.forth a a_in

  place_in : (k : ℕ) → k < n → get_or Q k 0 < n
  place_in k l = elim (cases_eq k (get_or N a 0)) [
    | inl e ↦ subst (λ x. x < n) (sym (ap (λ j. get_or Q j 0) e ∙ at_a)) b_in
    | inr x ↦ elim (cases_eq k (get_or N b 0)) [
      | inl e ↦ subst (λ x. x < n) (sym (ap (λ j. get_or Q j 0) e ∙ at_b)) a_in
      | inr y ↦ subst (λ x. x < n) (sym (second.2 k x y)) (inverse.places_in k l)
    ]
  ]

  goes_forth : (k : ℕ) → k < n → get_or Q (get_or M k 0) 0 ≡ k
  goes_forth k l = elim (cases_eq k a) [
    | inl e ↦ ap (λ j. get_or Q (get_or M j 0) 0) e ∙ (ap (λ j. get_or Q j 0) first.0 ∙ (at_b ∙ sym e))
    | inr x ↦ elim (cases_eq k b) [
      | inl e ↦ ap (λ j. get_or Q (get_or M j 0) 0) e ∙ (ap (λ j. get_or Q j 0) first.1 ∙ (at_a ∙ sym e))
      | inr y ↦
          ap (λ j. get_or Q j 0) (first.2 k x y)
          ∙ (second.2 (get_or N k 0)
          (λ e. x (sym (inverse.forth k l) ∙ (ap (λ j. get_or P j 0) e ∙ inverse.forth a a_in)))
          (λ e. y (sym (inverse.forth k l) ∙ (ap (λ j. get_or P j 0) e ∙ inverse.forth b b_in)))
          ∙ inverse.forth k l)
    ]
  ]

  goes_back : (k : ℕ) → k < n → get_or M (get_or Q k 0) 0 ≡ k
  goes_back k l = elim (cases_eq k (get_or N a 0)) [
    | inl e ↦ ap (λ j. get_or M (get_or Q j 0) 0) e ∙ (ap (λ j. get_or M j 0) at_a ∙ (first.1 ∙ sym e))
    | inr x ↦ elim (cases_eq k (get_or N b 0)) [
      | inl e ↦ ap (λ j. get_or M (get_or Q j 0) 0) e ∙ (ap (λ j. get_or M j 0) at_b ∙ (first.0 ∙ sym e))
      | inr y ↦
          ap (λ j. get_or M j 0) (second.2 k x y)
          ∙ (first.2 (get_or P k 0)
          (λ e. x (sym (inverse.back k l) ∙ ap (λ j. get_or N j 0) e))
          (λ e. y (sym (inverse.back k l) ∙ ap (λ j. get_or N j 0) e))
          ∙ inverse.back k l)
    ]
  ]

  pub IsInverse-swapped : IsInverse M Q n
  IsInverse-swapped = record { numbers_len = M_len; places_len = Q_len; numbers_in = number_in; places_in = place_in; forth = goes_forth; back = goes_back }

-- what is wanted is brought to a place
module _ {X : Type 0} (old new : Shuffle) (base values moved : List X) (place wanted found number : ℕ) (was : IsShuffled old base values) (place_in : place < length base) (wanted_in : wanted < length base) (is_found : found ≡ get_or old.places.items wanted 0) (is_number : number ≡ get_or old.numbers.items place 0) (values_swaps : place < length values → found < length values → moved ≡ swap values place found) (numbers_swaps : place < length old.numbers.items → found < length old.numbers.items → new.numbers.items ≡ swap old.numbers.items place found) (places_swaps : number < length old.places.items → wanted < length old.places.items → new.places.items ≡ swap old.places.items number wanted) where
  found_in : found < length base
  found_in = subst (λ x. x < length base) (sym is_found) (was.inverse.places_in wanted wanted_in)

  told_in : number < length base
  told_in = subst (λ x. x < length base) (sym is_number) (was.inverse.numbers_in place place_in)

  values_swapped : moved ≡ swap values place found
  values_swapped = let f = found_in in values_swaps (omega (arith, place_in, was.len)) (omega (arith, f, was.len))

  numbers_swapped : new.numbers.items ≡ swap old.numbers.items place found
  numbers_swapped = let f = found_in in numbers_swaps (omega (arith, place_in, was.inverse.numbers_len)) (omega (arith, f, was.inverse.numbers_len))

  places_swapped : new.places.items ≡ swap old.places.items number wanted
  places_swapped = let f = told_in in places_swaps (omega (arith, f, was.inverse.places_len)) (omega (arith, wanted_in, was.inverse.places_len))

  first : AreSwapped old.numbers.items new.numbers.items place found
  first = AreSwapped-from_swap old.numbers.items new.numbers.items place found (omega (arith, place_in, was.inverse.numbers_len)) (omega (arith, found_in, was.inverse.numbers_len)) numbers_swapped

  second : AreSwapped old.places.items new.places.items number wanted
  second = AreSwapped-from_swap old.places.items new.places.items number wanted (omega (arith, told_in, was.inverse.places_len)) (omega (arith, wanted_in, was.inverse.places_len)) places_swapped

  stands : wanted ≡ get_or old.numbers.items found 0
  stands = sym (was.inverse.back wanted wanted_in) ∙ ap (λ j. get_or old.numbers.items j 0) (sym is_found)

  each : (k : ℕ) (d : X) → k < length base → get_or moved k d ≡ get_or base (get_or new.numbers.items k 0) d
  each k d l =
      let s = swapped_from_swap values moved place found d (omega (arith, place_in, was.len)) (omega (arith, found_in, was.len)) values_swapped in
      elim (cases_eq k place) [
        | inl e ↦ ap (λ j. get_or moved j d) e ∙ (s.0 ∙ (was.each found d found_in ∙ ap (λ j. get_or base j d) (sym (ap (λ j. get_or new.numbers.items j 0) e ∙ first.0))))
        | inr x ↦ elim (cases_eq k found) [
          | inl e ↦ ap (λ j. get_or moved j d) e ∙ (s.1 ∙ (was.each place d place_in ∙ ap (λ j. get_or base j d) (sym (ap (λ j. get_or new.numbers.items j 0) e ∙ first.1))))
          | inr y ↦ s.2 k x y ∙ (was.each k d l ∙ ap (λ j. get_or base j d) (sym (first.2 k x y)))
        ]
      ]

  pub IsShuffled-brought : IsShuffled new base moved
  IsShuffled-brought = record {
    len = ap length values_swapped ∙ (length-swap values place found ∙ was.len);
    inverse = IsInverse-swapped old.numbers.items old.places.items new.numbers.items new.places.items (length base) place found was.inverse place_in found_in
        (ap length numbers_swapped ∙ (length-swap old.numbers.items place found ∙ was.inverse.numbers_len))
        (ap length places_swapped ∙ (length-swap old.places.items number wanted ∙ was.inverse.places_len))
        first (subst (λ x. AreSwapped old.places.items new.places.items x (get_or old.numbers.items found 0)) is_number (subst (λ x. AreSwapped old.places.items new.places.items number x) stands second));
    each = each;
  }

  pub AreSwapped-brought : AreSwapped old.numbers.items new.numbers.items place (get_or old.places.items wanted 0)
  AreSwapped-brought = subst (λ x. AreSwapped old.numbers.items new.numbers.items place x) is_found first

-- ---- the first so many places have what is wanted there
pub record IsArrangedTo {X : Type 0} (shuffle : Shuffle) (base values : List X) (order : List ℕ) (n : ℕ) : Type 0 where
  pub shuffled : IsShuffled shuffle base values
  pub done : (k : ℕ) → k < n → get_or shuffle.numbers.items k 0 ≡ get_or order k 0

module _ {X : Type 0} (old new : Shuffle) (base values moved : List X) (order : List ℕ) (place wanted : ℕ) (is : IsArrangement order (length base)) (was : IsArrangedTo old base values order place) (place_in : place < length order) (is_wanted : wanted ≡ get_or order place 0) where
  wanted_in : wanted < length base
  wanted_in = subst (λ x. x < length base) (sym is_wanted) (is.within place place_in)

  not_done : (k : ℕ) → k < place → k ≢ get_or old.places.items wanted 0
  not_done k l e = is.once k place l place_in (sym (was.done k l) ∙ (ap (λ j. get_or old.numbers.items j 0) e ∙ (was.shuffled.inverse.back wanted wanted_in ∙ is_wanted)))

  free_in : place < length base
  free_in = elim (cases_lt place (length base)) [
    | inl l ↦ l
    | inr g ↦ absurd (let f = was.shuffled.inverse.places_in wanted wanted_in in not_done (get_or old.places.items wanted 0) (omega (arith, f, g)) refl)
  ]

  pub IsArrangedTo-more : (IsShuffled old base values → place < length base → wanted < length base → IsShuffled new base moved) → (IsShuffled old base values → place < length base → wanted < length base → AreSwapped old.numbers.items new.numbers.items place (get_or old.places.items wanted 0)) → IsArrangedTo new base moved order (place + 1)
  IsArrangedTo-more shuffled brought = record {
    shuffled = shuffled was.shuffled free_in wanted_in;
    done = λ k l. let s = brought was.shuffled free_in wanted_in in elim (cases_eq k place) [
      | inl e ↦ ap (λ j. get_or new.numbers.items j 0) e ∙ (s.0 ∙ (was.shuffled.inverse.back wanted wanted_in ∙ (is_wanted ∙ ap (λ j. get_or order j 0) (sym e))))
      | inr x ↦ let less : k < place = omega (arith, l, x) in s.2 k x (not_done k less) ∙ was.done k less
    ];
  }

-- ---- in the end
zipped : {X : Type 0} (base : List X) (order : List ℕ) (values : List X) → length values ≡ length order → ((k : ℕ) → k < length order → slice_get values k ≡ slice_get base (get_or order k 0)) → AllZip (λ n value. slice_get base n ≡ Some value) order values
zipped base [] [] e at = tt
zipped base [] (v ∷ values) e at = absurd (omega (arith, e))
zipped base (n ∷ order) [] e at = absurd (omega (arith, e))
zipped base (n ∷ order) (v ∷ values) e at = (sym (at zero (omega arith)), zipped base order values (omega (arith, e)) (λ k l. at (suc k) (omega (arith, l))))

module _ {X : Type 0} (shuffle : Shuffle) (base values : List X) (order : List ℕ) (is : IsArrangement order (length base)) (all : IsArrangedTo shuffle base values order (length order)) where
  -- as many places as values
  long : length order ≡ length base
  long = elim (cases_lt (length order) (length base)) [
    | inl l ↦ absurd (
        let n = get_or shuffle.numbers.items (length order) 0 in
        let c = is.all n (all.shuffled.inverse.numbers_in (length order) l) in
        let h : get_or order c.0 0 ≡ n = get_or_default order c.0 0 n c.1 ∙ c.2 in
        let j : c.0 ≡ length order = sym (all.shuffled.inverse.forth c.0 (omega (arith, c.1, l))) ∙ (ap (λ x. get_or shuffle.places.items x 0) (all.done c.0 c.1 ∙ h) ∙ all.shuffled.inverse.forth (length order) l) in
        omega (arith, j, c.1)
        )
    | inr g ↦ elim (cases_lt (length base) (length order)) [
      | inl l ↦ absurd (
          let w = is.within (length base) l in
          let f = all.shuffled.inverse.places_in (get_or order (length base) 0) w in
          is.once (get_or shuffle.places.items (get_or order (length base) 0) 0) (length base) f l (sym (all.done (get_or shuffle.places.items (get_or order (length base) 0) 0) (omega (arith, f, l))) ∙ all.shuffled.inverse.back (get_or order (length base) 0) w)
          )
      | inr h ↦ omega (arith, g, h)
    ]
  ]

  at : (k : ℕ) → k < length order → slice_get values k ≡ slice_get base (get_or order k 0)
  at k l = by values refl
    where
      by : (vs : List X) → values ≡ vs → slice_get values k ≡ slice_get base (get_or order k 0)
      by [] e = absurd (omega (arith, ap length e, all.shuffled.len, long, l))
      by (d ∷ vs) e =
          slice_get-get_or values k d (omega (arith, all.shuffled.len, long, l))
          ∙ (ap (λ x. Some x) (all.shuffled.each k d (omega (arith, long, l)) ∙ ap (λ j. get_or base j d) (all.done k l))
          ∙ sym (slice_get-get_or base (get_or order k 0) d (is.within k l)))

  pub AreArranged-all : AreArranged order base values
  AreArranged-all = zipped base order values (all.shuffled.len ∙ sym long) at

-- nothing has moved
pub IsArrangedTo-none : {X : Type 0} (shuffle : Shuffle) (values : List X) (order : List ℕ) → IsStill shuffle (length values) → IsArrangedTo shuffle values values order 0
IsArrangedTo-none shuffle values order is = record {
  shuffled = record { len = refl; inverse = is.inverse; each = λ k d l. ap (λ j. get_or values j d) (sym (is.still k l)) };
  done = λ k l. absurd (omega (arith, l));
}
