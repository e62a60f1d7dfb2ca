-- The best of the keys that fit, found by lengths.
use Rattle.std.proofs.Common.{◌≡◌, inl, inr, ℕ, ◌+◌, ◌<◌, ◌≤◌, Bool, true, false, cond, nat_lt, List, Option, Some, None, IfSome, MatchOption, Contains, is_some, length, take, slice_get, get_or, refl, sym, ap, subst, ◌∙◌, true≢false, arith}
use Rattle.std.proofs.lemmas.Bool.{cases_lt, ltb-true, ltb-false}
use Rattle.std.proofs.lemmas.Grind.{common_steps}
use Rattle.std.proofs.lemmas.Option.{get_or_from_slice_get, slice_get_within}
use Rattle.gutsirava_package.specs.Lengths.{AreNoted, HasLengths}
use Rattle.gutsirava_package.specs.Patterns.{Fits, IsBest, IsHit, IsHitBy, IsKey, IsLongest, NoneBy, NoneFits, longer, starred}
use Rattle.gutsirava_package.specs.declared.patterns.PatternLengths.{PatternLengths}
use Rattle.gutsirava_package.specs.declared.patterns.PatternMatch.{PatternMatch}
use Rattle.gutsirava_package.proofs.PatternLemmas.{base-fits, sizes-fit, starred-fits}

-- a key that fits is no longer than the one that was found
abbrev pub IsWithin : ℕ → Option PatternMatch → Type 0
IsWithin size None = ⊥
IsWithin size (Some found) = size ≤ found.size

-- the longest of the keys with one of the first lengths behind their `*`
pub record IsSoFar (keys : List (List ℕ)) (text : List ℕ) (base : ℕ) (sizes : List ℕ) (count : ℕ) (longest : Option PatternMatch) : Type 0 where
  pub hit : IfSome longest (IsHit keys text base)
  pub covers : (key star : List ℕ) (are : Fits key star text) → IsKey keys key → length are.base ≡ base
      → (at : ℕ) → at < count → get_or sizes at 0 ≡ length are.trailer → IsWithin (length key) longest

module _ (keys : List (List ℕ)) (text : List ℕ) (base : ℕ) where
  hit-longer : (one other : Option PatternMatch) → IfSome one (IsHit keys text base) → IfSome other (IsHit keys text base) → IfSome (longer one other) (IsHit keys text base)
  hit-longer None None one other = tt
  hit-longer None (Some its) one other = other
  hit-longer (Some own) None one other = one
  hit-longer (Some own) (Some its) one other = by (nat_lt its.size own.size)
    where
      by : (b : Bool) → IfSome (cond b (Some own) (Some its)) (IsHit keys text base)
      by true = one
      by false = other

  within-left : (size : ℕ) (one other : Option PatternMatch) → IsWithin size one → IsWithin size (longer one other)
  within-left size None other never = absurd never
  within-left size (Some own) None is = is
  within-left size (Some own) (Some its) is = by (nat_lt its.size own.size) refl
    where
      by : (b : Bool) → nat_lt its.size own.size ≡ b → IsWithin size (cond b (Some own) (Some its))
      by true less = is
      by false not_less = omega (arith, is, ltb-false its.size own.size not_less)

  within-right : (size : ℕ) (one other : Option PatternMatch) → IsWithin size other → IsWithin size (longer one other)
  within-right size one None never = absurd never
  within-right size None (Some its) is = is
  within-right size (Some own) (Some its) is = by (nat_lt its.size own.size) refl
    where
      by : (b : Bool) → nat_lt its.size own.size ≡ b → IsWithin size (cond b (Some own) (Some its))
      by true less = omega (arith, is, ltb-true its.size own.size less)
      by false not_less = is

  hit-of : (trailer : ℕ) (found : Option PatternMatch) → MatchOption found (NoneBy keys text base trailer) (IsHitBy keys text base trailer) → IfSome found (IsHit keys text base)
  hit-of trailer None none = tt
  hit-of trailer (Some found) is = is.hit

  within-of : (trailer : ℕ) (found : Option PatternMatch) → MatchOption found (NoneBy keys text base trailer) (IsHitBy keys text base trailer)
      → (key star : List ℕ) (are : Fits key star text) → IsKey keys key → length are.base ≡ base → length are.trailer ≡ trailer → IsWithin (length key) found
  within-of trailer None none key star are is_key base_is trailer_is = none key star are is_key base_is trailer_is
  within-of trailer (Some found) is key star are is_key base_is trailer_is =
      let own = is.hit in
      let mine : starred text base trailer ≡ own.key =
      (λ i. starred text (sym own.base_is i) (sym is.trailer_is i)) ∙ starred-fits own.key found.star.now text own.fits in
      let its : starred text base trailer ≡ key = (λ i. starred text (sym base_is i) (sym trailer_is i)) ∙ starred-fits key star text are in
      let same : length key ≡ found.size = ap length (sym its ∙ mine) ∙ sym own.size_is in
      omega (arith, same)

  pub so-far-step : (sizes : List ℕ) (count trailer : ℕ) (longest found next : Option PatternMatch) → IsSoFar keys text base sizes count longest → trailer ≡ get_or sizes count 0
      → MatchOption found (NoneBy keys text base trailer) (IsHitBy keys text base trailer) → next ≡ longer longest found → IsSoFar keys text base sizes (count + 1) next
  so-far-step sizes count trailer longest found next so_far trailer_is its next_is = subst (IsSoFar keys text base sizes (count + 1)) (sym next_is) (record {
    hit = hit-longer longest found so_far.hit (hit-of trailer found its);
    covers = λ key star are is_key base_is at less same. elim (cases_lt at count) [
      | inl before ↦ within-left (length key) longest found (so_far.covers key star are is_key base_is at before same)
      | inr last ↦
          let here : at ≡ count = omega (arith, less, last) in
          within-right (length key) longest found
          (within-of trailer found its key star are is_key base_is (sym same ∙ ap (λ n. get_or sizes n 0) here ∙ sym trailer_is))
    ];
  })

  pub so-far-end : (sizes : List ℕ) (count : ℕ) (longest : Option PatternMatch) (it : PatternLengths) → IsSoFar keys text base sizes count longest → length sizes ≤ count → AreNoted keys it
      → ((trailer : ℕ) → HasLengths it (take base text) trailer → Contains sizes trailer)
      → MatchOption longest ((trailer : ℕ) → NoneBy keys text base trailer) (λ found. IsLongest keys text base found)
  so-far-end sizes count longest it so_far past noted has = by longest so_far.hit all
    where
      all : (key star : List ℕ) (are : Fits key star text) → IsKey keys key → length are.base ≡ base → IsWithin (length key) longest
      all key star are is_key base_is =
          let front : are.base ≡ take base text = sym (base-fits key star text are) ∙ ap (λ n. take n text) base_is in
          let its = has (length are.trailer) (subst (λ own. HasLengths it own (length are.trailer)) front (noted key is_key are.base are.trailer are.parts_are)) in
          so_far.covers key star are is_key base_is its.0 (omega (arith, its.1, past)) (grind (arith, common_steps, its.1, its.2))

      by : (o : Option PatternMatch) → IfSome o (IsHit keys text base)
          → ((key star : List ℕ) (are : Fits key star text) → IsKey keys key → length are.base ≡ base → IsWithin (length key) o)
          → MatchOption o ((trailer : ℕ) → NoneBy keys text base trailer) (λ found. IsLongest keys text base found)
      by None hit within = λ trailer key star are is_key base_is trailer_is. within key star are is_key base_is
      by (Some found) hit within = record { hit = hit; longest = λ other its are is_key base_is. within other its are is_key base_is }

-- no key fits with so many bytes before its `*`, or more
abbrev pub NoneFrom : List (List ℕ) → List ℕ → ℕ → Type 0
NoneFrom keys text base = (key star : List ℕ) (are : Fits key star text) → IsKey keys key → base ≤ length are.base → ⊥

module _ (keys : List (List ℕ)) (text : List ℕ) (it : PatternLengths) (noted : AreNoted keys it) where
  -- of a key that fits it is marked
  marked : (key star : List ℕ) (are : Fits key star text) → IsKey keys key → slice_get it.marks.items (length are.base) ≡ Some true
  marked key star are is_key = (noted key is_key are.base are.trailer are.parts_are).is_marked

  pub none-start : (count : ℕ) → ((n : ℕ) → n < length it.marks.items → n < length text → n < count) → NoneFrom keys text count
  none-start count within = λ key star are is_key from.
      let mark = marked key star are is_key in
      let less = within (length are.base) (slice_get_within it.marks.items (length are.base) true mark) (sizes-fit key star text are) in
      omega (arith, less, from)

  pub none-unmarked : (base : ℕ) (mark : Bool) → mark ≡ get_or it.marks.items base mark → mark ≡ false → (trailer : ℕ) → NoneBy keys text base trailer
  none-unmarked base mark mark_is unmarked trailer = λ key star are is_key base_is trailer_is.
      let its = marked key star are is_key in
      true≢false
      (
      sym (get_or_from_slice_get it.marks.items (length are.base) true mark its)
      ∙ ap (λ n. get_or it.marks.items n mark) base_is ∙ sym mark_is ∙ unmarked
      )

  pub none-step : (more base : ℕ) → more ≡ base + 1 → NoneFrom keys text more → ((trailer : ℕ) → NoneBy keys text base trailer) → NoneFrom keys text base
  none-step more base more_is above none = λ key star are is_key from. elim (cases_lt base (length are.base)) [
    | inl less ↦ above key star are is_key (omega (arith, less, more_is))
    | inr not_less ↦ none (length are.trailer) key star are is_key (omega (arith, from, not_less)) refl
  ]

  pub best-of : (more base : ℕ) (found : PatternMatch) → more ≡ base + 1 → NoneFrom keys text more → IsLongest keys text base found → IsBest keys text found
  best-of more base found more_is above is = record {
    key = is.hit.key;
    key_at = is.hit.key_at;
    fits = is.hit.fits;
    best = λ other its are is_key. elim (cases_lt (length are.base) base) [
      | inl less ↦ inl (omega (arith, less, is.hit.base_is))
      | inr from ↦ elim (cases_lt base (length are.base)) [
        | inl more_than ↦ absurd (above other its are is_key (omega (arith, more_than, more_is)))
        | inr not_more ↦
            let same : length are.base ≡ base = omega (arith, from, not_more) in
            inr (same ∙ sym is.hit.base_is, omega (arith, is.longest other its are is_key same, is.hit.size_is))
      ]
    ];
  }

  pub best-found : (more base : ℕ) (o : Option PatternMatch) → more ≡ base + 1 → NoneFrom keys text more → is_some o ≡ true
      → MatchOption o ((trailer : ℕ) → NoneBy keys text base trailer) (λ found. IsLongest keys text base found)
      → MatchOption o (NoneFits keys text) (λ found. IsBest keys text found)
  best-found more base None more_is above some is = absurd (true≢false (sym some))
  best-found more base (Some found) more_is above some is = best-of more base found more_is above is

  pub none-found : (base : ℕ) (o : Option PatternMatch) → is_some o ≡ false
      → MatchOption o ((trailer : ℕ) → NoneBy keys text base trailer) (λ found. IsLongest keys text base found)
      → (trailer : ℕ) → NoneBy keys text base trailer
  none-found base None some is = is
  none-found base (Some found) some is = absurd (true≢false some)
