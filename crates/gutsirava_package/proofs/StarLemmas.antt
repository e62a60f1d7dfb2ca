-- What becomes of a text whose `*` stand for another one.
use Rattle.std.proofs.Common.{◌≡◌, ◌≢◌, ℕ, suc, ◌<◌, Bool, true, false, cond, List, [], ◌∷◌, ◌++◌, Some, length, get_or, refl, sym, ap, ◌∙◌, append_assoc, arith}
use Rattle.std.proofs.lemmas.Bool.{eqb-true}
use Rattle.gutsirava_package.specs.Entries.{with_star}
use Rattle.gutsirava_package.specs.Patterns.{is_star}

-- a text has no `*`
abbrev pub HasNone : List ℕ → Type 0
HasNone text = (i : ℕ) → i < length text → get_or text i 0 ≢ 42

no_star : (byte : ℕ) → byte ≢ 42 → is_star byte ≡ false
no_star byte apart = by (is_star byte) refl
  where
    by : (b : Bool) → is_star byte ≡ b → is_star byte ≡ false
    by true is = absurd (apart (eqb-true byte 42 is))
    by false is = is

rest_has_none : (byte : ℕ) (bytes : List ℕ) → HasNone (byte ∷ bytes) → HasNone bytes
rest_has_none byte bytes none = λ i within. none (suc i) (omega (arith, within))

module _ (star : List ℕ) where
  star-more : (front behind : List ℕ) → HasNone front → with_star (Some star) (front ++ 42 ∷ behind) ≡ front ++ (star ++ with_star (Some star) behind)
  star-more [] behind none = refl
  star-more (byte ∷ front) behind none =
      ap (λ b. cond b star (byte ∷ []) ++ with_star (Some star) (front ++ 42 ∷ behind)) (no_star byte (none 0 (omega arith)))
      ∙ ap (λ l. byte ∷ l) (star-more front behind (rest_has_none byte front none))

  -- a text without one stays
  pub star-plain : (text : List ℕ) → HasNone text → with_star (Some star) text ≡ text
  star-plain [] none = refl
  star-plain (byte ∷ bytes) none =
      ap (λ b. cond b star (byte ∷ []) ++ with_star (Some star) bytes) (no_star byte (none 0 (omega arith)))
      ∙ ap (λ l. byte ∷ l) (star-plain bytes (rest_has_none byte bytes none))

  -- one more `*` is passed
  pub star-step : (text rest front behind whole more : List ℕ) → whole ++ with_star (Some star) rest ≡ with_star (Some star) text
      → rest ≡ front ++ 42 ∷ behind → HasNone front → more ≡ (whole ++ front) ++ star → more ++ with_star (Some star) behind ≡ with_star (Some star) text
  star-step text rest front behind whole more so_far parts none more_is =
      let w = with_star (Some star) behind in
      let grouped : ((whole ++ front) ++ star) ++ w ≡ whole ++ (front ++ (star ++ w)) = simp append_assoc in
      ap (λ m. m ++ w) more_is ∙ grouped ∙ ap (λ l. whole ++ l) (sym (ap (with_star (Some star)) parts ∙ star-more front behind none)) ∙ so_far

  pub star-end : (text rest whole more : List ℕ) → whole ++ with_star (Some star) rest ≡ with_star (Some star) text → HasNone rest → more ≡ whole ++ rest
      → more ≡ with_star (Some star) text
  star-end text rest whole more so_far none more_is = more_is ∙ ap (λ l. whole ++ l) (sym (star-plain rest none)) ∙ so_far
