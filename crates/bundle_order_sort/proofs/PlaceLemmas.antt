-- The places of the items whose module passes a test.
use Rattle.std.proofs.Common.{◌≡◌, ℕ, zero, suc, ◌+◌, ◌<◌, Bool, true, false, cond, List, [], ◌∷◌, ◌++◌, length, get_or, Contains, refl, sym, ap, ◌∙◌, subst, inl, inr, arith}
use Rattle.bundle_order_graph.proofs.OrderLemmas.{Contains-head, Contains-tail, Contains-cons_cases}
use Rattle.bundle_order_sort.specs.Places.{places_where}
use Rattle.bundle_order_sort.proofs.OnceLemmas.{IsOnce, nothing_in}

module _ (test : ℕ → Bool) where
  -- one item more
  pub places-push : (i : ℕ) (owners : List ℕ) (o : ℕ) → places_where i test (owners ++ o ∷ []) ≡ places_where i test owners ++ cond (test o) ((i + length owners) ∷ []) []
  places-push i [] o = ap (λ k. cond (test o) (k ∷ []) []) (let same : i ≡ i + 0 = omega arith in same)
  places-push i (p ∷ owners) o =
      step (test p)
      (places-push (i + 1) owners o
      ∙ ap (λ k. places_where (i + 1) test owners ++ cond (test o) (k ∷ []) []) (let same : i + 1 + length owners ≡ i + suc (length owners) = omega arith in same))
    where
      step : (b : Bool) → places_where (i + 1) test (owners ++ o ∷ []) ≡ places_where (i + 1) test owners ++ cond (test o) ((i + suc (length owners)) ∷ []) []
          → cond b (i ∷ places_where (i + 1) test (owners ++ o ∷ [])) (places_where (i + 1) test (owners ++ o ∷ [])) ≡ cond b (i ∷ places_where (i + 1) test owners) (places_where (i + 1) test owners) ++ cond (test o) ((i + suc (length owners)) ∷ []) []
      step true e = ap (λ (l : List ℕ). i ∷ l) e
      step false e = e

  -- what stands there
  pub record Stands (i : ℕ) (owners : List ℕ) (p : ℕ) : Type 0 where
    pub offset : ℕ
    pub is : p ≡ i + offset
    pub within : offset < length owners
    pub passes : test (get_or owners offset 0) ≡ true

  pub places-in : (i : ℕ) (owners : List ℕ) (p : ℕ) → Contains (places_where i test owners) p → Stands i owners p
  places-in i [] p c = absurd (nothing_in c)
  places-in i (o ∷ owners) p c = step (test o) refl c (λ d. later (places-in (i + 1) owners p d))
    where
      later : Stands (i + 1) owners p → Stands i (o ∷ owners) p
      later s = record { offset = suc s.offset; is = omega (arith, s.is); within = omega (arith, s.within); passes = s.passes }

      step : (b : Bool) → test o ≡ b → Contains (cond b (i ∷ places_where (i + 1) test owners) (places_where (i + 1) test owners)) p → (Contains (places_where (i + 1) test owners) p → Stands i (o ∷ owners) p) → Stands i (o ∷ owners) p
      step true e d more = elim (Contains-cons_cases (places_where (i + 1) test owners) i p d) [
        | inl h ↦ record { offset = 0; is = omega (arith, h); within = omega arith; passes = e }
        | inr r ↦ more r
      ]
      step false e d more = more d

  pub places-has : (i : ℕ) (owners : List ℕ) (k : ℕ) → k < length owners → test (get_or owners k 0) ≡ true → Contains (places_where i test owners) (i + k)
  places-has i [] k l e = absurd (omega (arith, l))
  places-has i (o ∷ owners) zero l e =
      subst (λ b. Contains (cond b (i ∷ places_where (i + 1) test owners) (places_where (i + 1) test owners)) (i + 0)) (sym e)
      (subst (λ p. Contains (i ∷ places_where (i + 1) test owners) p) (let same : i ≡ i + 0 = omega arith in same) (Contains-head (places_where (i + 1) test owners) i))
  places-has i (o ∷ owners) (suc k) l e =
      step (test o)
      (subst (λ p. Contains (places_where (i + 1) test owners) p) (let same : i + 1 + k ≡ i + suc k = omega arith in same) (places-has (i + 1) owners k (omega (arith, l)) e))
    where
      step : (b : Bool) → Contains (places_where (i + 1) test owners) (i + suc k) → Contains (cond b (i ∷ places_where (i + 1) test owners) (places_where (i + 1) test owners)) (i + suc k)
      step true c = Contains-tail (places_where (i + 1) test owners) i (i + suc k) c
      step false c = c

  pub places-once : (i : ℕ) (owners : List ℕ) → IsOnce (places_where i test owners)
  places-once i [] = tt
  places-once i (o ∷ owners) = step (test o) (places-once (i + 1) owners)
    where
      step : (b : Bool) → IsOnce (places_where (i + 1) test owners) → IsOnce (cond b (i ∷ places_where (i + 1) test owners) (places_where (i + 1) test owners))
      step true once = (λ c. let s = places-in (i + 1) owners i c in omega (arith, s.is), once)
      step false once = once
