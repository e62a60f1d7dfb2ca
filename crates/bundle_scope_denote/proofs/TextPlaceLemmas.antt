-- The places of keys go on to be at hand where a key is put last.
use Rattle.std.proofs.Common.{◌≡◌, ℕ, ◌+◌, ◌<◌, Bool, true, false, cond, not, ◌||◌, nat_lt, List, [], ◌∷◌, ◌++◌, length, Some, None, is_some, position, refl, sym, ap, ◌∙◌, true≢false, arith, lt-ltb, le-ltb, get_or, slice_get, BTreeMap, Ordering, is_eq}
use Rattle.std.specs.Cmp.{IsEquivalence}
use Rattle.std.specs.List.{IsDistinct, list_any, position_or_len}
use Rattle.std.specs.BTreeMap.{get, is_at, IsEmpty}
use Rattle.std.specs.Map.{lookup}
use Rattle.std.proofs.lemmas.List.{length-append}
use Rattle.std.proofs.lemmas.List.Folds.{list_any-append}
use Rattle.std.proofs.lemmas.List.Quantifiers.{position-Some}
use Rattle.std.proofs.lemmas.Option.{same_Some, slice_get-get_or}
use Rattle.std.proofs.lemmas.Map.Keys.{IsDistinct-push}
use Rattle.bundle_scope_denote.specs.texts.Placed.{ArePlaced}

both_false : (a b : Bool) → (a || b) ≡ false → (a ≡ false) × (b ≡ false)
both_false true b e = absurd (true≢false e)
both_false false b e = (refl, e)

module _ {K : Type 0} (t : K → Bool) where
  -- where no key passes a search comes to the end
  pub or_len-none : (ks : List K) → list_any t ks ≡ false → position_or_len t ks ≡ length ks
  or_len-none [] none = refl
  or_len-none (k ∷ ks) none =
      let parts = both_false (t k) (list_any t ks) none in
      ap (λ b. cond (not b) (1 + position_or_len t ks) 0) parts.0 ∙ ap (λ n. 1 + n) (or_len-none ks parts.1) ∙ omega arith

  or_len-some : (ks : List K) → list_any t ks ≡ true → position_or_len t ks < length ks
  or_len-some [] any = absurd (true≢false (sym any))
  or_len-some (k ∷ ks) any = by (t k) refl (or_len-some ks)
    where
      by : (b : Bool) → t k ≡ b → (list_any t ks ≡ true → position_or_len t ks < length ks) → position_or_len t (k ∷ ks) < length (k ∷ ks)
      by true p rest = let e : position_or_len t (k ∷ ks) ≡ 0 = ap (λ b. cond (not b) (1 + position_or_len t ks) 0) p in omega (arith, e)
      by false p rest =
          let e : position_or_len t (k ∷ ks) ≡ 1 + position_or_len t ks = ap (λ b. cond (not b) (1 + position_or_len t ks) 0) p in
          omega (arith, e, rest (sym (ap (λ b. b || list_any t ks) p) ∙ any))

  or_len-before : (ks xs : List K) → list_any t ks ≡ true → position_or_len t (ks ++ xs) ≡ position_or_len t ks
  or_len-before [] xs any = absurd (true≢false (sym any))
  or_len-before (k ∷ ks) xs any = by (t k) refl (or_len-before ks xs)
    where
      by : (b : Bool) → t k ≡ b → (list_any t ks ≡ true → position_or_len t (ks ++ xs) ≡ position_or_len t ks)
          → position_or_len t ((k ∷ ks) ++ xs) ≡ position_or_len t (k ∷ ks)
      by true p rest = ap (λ b. cond (not b) (1 + position_or_len t (ks ++ xs)) 0) p ∙ sym (ap (λ b. cond (not b) (1 + position_or_len t ks) 0) p)
      by false p rest =
          ap (λ b. cond (not b) (1 + position_or_len t (ks ++ xs)) 0) p ∙ ap (λ n. 1 + n) (rest (sym (ap (λ b. b || list_any t ks) p) ∙ any))
          ∙ sym (ap (λ b. cond (not b) (1 + position_or_len t ks) 0) p)

  or_len-last : (ks : List K) (k : K) → list_any t ks ≡ false → t k ≡ true → position_or_len t (ks ++ k ∷ []) ≡ length ks
  or_len-last [] k none here = ap (λ b. cond (not b) 1 0) here
  or_len-last (x ∷ ks) k none here =
      let parts = both_false (t x) (list_any t ks) none in
      ap (λ b. cond (not b) (1 + position_or_len t (ks ++ k ∷ [])) 0) parts.0 ∙ ap (λ n. 1 + n) (or_len-last ks k parts.1 here) ∙ omega arith

  at_place : (ks : List K) (n : ℕ) → position_or_len t ks ≡ n → n < length ks → position t ks ≡ Some n
  at_place ks n e within = ap (λ m. cond (nat_lt m (length ks)) (Some m) None) e ∙ ap (λ b. cond b (Some n) None) (lt-ltb n (length ks) within)

  -- a search finds none exactly where no key passes
  pub position-none : (ks : List K) → list_any t ks ≡ false → position t ks ≡ None
  position-none ks none =
      ap (λ m. cond (nat_lt m (length ks)) (Some m) None) (or_len-none ks none) ∙ ap (λ b. cond b (Some (length ks)) None) (le-ltb (length ks) (length ks) (omega arith))

  pub is_some-position : (ks : List K) → is_some (position t ks) ≡ list_any t ks
  is_some-position ks = by (list_any t ks) refl
    where
      by : (b : Bool) → list_any t ks ≡ b → is_some (position t ks) ≡ list_any t ks
      by true p = ap is_some (at_place ks (position_or_len t ks) refl (or_len-some ks p)) ∙ sym p
      by false p = ap is_some (position-none ks p) ∙ sym p

  -- and where one is found, the search comes to it
  pub or_len-there : (ks : List K) (n : ℕ) → position t ks ≡ Some n → n ≡ position_or_len t ks
  or_len-there ks n at = same_Some n (position_or_len t ks) (sym at ∙ at_place ks (position_or_len t ks) refl (or_len-some ks (sym (is_some-position ks) ∙ ap is_some at)))

  -- a key that is put last and passes where none did is the one that is found
  pub position-last : (ks : List K) (k : K) → list_any t ks ≡ false → t k ≡ true → position t (ks ++ k ∷ []) ≡ Some (length ks)
  position-last ks k none here = at_place (ks ++ k ∷ []) (length ks) (or_len-last ks k none here) (omega (arith, length-append ks (k ∷ [])))

  -- and one that does not pass changes nothing
  pub position-others : (ks : List K) (k : K) → t k ≡ false → position t (ks ++ k ∷ []) ≡ position t ks
  position-others ks k apart = by (list_any t ks) refl
    where
      by : (b : Bool) → list_any t ks ≡ b → position t (ks ++ k ∷ []) ≡ position t ks
      by true p =
          let within = or_len-some ks p in
          at_place (ks ++ k ∷ []) (position_or_len t ks) (or_len-before ks (k ∷ []) p) (omega (arith, within, length-append ks (k ∷ [])))
          ∙ sym (at_place ks (position_or_len t ks) refl within)
      by false p =
          let none : list_any t (ks ++ k ∷ []) ≡ false = list_any-append t ks (k ∷ []) ∙ ap (λ b. b || (t k || false)) p ∙ ap (λ b. b || false) apart in
          position-none (ks ++ k ∷ []) none ∙ sym (position-none ks p)

-- a key that passes stands where a search finds one
pub stored-at : {K : Type 0} (t : K → Bool) (ks : List K) (i : ℕ) (d : K) → position t ks ≡ Some i → (x : K) × (slice_get ks i ≡ Some x) × (t x ≡ true)
stored-at t ks i d at =
    let found = position-Some t ks i d at in
    (get_or ks i d, slice_get-get_or ks i d found.0, found.1)

pub stored-last : {K : Type 0} (ks : List K) (k : K) → slice_get (ks ++ k ∷ []) (length ks) ≡ Some k
stored-last [] k = refl
stored-last (x ∷ ks) k = stored-last ks k

module _ {K : Type 0} (cmp : K → K → Ordering) (eq : K → K → Bool) where
  pub placed-nothing : (places : BTreeMap K ℕ) → IsEmpty places → ArePlaced cmp eq [] places
  unfolding IsDistinct
  placed-nothing places empty = record { distinct = tt; found = λ key. ap (lookup (is_at (cmp key))) empty }

  module _ (laws : IsEquivalence eq) (matches : (x y : K) → eq x y ≡ is_eq (cmp x y)) where
    pub placed-more : (keys : List K) (key : K) (places next : BTreeMap K ℕ) → ArePlaced cmp eq keys places → list_any (eq key) keys ≡ false
        → ((q : K) → get cmp next q ≡ cond (is_at (cmp key) q) (Some (length keys)) (get cmp places q)) → ArePlaced cmp eq (keys ++ key ∷ []) next
    placed-more keys key places next placed none put =
        record { distinct = IsDistinct-push laws keys key placed.distinct none; found = λ q. by q (eq key q) refl }
      where
        by : (q : K) (b : Bool) → eq key q ≡ b → get cmp next q ≡ position (eq q) (keys ++ key ∷ [])
        by q true same =
            let none_of_it : list_any (eq q) keys ≡ false = ap (λ (t : K → Bool). list_any t keys) (λ j z. sym (laws.congr key q z same) j) ∙ none in
            put q ∙ ap (λ b. cond b (Some (length keys)) (get cmp places q)) (sym (matches key q) ∙ same)
            ∙ sym (position-last (eq q) keys key none_of_it (laws.symm q key ∙ same))
        by q false apart =
            put q ∙ ap (λ b. cond b (Some (length keys)) (get cmp places q)) (sym (matches key q) ∙ apart)
            ∙ placed.found q ∙ sym (position-others (eq q) keys key (laws.symm q key ∙ apart))
