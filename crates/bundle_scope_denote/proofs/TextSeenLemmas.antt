-- What is seen of a set and a map are their keys and values.
use Rattle.std.proofs.Common.{◌≡◌, ℕ, zero, suc, ◌<◌, ◌≤◌, ◌⊎◌, inl, inr, Bool, true, false, ◌||◌, nat_lt, lt-ltb, le-ltb, get_or, List, [], ◌∷◌, ◌++◌, length, slice_get, slice_set, position, Option, Some, None, is_some, refl, sym, ap, subst, ◌∙◌, true≢false, if◌then◌else◌, arith, Bor}
use Rattle.std.specs.List.{IsAmong, IsDistinct, list_any}
use Rattle.std.specs.Option.{IfSome, option_copied}
use Rattle.std.specs.Map.{keys_of, values_of, lookup}
use Rattle.std.proofs.lemmas.List.{length-append}
use Rattle.std.proofs.lemmas.Option.{slice_get_cases, slice_get_within, get_or_from_slice_get}
use Rattle.indexmap.specs.IndexMap.{insert_entry}
use Rattle.indexmap.specs.Layout.{set_value_at}
use Rattle.indexmap.proofs.MapLemmas.{Found-position, Missing-position, insert_entry-first, some_index}
use Rattle.bundle_scope_denote.specs.texts.Seen.{pairs, set_of}

pub keys-set_of : {K : Type 0} (ks : List K) → (set_of ks).keys ≡ ks
keys-set_of [] = refl
keys-set_of (k ∷ ks) = ap (λ l. k ∷ l) (keys-set_of ks)

-- keys of which no two are equal are seen as such
pub distinct-set_of : {K : Type 0} (eq : K → K → Bool) (ks ls : List K) → ls ≡ ks → IsDistinct eq ks → IsDistinct eq (set_of ls).keys
distinct-set_of eq ks ls e distinct = subst (IsDistinct eq) (sym (keys-set_of ls ∙ e)) distinct

-- what is copied of a place is what stands there
pub copied-at : {V : Type 0} (r : Option (Bor V)) (vs : List V) (i : ℕ) → is_some r ≡ nat_lt i (length vs) → IfSome r (λ x. x.now ≡ get_or vs i x.now)
    → option_copied r ≡ slice_get vs i
copied-at {V} r vs i found same = by r (slice_get_cases vs i).1 found same
  where
    by : (o : Option (Bor V)) → ((x : V) × (i < length vs) × (slice_get vs i ≡ Some x) × (get_or vs i x ≡ x)) ⊎ ((length vs ≤ i) × (slice_get vs i ≡ None))
        → is_some o ≡ nat_lt i (length vs) → IfSome o (λ x. x.now ≡ get_or vs i x.now) → option_copied o ≡ slice_get vs i
    by None (inl within) e s = absurd (true≢false (sym (lt-ltb i (length vs) within.1) ∙ sym e))
    by None (inr past) e s = sym past.1
    by (Some x) (inl within) e s = ap (λ y. Some y) (s ∙ get_or_from_slice_get vs i within.0 x.now within.2) ∙ sym within.2
    by (Some x) (inr past) e s = absurd (true≢false (e ∙ le-ltb i (length vs) past.0))

-- a value that stands at a place is among the values
pub among-values : {V : Type 0} (r : Option (Bor V)) (vs : List V) (i : ℕ) → option_copied r ≡ slice_get vs i → IfSome r (λ x. IsAmong vs x.now)
among-values None vs i e = tt
among-values (Some x) vs i e = (i, (slice_get_within vs i x.now (sym e), sym (get_or_from_slice_get vs i x.now x.now (sym e))))

module _ {K V : Type 0} where
  pub keys-pairs : (ks : List K) (vs : List V) → length vs ≡ length ks → keys_of (pairs ks vs) ≡ ks
  keys-pairs [] vs e = refl
  keys-pairs (k ∷ ks) [] e = absurd (omega (arith, e))
  keys-pairs (k ∷ ks) (v ∷ vs) e = ap (λ l. k ∷ l) (keys-pairs ks vs (omega (arith, e)))

  pub values-pairs : (ks : List K) (vs : List V) → length vs ≡ length ks → values_of (pairs ks vs) ≡ vs
  values-pairs [] [] e = refl
  values-pairs [] (v ∷ vs) e = absurd (omega (arith, e))
  values-pairs (k ∷ ks) [] e = absurd (omega (arith, e))
  values-pairs (k ∷ ks) (v ∷ vs) e = ap (λ l. v ∷ l) (values-pairs ks vs (omega (arith, e)))

  set-pairs : (ks : List K) (vs : List V) (i : ℕ) (v : V) → pairs ks (slice_set vs i v) ≡ set_value_at (pairs ks vs) i v
  set-pairs [] vs i v = refl
  set-pairs (k ∷ ks) [] i v = refl
  set-pairs (k ∷ ks) (w ∷ vs) zero v = refl
  set-pairs (k ∷ ks) (w ∷ vs) (suc i) v = ap (λ l. (k, w) ∷ l) (set-pairs ks vs i v)

  -- a value that is put at the place of its key is inserted
  pub inserted-again : (eq : K → K → Bool) (k : K) (v : V) (ks : List K) (vs : List V) (i : ℕ) → length vs ≡ length ks → position (eq k) ks ≡ Some i
      → pairs ks (slice_set vs i v) ≡ insert_entry eq (pairs ks vs) k v
  inserted-again eq k v ks vs i e at =
      let found = Found-position (eq k) (pairs ks vs) i (ap (position (eq k)) (keys-pairs ks vs e) ∙ at) in
      set-pairs ks vs i v ∙ sym (insert_entry-first eq k v (pairs ks vs) i found.first)

  -- and so is one that goes last with its key, where that was not there
  pub inserted-last : (eq : K → K → Bool) (k : K) (v : V) (ks : List K) (vs : List V) → length vs ≡ length ks → list_any (eq k) ks ≡ false
      → pairs (ks ++ k ∷ []) (vs ++ v ∷ []) ≡ insert_entry eq (pairs ks vs) k v
  inserted-last eq k v [] [] e none = refl
  inserted-last eq k v [] (w ∷ vs) e none = absurd (omega (arith, e))
  inserted-last eq k v (x ∷ ks) [] e none = absurd (omega (arith, e))
  inserted-last eq k v (x ∷ ks) (w ∷ vs) e none = by (eq k x) refl (inserted-last eq k v ks vs (omega (arith, e)))
    where
      by : (b : Bool) → eq k x ≡ b → (list_any (eq k) ks ≡ false → pairs (ks ++ k ∷ []) (vs ++ v ∷ []) ≡ insert_entry eq (pairs ks vs) k v)
          → (x, w) ∷ pairs (ks ++ k ∷ []) (vs ++ v ∷ []) ≡ insert_entry eq ((x, w) ∷ pairs ks vs) k v
      by true p rest = absurd (true≢false (sym (ap (λ b. b || list_any (eq k) ks) p) ∙ none))
      by false p rest =
          ap (λ l. (x, w) ∷ l) (rest (sym (ap (λ b. b || list_any (eq k) ks) p) ∙ none))
          ∙ sym (ap (λ b. if b then (x, v) ∷ pairs ks vs else (x, w) ∷ insert_entry eq (pairs ks vs) k v) p)

  -- what a look-up finds is the value at the place of the key
  pub lookup-place : (t : K → Bool) (ks : List K) (vs : List V) (i : ℕ) → length vs ≡ length ks → position t ks ≡ Some i → lookup t (pairs ks vs) ≡ slice_get vs i
  lookup-place t ks vs i e at =
      (Found-position t (pairs ks vs) i (ap (position t) (keys-pairs ks vs e) ∙ at)).value ∙ ap (λ l. slice_get l i) (values-pairs ks vs e)

  pub lookup-nowhere : (t : K → Bool) (ks : List K) (vs : List V) → length vs ≡ length ks → position t ks ≡ None → lookup t (pairs ks vs) ≡ None
  lookup-nowhere t ks vs e none = (Missing-position t (pairs ks vs) (ap (position t) (keys-pairs ks vs e) ∙ none)).value

  pub is_some-lookup : (t : K → Bool) (ks : List K) (vs : List V) → length vs ≡ length ks → is_some (lookup t (pairs ks vs)) ≡ is_some (position t ks)
  is_some-lookup t ks vs e = sym (some_index t (pairs ks vs)) ∙ ap (λ l. is_some (position t l)) (keys-pairs ks vs e)

  -- keys of which no two are equal are seen as such
  pub distinct-map_of : (eq : K → K → Bool) (ks : List K) (vs : List V) → length vs ≡ length ks → IsDistinct eq ks → IsDistinct eq (keys_of (pairs ks vs))
  distinct-map_of eq ks vs e distinct = subst (IsDistinct eq) (sym (keys-pairs ks vs e)) distinct

  pub length-both : (ks : List K) (vs : List V) (k : K) (v : V) → length vs ≡ length ks → length (vs ++ v ∷ []) ≡ length (ks ++ k ∷ [])
  length-both ks vs k v e = omega (arith, e, length-append vs (v ∷ []), length-append ks (k ∷ []))
