-- The place to which a search for a key comes, and keys that are put last.
-- Keys that are found by their hash, or else by their order, are so found when one more is put last.
-- A search for a text with a mark, by the places of texts.
-- What is kept by numbers, found by names and requests.
-- What look-ups give among plain data, and at which place a name stands first.
use mathlib.Core.Bool.{beq}
use Rattle.std.proofs.Common.{◌≡◌, ℕ, zero, suc, ◌+◌, ◌<◌, ◌⊎◌, inl, inr, Bool, true, false, cond, not, nat_lt, List, [], ◌∷◌, ◌++◌, map, length, Option, Some, None, IfSome, position, slice_get, get_or, eqb, refl, sym, ap, subst, ◌∙◌, true≢false, arith, lt-ltb, le-ltb, BTreeMap, Ordering, is_eq, ◌==◌, nat_cmp, is_some, string_bytes, string_cmp, ◌&&◌, ◌||◌, OnSome, Result, Ok, Err, OnErr, bytes_eq, Global, String, ap₂, ◌≤◌, IsSome, Contains, IsOk, OnOk}
use Rattle.std.specs.Cmp.{IsEquivalence, unsigned_ties, on_equiv, and_equiv}
use Rattle.std.specs.List.{position_or_len, list_any}
use Rattle.std.specs.Map.{lookup}
use Rattle.std.specs.Option.{option_map}
use Rattle.std.specs.BTreeMap.{get, is_at}
use Rattle.std.proofs.lemmas.Bool.{eqb-true, eq-eqb, false_from_ne_true, ltb-true, ltb-false, and_right, and_left, and_parts}
use Rattle.std.proofs.lemmas.List.Quantifiers.{position-Some}
use Rattle.std.proofs.lemmas.Option.{cond_some, none-some, same_Some, slice_get_cases, slice_get-get_or, slice_get_past, slice_get_read, slice_get_within, slice_get-map, get_or_from_slice_get}
use Rattle.std.proofs.lemmas.Map.Text.{is_eq-slice_cmp}
use Rattle.std.proofs.lemmas.Slice.Eq.{bytes_eq-Decides}
use Rattle.std.specs.Cmp.Lexicographic.{nat_list_eq_equiv}
use Rattle.std.proofs.lemmas.List.{map_push, length-map}
use Rattle.std.proofs.lemmas.List.Elements.{Contains-get_or}
use Rattle.std.proofs.lemmas.List.Sums.{position_or_len_is}
use Rattle.std.proofs.lemmas.Map.Views.{list_any-from_Contains, Contains-from_any}
use Rattle.bundle_tree_names.specs.FileName.{Name, custom, name_eq, name_of}
use Rattle.bundle_tree_names.specs.FileNameLaws.{name_eq-Decides, name_eq_equiv}
use Rattle.bundle_tree_names.specs.declared.file_name.FileName.{FileName}
use Rattle.bundle_tree_names.proofs.Names.{Contains-slice_get, place-Contains}
use Rattle.bundle_rules.specs.Nodes.{Text}
use Rattle.bundle_rules.specs.Kept.{Asked, asked_eq}
use Rattle.bundler_call.specs.Placed.{HavePlaces, StandOnce}
use Rattle.bundler_call.specs.Hashed.{first_at, hash_of, is_there, or_else, same_text, AreHashed}
use Rattle.bundler_call.specs.Marks.{is_same_mark, marked_in, text_marked, AreMarksWithin}
use Rattle.bundler_call.specs.Held.{asked_at, asked_by, name_at, file_named, resolved_by, trees_by, AreBelow}

-- ---- searching

-- what stands in a list with one more at its end: what stood in it, or that
pub push_cases : {X : Type 0} (xs : List X) (x : X) (i : ℕ) (y : X) → slice_get (xs ++ x ∷ []) i ≡ Some y → (slice_get xs i ≡ Some y) ⊎ ((i ≡ length xs) × (x ≡ y))
push_cases [] x zero y at = inr (refl, same_Some x y at)
push_cases [] x (suc i) y at = absurd (none-some y at)
push_cases (z ∷ xs) x zero y at = inl at
push_cases (z ∷ xs) x (suc i) y at = elim (push_cases xs x i y at) [ inl old ↦ inl old | inr is ↦ inr (ap suc is.0, is.1) ]

-- what stood in a list stands there when it is longer
pub stood_before : {X : Type 0} (xs more : List X) (i : ℕ) (y : X) → slice_get xs i ≡ Some y → slice_get (xs ++ more) i ≡ Some y
stood_before [] more i y at = absurd (none-some y at)
stood_before (x ∷ xs) more zero y at = at
stood_before (x ∷ xs) more (suc i) y at = stood_before xs more i y at

pub stands_last : {X : Type 0} (xs : List X) (x : X) → slice_get (xs ++ x ∷ []) (length xs) ≡ Some x
stands_last [] x = refl
stands_last (z ∷ xs) x = stands_last xs x

-- lists are read alike where what stands in them is
pub map_alike : {A B : Type 0} (f g : A → B) (xs : List A) → ((i : ℕ) (a : A) → slice_get xs i ≡ Some a → f a ≡ g a) → map f xs ≡ map g xs
map_alike f g [] same = refl
map_alike f g (x ∷ xs) same = ap (λ b. b ∷ map f xs) (same 0 x refl) ∙ ap (λ l. g x ∷ l) (map_alike f g xs (λ i a at. same (suc i) a at))

suc_none : (o : Option ℕ) → option_map suc o ≡ None → o ≡ None
suc_none None h = refl
suc_none (Some x) h = absurd (none-some (suc x) (sym h))

module _ {K : Type 0} (t : K → Bool) where
  -- a search that does not end at a key goes on behind it
  position-cons : (x : K) (ks : List K) → position t (x ∷ ks) ≡ cond (t x) (Some 0) (option_map suc (position t ks))
  position-cons x ks = by (t x) refl
    where
      at : Bool → Option ℕ
      at b = cond (nat_lt (cond b 0 (1 + position_or_len t ks)) (length (x ∷ ks))) (Some (cond b 0 (1 + position_or_len t ks))) None

      here : position t (x ∷ ks) ≡ at (t x)
      here = turned (t x)
        where
          turned : (b : Bool) → cond (nat_lt (cond (not b) (1 + position_or_len t ks) 0) (length (x ∷ ks))) (Some (cond (not b) (1 + position_or_len t ks) 0)) None ≡ at b
          turned true = refl
          turned false = refl

      by : (b : Bool) → t x ≡ b → position t (x ∷ ks) ≡ cond (t x) (Some 0) (option_map suc (position t ks))
      by true p =
          here ∙ ap at p ∙ ap (λ b. cond b (Some 0) None) (lt-ltb 0 (length (x ∷ ks)) (omega arith)) ∙ sym (ap (λ b. cond b (Some 0) (option_map suc (position t ks))) p)
      by false p =
          here ∙ ap at p
          ∙ elim (slice_get_cases ks (position_or_len t ks)).1 [
            | inl there ↦
                ap (λ b. cond b (Some (1 + position_or_len t ks)) None) (lt-ltb (1 + position_or_len t ks) (length (x ∷ ks)) (omega (arith, there.1)))
                ∙ ap (λ n. Some n) (one_more (position_or_len t ks))
                ∙ sym (ap (λ b. option_map suc (cond b (Some (position_or_len t ks)) None)) (lt-ltb (position_or_len t ks) (length ks) there.1))
            | inr past ↦
                ap (λ b. cond b (Some (1 + position_or_len t ks)) None) (le-ltb (1 + position_or_len t ks) (length (x ∷ ks)) (omega (arith, past.0)))
                ∙ sym (ap (λ b. option_map suc (cond b (Some (position_or_len t ks)) None)) (le-ltb (position_or_len t ks) (length ks) past.0))
          ]
          ∙ sym (ap (λ b. cond b (Some 0) (option_map suc (position t ks))) p)
        where
          one_more : (n : ℕ) → 1 + n ≡ suc n
          one_more n = omega arith

  -- a search ends at a key where one passes
  any-position : (ks : List K) → list_any t ks ≡ is_some (position t ks)
  any-position [] = refl
  any-position (x ∷ ks) = ap (λ b. t x || b) (any-position ks) ∙ by (t x) (position t ks) ∙ sym (ap is_some (position-cons x ks))
    where
      by : (b : Bool) (o : Option ℕ) → (b || is_some o) ≡ is_some (cond b (Some 0) (option_map suc o))
      by true o = refl
      by false None = refl
      by false (Some i) = refl

  -- no key passes where a search finds none
  pub nowhere_at : (ks : List K) (i : ℕ) (k : K) → position t ks ≡ None → slice_get ks i ≡ Some k → t k ≡ false
  nowhere_at [] i k none at = absurd (none-some k at)
  nowhere_at (x ∷ ks) i k none at = by (t x) refl i at (λ i none at. nowhere_at ks i k none at)
    where
      by : (b : Bool) → t x ≡ b → (i : ℕ) → slice_get (x ∷ ks) i ≡ Some k → ((i : ℕ) → position t ks ≡ None → slice_get ks i ≡ Some k → t k ≡ false) → t k ≡ false
      by true p i at rest = absurd (none-some 0 (sym none ∙ position-cons x ks ∙ ap (λ b. cond b (Some 0) (option_map suc (position t ks))) p))
      by false p zero at rest = ap t (sym (same_Some x k at)) ∙ p
      by false p (suc i) at rest =
          rest i (suc_none _ (sym (ap (λ b. cond b (Some 0) (option_map suc (position t ks))) p) ∙ sym (position-cons x ks) ∙ none)) at

  -- a key that is put last and passes where none did is the one that is found
  pub position-last : (ks : List K) (k : K) → position t ks ≡ None → t k ≡ true → position t (ks ++ k ∷ []) ≡ Some (length ks)
  position-last [] k none here = position-cons k [] ∙ ap (λ b. cond b (Some 0) (option_map suc (position t []))) here
  position-last (x ∷ ks) k none here = by (t x) refl (λ none. position-last ks k none here)
    where
      by : (b : Bool) → t x ≡ b → (position t ks ≡ None → position t (ks ++ k ∷ []) ≡ Some (length ks)) → position t ((x ∷ ks) ++ k ∷ []) ≡ Some (length (x ∷ ks))
      by true p rest = absurd (none-some 0 (sym none ∙ position-cons x ks ∙ ap (λ b. cond b (Some 0) (option_map suc (position t ks))) p))
      by false p rest =
          position-cons x (ks ++ k ∷ []) ∙ ap (λ b. cond b (Some 0) (option_map suc (position t (ks ++ k ∷ [])))) p
          ∙ ap (option_map suc) (rest (suc_none _ (sym (ap (λ b. cond b (Some 0) (option_map suc (position t ks))) p) ∙ sym (position-cons x ks) ∙ none)))

  -- and one that does not pass changes nothing
  pub position-others : (ks : List K) (k : K) → t k ≡ false → position t (ks ++ k ∷ []) ≡ position t ks
  position-others [] k apart = position-cons k [] ∙ ap (λ b. cond b (Some 0) (option_map suc (position t []))) apart
  position-others (x ∷ ks) k apart =
      position-cons x (ks ++ k ∷ []) ∙ ap (λ o. cond (t x) (Some 0) (option_map suc o)) (position-others ks k apart) ∙ sym (position-cons x ks)

  -- what a search finds passes, and stands there
  pub found_at : (ks : List K) (i : ℕ) (d : K) → position t ks ≡ Some i → (k : K) × (slice_get ks i ≡ Some k) × (t k ≡ true)
  found_at ks i d at =
      let found = position-Some t ks i d at in
      (get_or ks i d, slice_get-get_or ks i d found.0, found.1)

-- what a search finds is the place of a key
pub within_of : {K : Type 0} (t : K → Bool) (ks : List K) (o : Option ℕ) → o ≡ position t ks → IfSome o (λ i. i < length ks)
within_of t ks None is = tt
within_of t ks (Some i) is =
    let its = cond_some (nat_lt (position_or_len t ks) (length ks)) (position_or_len t ks) i (sym is) in
    subst (λ n. n < length ks) its.1 (ltb-true (position_or_len t ks) (length ks) its.0)

-- a search among what keys say is one among the keys
pub position-said : {A B : Type 0} (f : A → B) (s : B → Bool) (t : A → Bool) (xs : List A) → ((i : ℕ) (a : A) → slice_get xs i ≡ Some a → s (f a) ≡ t a) → position s (map f xs) ≡ position t xs
position-said f s t [] same = refl
position-said f s t (x ∷ xs) same =
    position-cons s (f x) (map f xs) ∙ ap (λ b. cond b (Some 0) (option_map suc (position s (map f xs)))) (same 0 x refl)
    ∙ ap (λ o. cond (t x) (Some 0) (option_map suc o)) (position-said f s t xs (λ i a at. same (suc i) a at)) ∙ sym (position-cons t x xs)

-- a search that nothing passes finds nothing
pub position-never : {A : Type 0} (t : A → Bool) (xs : List A) → ((i : ℕ) (a : A) → slice_get xs i ≡ Some a → t a ≡ false) → position t xs ≡ None
position-never t [] none = refl
position-never t (x ∷ xs) none =
    position-cons t x xs ∙ ap (λ b. cond b (Some 0) (option_map suc (position t xs))) (none 0 x refl)
    ∙ ap (option_map suc) (position-never t xs (λ i a at. none (suc i) a at))

-- what a look-up by what keys say finds is what one by the keys finds
pub lookup-by : {A B X Y : Type 0} (f : A → B) (v : X → Y) (s : B → Bool) (t : A → Bool) (es : List (A × X)) → ((i : ℕ) (e : A × X) → slice_get es i ≡ Some e → s (f e.0) ≡ t e.0)
    → lookup s (map (λ (e : A × X). (f e.0, v e.1)) es) ≡ option_map v (lookup t es)
lookup-by f v s t [] same = refl
lookup-by {A} {B} {X} {Y} f v s t (e ∷ es) same =
    ap (λ b. cond b (Some (v e.1)) (lookup s (map (λ (e : A × X). (f e.0, v e.1)) es))) (same 0 e refl)
    ∙ ap (cond (t e.0) (Some (v e.1))) (lookup-by f v s t es (λ i a at. same (suc i) a at)) ∙ either (t e.0) (lookup t es)
  where
    either : (b : Bool) (o : Option X) → cond b (Some (v e.1)) (option_map v o) ≡ option_map v (cond b (Some e.1) o)
    either true o = refl
    either false o = refl

-- a look-up that nothing passes finds nothing
pub lookup-never : {A X : Type 0} (t : A → Bool) (es : List (A × X)) → ((i : ℕ) (e : A × X) → slice_get es i ≡ Some e → t e.0 ≡ false) → lookup t es ≡ None
lookup-never t [] none = refl
lookup-never t (e ∷ es) none = ap (λ b. cond b (Some e.1) (lookup t es)) (none 0 e refl) ∙ lookup-never t es (λ i a at. none (suc i) a at)

module _ {K : Type 0} (eq : K → K → Bool) (laws : IsEquivalence eq) where
  -- a search for an equal key finds the same
  pub same_search : (a b : K) → eq a b ≡ true → (ks : List K) → position (eq a) ks ≡ position (eq b) ks
  same_search a b same ks = ap (λ (t : K → Bool). position t ks) (λ j z. laws.congr a b z same j)

  -- a key equals the one at a place exactly if it is found there
  pub places_tell : (ks : List K) → StandOnce eq ks → (n k : K) (i j : ℕ) → position (eq n) ks ≡ Some i → slice_get ks j ≡ Some k → eq n k ≡ eqb i j
  places_tell ks once n k i j found at = by (eq n k) refl
    where
      by : (b : Bool) → eq n k ≡ b → eq n k ≡ eqb i j
      by true p = p ∙ sym (eq-eqb i j (same_Some i j (sym found ∙ same_search n k p ks ∙ once j k at)))
      by false p =
          p
          ∙ sym (
          false_from_ne_true (eqb i j) (λ same.
          let its = found_at (eq n) ks i k found in
          let is : its.0 ≡ k = same_Some its.0 k (sym its.1 ∙ ap (slice_get ks) (eqb-true i j same) ∙ at) in
          true≢false (sym its.2 ∙ ap (eq n) is ∙ p))
          )

  -- keys stand once when a new one is put last
  pub once-push : (ks : List K) (k : K) → StandOnce eq ks → position (eq k) ks ≡ None → StandOnce eq (ks ++ k ∷ [])
  once-push ks k once none = λ i x at. elim (push_cases ks k i x at) [
    | inl old ↦ position-others (eq x) ks k (laws.symm x k ∙ nowhere_at (eq k) ks i x none old) ∙ once i x old
    | inr is ↦ subst (λ y. position (eq y) (ks ++ k ∷ []) ≡ Some i) is.1 (position-last (eq k) ks k none (laws.refl k) ∙ ap Some (sym is.0))
  ]

module _ {K : Type 0} (cmp : K → K → Ordering) (eq : K → K → Bool) where
  module _ (laws : IsEquivalence eq) (matches : (x y : K) → eq x y ≡ is_eq (cmp x y)) where
    -- a key that is not there is put last
    pub placed-more : (keys : List K) (key : K) (places next : BTreeMap K ℕ) → HavePlaces cmp eq keys places → position (eq key) keys ≡ None
        → ((q : K) → get cmp next q ≡ cond (is_at (cmp key) q) (Some (length keys)) (get cmp places q)) → HavePlaces cmp eq (keys ++ key ∷ []) next
    placed-more keys key places next placed none put = record { once = once-push eq laws keys key placed.once none; found = λ q. by q (eq key q) refl }
      where
        by : (q : K) (b : Bool) → eq key q ≡ b → get cmp next q ≡ position (eq q) (keys ++ key ∷ [])
        by q true is =
            put q ∙ ap (λ b. cond b (Some (length keys)) (get cmp places q)) (sym (matches key q) ∙ is)
            ∙ sym (position-last (eq q) keys key (sym (same_search eq laws key q is keys) ∙ none) (laws.symm q key ∙ is))
        by q false is =
            put q ∙ ap (λ b. cond b (Some (length keys)) (get cmp places q)) (sym (matches key q) ∙ is)
            ∙ placed.found q ∙ sym (position-others (eq q) keys key (laws.symm q key ∙ is))

-- ---- hashing

-- texts that are the same have one hash
pub same_hash : (a b : _) → same_text a b ≡ true → hash_of (string_bytes a) ≡ hash_of (string_bytes b)
same_hash a b same = ap hash_of ((bytes_eq-Decides (string_bytes a) (string_bytes b)).0 same)

-- texts are the same where their order says so
pub text_matches : (a b : _) → same_text a b ≡ is_eq (string_cmp a b)
text_matches a b = sym (is_eq-slice_cmp (string_bytes a) (string_bytes b))

pub none_is : {X : Type 0} (o : Option X) → is_some o ≡ false → o ≡ None
none_is None is = refl
none_is (Some x) is = absurd (true≢false is)

-- what a slice gives stands there
pub gives : {X : Type 0} (xs : List X) (i : ℕ) (x : X) → true ≡ nat_lt i (length xs) → x ≡ get_or xs i x → slice_get xs i ≡ Some x
gives xs i x within is = slice_get_read xs (length xs) i x refl (ltb-true i (length xs) (sym within)) is

pub gives_none : {X : Type 0} (xs : List X) (i : ℕ) → false ≡ nat_lt i (length xs) → slice_get xs i ≡ None
gives_none xs i past = slice_get_past xs i (ltb-false i (length xs) (sym past))

module _ {K : Type 0} (eq : K → K → Bool) where
  -- where one more stands last, a key that is another one stands where it stood
  there_stays : (keys : List K) (own q : K) (place : ℕ) → eq q own ≡ false → is_there eq q (slice_get (keys ++ own ∷ []) place) ≡ is_there eq q (slice_get keys place)
  there_stays keys own q place apart = by (slice_get keys place) refl (slice_get (keys ++ own ∷ []) place) refl
    where
      by : (o : Option K) → slice_get keys place ≡ o → (p : Option K) → slice_get (keys ++ own ∷ []) place ≡ p → is_there eq q (slice_get (keys ++ own ∷ []) place) ≡ is_there eq q (slice_get keys place)
      by (Some x) at p more = ap (is_there eq q) (stood_before keys (own ∷ []) place x at ∙ sym at)
      by None at None more = ap (is_there eq q) (more ∙ sym at)
      by None at (Some y) more = elim (push_cases keys own place y more) [
        | inl old ↦ absurd (none-some y (sym at ∙ old))
        | inr last ↦ ap (is_there eq q) more ∙ ap (eq q) (sym last.1) ∙ apart ∙ sym (ap (is_there eq q) at)
      ]

  pub first_stays : (keys : List K) (own q : K) (o : Option ℕ) → eq q own ≡ false → first_at eq q (keys ++ own ∷ []) o ≡ first_at eq q keys o
  first_stays keys own q None apart = refl
  first_stays keys own q (Some place) apart = ap (λ b. cond b (Some place) None) (there_stays keys own q place apart)

  -- a key that no earlier one is, and the last is, stands nowhere else
  pub first_last : (keys : List K) (own q : K) (o rest : Option ℕ) → position (eq q) keys ≡ None → rest ≡ Some (length keys) → or_else (first_at eq q (keys ++ own ∷ []) o) rest ≡ Some (length keys)
  first_last keys own q None rest none is = is
  first_last keys own q (Some place) rest none is = by (slice_get (keys ++ own ∷ []) place) refl
    where
      either : (b : Bool) → place ≡ length keys → or_else (cond b (Some place) None) rest ≡ Some (length keys)
      either true same = ap (λ n. Some n) same
      either false same = is

      by : (p : Option K) → slice_get (keys ++ own ∷ []) place ≡ p → or_else (cond (is_there eq q (slice_get (keys ++ own ∷ []) place)) (Some place) None) rest ≡ Some (length keys)
      by None at = ap (λ x. or_else (cond (is_there eq q x) (Some place) None) rest) at ∙ is
      by (Some y) at = elim (push_cases keys own place y at) [
        | inl old ↦ ap (λ x. or_else (cond (is_there eq q x) (Some place) None) rest) at ∙ ap (λ b. or_else (cond b (Some place) None) rest) (nowhere_at (eq q) keys place y none old) ∙ is
        | inr last ↦ either (is_there eq q (slice_get (keys ++ own ∷ []) place)) last.0
      ]

  -- the first of a hash is a key, or another one, or stands nowhere
  pub first_is : (key : K) (keys : List K) (o : Option ℕ) (place : ℕ) (own : K) (b : Bool) → o ≡ Some place → slice_get keys place ≡ Some own → eq key own ≡ b → first_at eq key keys o ≡ cond b (Some place) None
  first_is key keys o place own b at there is =
      ap (first_at eq key keys) at ∙ ap (λ x. cond (is_there eq key x) (Some place) None) there ∙ ap (λ b. cond b (Some place) None) is

  pub first_none : (key : K) (keys : List K) (o : Option ℕ) (place : ℕ) → o ≡ Some place → slice_get keys place ≡ None → first_at eq key keys o ≡ None
  first_none key keys o place at there = ap (first_at eq key keys) at ∙ ap (λ x. cond (is_there eq key x) (Some place) None) there

  -- the last one is the first of its hash
  pub first_new : (keys : List K) (own q : K) → eq q own ≡ true → first_at eq q (keys ++ own ∷ []) (Some (length keys)) ≡ Some (length keys)
  first_new keys own q same = ap (λ x. cond (is_there eq q x) (Some (length keys)) None) (stands_last keys own) ∙ ap (λ b. cond b (Some (length keys)) None) same

  pub first_other : (keys : List K) (own q : K) → eq q own ≡ false → first_at eq q (keys ++ own ∷ []) (Some (length keys)) ≡ None
  first_other keys own q apart = ap (λ x. cond (is_there eq q x) (Some (length keys)) None) (stands_last keys own) ∙ ap (λ b. cond b (Some (length keys)) None) apart

module _ {K : Type 0} (cmp : K → K → Ordering) (eq : K → K → Bool) (hash : K → ℕ) where
  module _ (laws : IsEquivalence eq) (matches : (x y : K) → eq x y ≡ is_eq (cmp x y)) (alike : (x y : K) → eq x y ≡ true → hash x ≡ hash y)
      (keys : List K) (key own : K) (firsts : BTreeMap ℕ ℕ) (others : BTreeMap K ℕ) (hashed : AreHashed cmp eq hash keys firsts others)
      (same : eq key own ≡ true) (none : position (eq key) keys ≡ None) where
    -- it is another one
    other_key : (q : K) → eq key q ≡ false → eq q own ≡ false
    other_key q apart = laws.symm q own ∙ sym (laws.congr key own q same) ∙ apart

    equal_key : (q : K) → eq key q ≡ true → eq q own ≡ true
    equal_key q is = laws.symm q own ∙ sym (laws.congr key own q same) ∙ is

    none_own : position (eq own) keys ≡ None
    none_own = sym (same_search eq laws key own same keys) ∙ none

    none_of : (q : K) → eq key q ≡ true → position (eq q) keys ≡ None
    none_of q is = sym (same_search eq laws key q is keys) ∙ none

    -- its hash is new
    pub hashed-first : (next : BTreeMap ℕ ℕ) → get nat_cmp firsts (hash key) ≡ None
        → ((h : ℕ) → get nat_cmp next h ≡ cond (is_at (nat_cmp (hash key)) h) (Some (length keys)) (get nat_cmp firsts h)) → AreHashed cmp eq hash (keys ++ own ∷ []) next others
    hashed-first next new put = record { once = once-push eq laws keys own hashed.once none_own; found = λ q. by q (eq key q) refl }
      where
        at_hash : (h : ℕ) (b : Bool) → (hash key == h) ≡ b → get nat_cmp next h ≡ cond b (Some (length keys)) (get nat_cmp firsts h)
        at_hash h b is = put h ∙ ap (λ b. cond b (Some (length keys)) (get nat_cmp firsts h)) (sym (unsigned_ties (hash key) h) ∙ is)

        others_only : (q : K) → eq key q ≡ false → (b : Bool) → (hash key == hash q) ≡ b → first_at eq q (keys ++ own ∷ []) (get nat_cmp next (hash q)) ≡ first_at eq q keys (get nat_cmp firsts (hash q))
        others_only q apart true is =
            ap (first_at eq q (keys ++ own ∷ [])) (at_hash (hash q) true is) ∙ first_other eq keys own q (other_key q apart)
            ∙ sym (ap (first_at eq q keys) (ap (get nat_cmp firsts) (sym (eqb-true (hash key) (hash q) is)) ∙ new))
        others_only q apart false is =
            ap (first_at eq q (keys ++ own ∷ [])) (at_hash (hash q) false is) ∙ first_stays eq keys own q (get nat_cmp firsts (hash q)) (other_key q apart)

        by : (q : K) (b : Bool) → eq key q ≡ b → or_else (first_at eq q (keys ++ own ∷ []) (get nat_cmp next (hash q))) (get cmp others q) ≡ position (eq q) (keys ++ own ∷ [])
        by q true is =
            ap (λ o. or_else (first_at eq q (keys ++ own ∷ []) o) (get cmp others q)) (at_hash (hash q) true (eq-eqb (hash key) (hash q) (alike key q is)))
            ∙ ap (λ o. or_else o (get cmp others q)) (first_new eq keys own q (equal_key q is))
            ∙ sym (position-last (eq q) keys own (none_of q is) (equal_key q is))
        by q false is =
            ap (λ o. or_else o (get cmp others q)) (others_only q is (hash key == hash q) refl) ∙ hashed.found q ∙ sym (position-others (eq q) keys own (other_key q is))

    -- an earlier one has its hash
    pub hashed-other : (copy : K) (next : BTreeMap K ℕ) → eq key copy ≡ true
        → ((q : K) → get cmp next q ≡ cond (is_at (cmp copy) q) (Some (length keys)) (get cmp others q)) → AreHashed cmp eq hash (keys ++ own ∷ []) firsts next
    hashed-other copy next like put = record { once = once-push eq laws keys own hashed.once none_own; found = λ q. by q (eq key q) refl }
      where
        copied : (q : K) (b : Bool) → eq key q ≡ b → is_at (cmp copy) q ≡ b
        copied q b is = sym (matches copy q) ∙ sym (laws.congr key copy q like) ∙ is

        by : (q : K) (b : Bool) → eq key q ≡ b → or_else (first_at eq q (keys ++ own ∷ []) (get nat_cmp firsts (hash q))) (get cmp next q) ≡ position (eq q) (keys ++ own ∷ [])
        by q true is =
            first_last eq keys own q (get nat_cmp firsts (hash q)) (get cmp next q) (none_of q is) (put q ∙ ap (λ b. cond b (Some (length keys)) (get cmp others q)) (copied q true is))
            ∙ sym (position-last (eq q) keys own (none_of q is) (equal_key q is))
        by q false is =
            ap (λ o. or_else o (get cmp next q)) (first_stays eq keys own q (get nat_cmp firsts (hash q)) (other_key q is))
            ∙ ap (or_else (first_at eq q keys (get nat_cmp firsts (hash q)))) (put q ∙ ap (λ b. cond b (Some (length keys)) (get cmp others q)) (copied q false is))
            ∙ hashed.found q ∙ sym (position-others (eq q) keys own (other_key q is))

-- ---- marking

-- what stands at a place that is there
pub there_is : {X : Type 0} (xs : List X) (i : ℕ) → i < length xs → (x : X) × (slice_get xs i ≡ Some x)
there_is xs i within = elim (slice_get_cases xs i).1 [ inl there ↦ (there.0, there.2) | inr past ↦ absurd (omega (arith, within, past.0)) ]

-- what is read at a place is read of what stands there
pub item_at : {A B : Type 0} (f : A → B) (xs : List A) (i : ℕ) (b : B) → slice_get (map f xs) i ≡ Some b → (a : A) × (slice_get xs i ≡ Some a) × (f a ≡ b)
item_at {A} {B} f xs i b at = by (slice_get xs i) refl
  where
    by : (o : Option A) → slice_get xs i ≡ o → (a : A) × (slice_get xs i ≡ Some a) × (f a ≡ b)
    by None e = absurd (none-some b (sym (ap (option_map f) e) ∙ sym (slice_get-map f xs i) ∙ at))
    by (Some a) e = (a, e, same_Some (f a) b (sym (ap (option_map f) e) ∙ sym (slice_get-map f xs i) ∙ at))

pub on_some_of : {X P : Type 0} (o : Option X) → P → OnSome o P
on_some_of None p = tt
on_some_of (Some x) p = p

pub on_err_of : {T E P : Type 0} (r : Result T E) → P → OnErr r P
on_err_of (Ok x) p = tt
on_err_of (Err e) p = p

pub text_laws : IsEquivalence same_text
text_laws = on_equiv string_bytes nat_list_eq_equiv

-- the text at a place is that of the string that stands there
pub text_there : (texts : List (String Global)) (i : ℕ) (own : String Global) → slice_get texts i ≡ Some own → text_marked texts i ≡ string_bytes own
text_there texts i own at =
    get_or_from_slice_get (map string_bytes texts) i (string_bytes own) [] (slice_get-map string_bytes texts i ∙ ap (option_map string_bytes) at)

-- where the second of two tests tells less, both fail together
less_told : (m p q : Bool) → (p ≡ true → q ≡ true) → (m && q) ≡ false → (m && p) ≡ false
less_told false p q tells fails = refl
less_told true false q tells fails = refl
less_told true true q tells fails = absurd (true≢false (sym (tells refl) ∙ fails))

module _ {T : Type 0} (eq : T → T → Bool) where
  -- whether a mark is this one, and its text stands at this place
  abbrev pub at_place : T × ℕ → T × ℕ → Bool
  at_place sought its = eq sought.0 its.0 && eqb sought.1 its.1

  module _ (texts : List (String Global)) (marks : List (T × ℕ)) (within : AreMarksWithin texts marks) where
    -- where a text stands at no place, it has no mark
    pub marked_nowhere : (mark : T) (text : String Global) → position (same_text text) texts ≡ None → position (is_same_mark eq (mark, string_bytes text)) (marked_in texts marks) ≡ None
    marked_nowhere mark text none =
        position-said (λ (its : T × ℕ). (its.0, text_marked texts its.1)) (is_same_mark eq (mark, string_bytes text)) (λ its. false) marks
        (λ i its at.
        let own = there_is texts its.1 (within i its at) in
        and_right (eq mark its.0) _ (ap (bytes_eq (string_bytes text)) (text_there texts its.1 own.0 own.1) ∙ nowhere_at (same_text text) texts its.1 own.0 none own.1))
        ∙ position-never (λ (its : T × ℕ). false) marks (λ i its at. refl)

    -- and where it stands at one, a search for it with a mark is one for the place
    pub marked_found : StandOnce same_text texts → (mark : T) (text : String Global) (place : ℕ) → position (same_text text) texts ≡ Some place
        → position (is_same_mark eq (mark, string_bytes text)) (marked_in texts marks) ≡ position (at_place (mark, place)) marks
    marked_found once mark text place found =
        position-said (λ (its : T × ℕ). (its.0, text_marked texts its.1)) (is_same_mark eq (mark, string_bytes text)) (at_place (mark, place)) marks
        (λ i its at.
        let own = there_is texts its.1 (within i its at) in
        ap (λ t. eq mark its.0 && bytes_eq (string_bytes text) t) (text_there texts its.1 own.0 own.1)
        ∙ ap (λ b. eq mark its.0 && b) (places_tell same_text text_laws texts once text own.0 place its.1 found own.1))

    -- no two marks with their texts are equal
    pub marked_once : StandOnce same_text texts → StandOnce at_place marks → StandOnce (is_same_mark eq) (marked_in texts marks)
    marked_once once marks_once = λ i its at.
        let mark = item_at (λ (its : T × ℕ). (its.0, text_marked texts its.1)) marks i its at in
        let own = there_is texts mark.0.1 (within i mark.0 mark.1) in
        let is : (mark.0.0, string_bytes own.0) ≡ its = ap (λ t. (mark.0.0, t)) (sym (text_there texts mark.0.1 own.0 own.1)) ∙ mark.2 in
        subst (λ (sought : T × Text). position (is_same_mark eq sought) (marked_in texts marks) ≡ Some i) is
        (marked_found once mark.0.0 own.0 mark.0.1 (once mark.0.1 own.0 own.1) ∙ marks_once i mark.0 mark.1)

    module _ (more : List (String Global)) (stay : (place : ℕ) (own : String Global) → slice_get texts place ≡ Some own → slice_get more place ≡ Some own) where
      same_there : (i : ℕ) (its : T × ℕ) → slice_get marks i ≡ Some its → text_marked more its.1 ≡ text_marked texts its.1
      same_there i its at =
          let own = there_is texts its.1 (within i its at) in
          text_there more its.1 own.0 (stay its.1 own.0 own.1) ∙ sym (text_there texts its.1 own.0 own.1)

      -- where texts stay, the marks have theirs
      pub marked_stay : marked_in more marks ≡ marked_in texts marks
      marked_stay = map_alike _ _ marks (λ i its at. ap (λ t. (its.0, t)) (same_there i its at))

      pub within_stay : AreMarksWithin more marks
      within_stay = λ i its at. let own = there_is texts its.1 (within i its at) in slice_get_within more its.1 own.0 (stay its.1 own.0 own.1)

      module _ (mark : T) (place : ℕ) (own : String Global) (text : Text) (there : slice_get more place ≡ Some own) (is : string_bytes own ≡ text) where
        -- one more mark goes last
        pub marked_more : marked_in more (marks ++ (mark, place) ∷ []) ≡ marked_in texts marks ++ (mark, text) ∷ []
        marked_more =
            map_push (λ (its : T × ℕ). (its.0, text_marked more its.1)) marks (mark, place)
            ∙ ap₂ (λ (l : List (T × Text)) (t : Text). l ++ (mark, t) ∷ []) marked_stay (text_there more place own there ∙ is)

        pub within_more : AreMarksWithin more (marks ++ (mark, place) ∷ [])
        within_more = λ i its at. elim (push_cases marks (mark, place) i its at) [
          | inl old ↦ within_stay i its old
          | inr last ↦ subst (λ (b : T × ℕ). b.1 < length more) last.1 (slice_get_within more place own there)
        ]

        -- a mark that is not there with its text is not there with its place
        pub not_placed : position (is_same_mark eq (mark, text)) (marked_in texts marks) ≡ None → position (at_place (mark, place)) marks ≡ None
        not_placed none = position-never (at_place (mark, place)) marks (λ i its at.
            less_told (eq mark its.0) (eqb place its.1) (bytes_eq text (text_marked texts its.1))
            (λ same. (bytes_eq-Decides text (text_marked texts its.1)).1 (sym is ∙ sym (text_there more place own there) ∙ ap (text_marked more) (eqb-true place its.1 same) ∙ same_there i its at))
            (nowhere_at (is_same_mark eq (mark, text)) (marked_in texts marks) i (its.0, text_marked texts its.1) none
            (slice_get-map (λ (b : T × ℕ). (b.0, text_marked texts b.1)) marks i ∙ ap (option_map (λ (b : T × ℕ). (b.0, text_marked texts b.1))) at)))

-- ---- holding

-- files are equal where their labels are
pub label_tells : (a b : Bool × Text) → name_eq (file_named a) (file_named b) ≡ is_same_mark beq a b
label_tells (true, s) (true, t) = refl
label_tells (true, s) (false, t) = refl
label_tells (false, s) (true, t) = refl
label_tells (false, s) (false, t) = refl

on_some : {X P Q : Type 0} (o : Option X) → (P → Q) → OnSome o P → OnSome o Q
on_some None step h = tt
on_some (Some x) step h = step h

pub itself : {X : Type 0} (o : Option X) → option_map (λ x. x) o ≡ o
itself None = refl
itself (Some x) = refl

module _ (files : List (Bool × Text)) where
  -- a search for a file is one for its label
  pub name_found : (label : Bool × Text) → position (name_eq (file_named label)) (map file_named files) ≡ position (is_same_mark beq label) files
  name_found label = position-said file_named (name_eq (file_named label)) (is_same_mark beq label) files (λ i its at. label_tells label its)

  names_once : StandOnce (is_same_mark beq) files → StandOnce name_eq (map file_named files)
  names_once once = λ i name at.
      let its = item_at file_named files i name at in
      subst (λ n. position (name_eq n) (map file_named files) ≡ Some i) its.2 (name_found its.0 ∙ once i its.0 its.1)

  pub names_found_once : (o : Option ℕ) → OnSome o (StandOnce (is_same_mark beq) files) → OnSome o (StandOnce name_eq (map file_named files))
  names_found_once o = on_some o names_once

module _ {N : Type 0} (eq : N → N → Bool) (laws : IsEquivalence eq) (first : N) (keys : List N) where
  -- the key with a number is the one that stands there
  pub key_there : (n : ℕ) (key : N) → slice_get keys n ≡ Some key → get_or keys n first ≡ key
  key_there n key at = get_or_from_slice_get keys n key first at

  pub key_stays : (more : List N) (n : ℕ) → n < length keys → get_or (keys ++ more) n first ≡ get_or keys n first
  key_stays more n within =
      let own = there_is keys n within in
      get_or_from_slice_get (keys ++ more) n own.0 first (stood_before keys more n own.0 own.1) ∙ sym (key_there n own.0 own.1)

  module _ {X : Type 0} (list : List (ℕ × X)) (below : AreBelow (length keys) list) where
    -- by number as by key
    pub tells_by : (key : N) (n : ℕ) → StandOnce eq keys → position (eq key) keys ≡ Some n → (i : ℕ) (e : ℕ × X) → slice_get list i ≡ Some e → eq key (get_or keys e.0 first) ≡ eqb n e.0
    tells_by key n once found i e at =
        let own = there_is keys e.0 (below i e at) in
        ap (eq key) (key_there e.0 own.0 own.1) ∙ places_tell eq laws keys once key own.0 n e.0 found own.1

    pub tells_never : (key : N) → position (eq key) keys ≡ None → (i : ℕ) (e : ℕ × X) → slice_get list i ≡ Some e → eq key (get_or keys e.0 first) ≡ false
    tells_never key none i e at =
        let own = there_is keys e.0 (below i e at) in
        ap (eq key) (key_there e.0 own.0 own.1) ∙ nowhere_at (eq key) keys e.0 own.0 none own.1

    module _ {Y : Type 0} (v : X → Y) where
      abbrev pub by_keys : List N → List (N × Y)
      by_keys its = map (λ e. (get_or its e.0 first, v e.1)) list

      -- what is looked for by its key is looked for by the number
      pub lookup_by : (key : N) (n : ℕ) → StandOnce eq keys → position (eq key) keys ≡ Some n → lookup (eq key) (by_keys keys) ≡ option_map v (lookup (eqb n) list)
      lookup_by key n once found = lookup-by (λ n. get_or keys n first) v (eq key) (eqb n) list (tells_by key n once found)

      pub lookup_never : (key : N) → position (eq key) keys ≡ None → lookup (eq key) (by_keys keys) ≡ None
      lookup_never key none =
          lookup-by (λ n. get_or keys n first) v (eq key) (λ n. false) list (tells_never key none)
          ∙ ap (option_map v) (lookup-never (λ (n : ℕ). false) list (λ i e at. refl))

      -- what is kept has the same keys when more come
      pub keys_stay : (more : List N) → by_keys (keys ++ more) ≡ by_keys keys
      keys_stay more = map_alike _ _ list (λ i e at. ap (λ (k : N). (k, v e.1)) (key_stays more e.0 (below i e at)))

-- numbers are below a larger count too
pub below_longer : {X : Type 0} (count more : ℕ) (list : List (ℕ × X)) → count ≤ more → AreBelow count list → AreBelow more list
below_longer count more list le below = λ i e at. omega (arith, le, below i e at)

-- one more number that is below the count
pub below_push : {X : Type 0} (count : ℕ) (list : List (ℕ × X)) (n : ℕ) (x : X) → AreBelow count list → n < count → AreBelow count (list ++ (n, x) ∷ [])
below_push {X} count list n x below less = λ i e at. elim (push_cases list (n, x) i e at) [
  | inl old ↦ below i e old
  | inr last ↦ subst (λ (b : ℕ × X). b.0 < count) last.1 less
]

-- whether a file is among those that are named
pub file_any : (name : Name) (files : List (Bool × Text)) → list_any (λ its. name_eq name (file_named its)) files ≡ is_some (position (name_eq name) (map file_named files))
file_any name files = over files ∙ any-position (name_eq name) (map file_named files)
  where
    over : (fs : List (Bool × Text)) → list_any (λ its. name_eq name (file_named its)) fs ≡ list_any (name_eq name) (map file_named fs)
    over [] = refl
    over (f ∷ fs) = ap (λ b. name_eq name (file_named f) || b) (over fs)

-- numbers of files are those of their names
pub below_names : {X : Type 0} (files : List (Bool × Text)) (list : List (ℕ × X)) → AreBelow (length files) list → AreBelow (length (map file_named files)) list
below_names files list = subst (λ n. AreBelow n list) (sym (length-map files file_named))

module _ (names : List Name) where
  -- a file that is found is there, and has its number
  pub name_found_at : (name : Name) (n : ℕ) → position (name_eq name) names ≡ Some n → slice_get names n ≡ Some name
  name_found_at name n found =
      let its = found_at (name_eq name) names n name found in
      its.1 ∙ ap Some (sym ((name_eq-Decides name its.0).0 its.2))

  pub found_there : (name : Name) (n : ℕ) → position (name_eq name) names ≡ Some n → Contains names name
  found_there name n found = Contains-slice_get names n name (name_found_at name n found)

  -- and one that is there is found
  pub there_found : (name : Name) (o : Option ℕ) → position (name_eq name) names ≡ o → Contains names name → IsSome o
  there_found name (Some n) is there = refl
  there_found name None is there =
      let at = place-Contains names name there in
      absurd (true≢false (sym ((name_eq-Decides name name).1 refl) ∙ nowhere_at (name_eq name) names at.0 name is at.1))

  pub absent_from : (name : Name) → position (name_eq name) names ≡ None → Contains names name → ⊥
  absent_from name is there =
      let at = place-Contains names name there in
      true≢false (sym ((name_eq-Decides name name).1 refl) ∙ nowhere_at (name_eq name) names at.0 name is at.1)

  -- a tree that is looked for by its file is looked for by the number
  pub tree_by : {M : Type 0} (trees : List (ℕ × M)) → AreBelow (length names) trees → (name : Name) (n : ℕ) → StandOnce name_eq names → position (name_eq name) names ≡ Some n → lookup (name_eq name) (trees_by names trees) ≡ lookup (eqb n) trees
  tree_by {M} trees below name n once found = lookup_by name_eq name_eq_equiv (custom []) names trees below (λ (x : M). x) name n once found ∙ itself (lookup (eqb n) trees)

  pub tree_never : {M : Type 0} (trees : List (ℕ × M)) → AreBelow (length names) trees → (name : Name) → position (name_eq name) names ≡ None → lookup (name_eq name) (trees_by names trees) ≡ None
  tree_never {M} trees below name none = lookup_never name_eq name_eq_equiv (custom []) names trees below (λ (x : M). x) name none

  -- a file whose tree is kept was met
  pub loaded_met : {M : Type 0} (trees : List (ℕ × M)) → AreBelow (length names) trees → (name : Name) → IsSome (lookup (name_eq name) (trees_by names trees)) → Contains names name
  loaded_met {M} trees below name some = by (position (name_eq name) names) refl
    where
      by : (o : Option ℕ) → position (name_eq name) names ≡ o → Contains names name
      by (Some n) is = found_there name n is
      by None is = absurd (true≢false (sym some ∙ ap is_some (tree_never trees below name is)))

  pub are_met : {M : Type 0} (trees : List (ℕ × M)) (seen_names : List Name) (seen_trees : List (Name × M)) → AreBelow (length names) trees → names ≡ seen_names → trees_by names trees ≡ seen_trees
      → (name : Name) → IsSome (lookup (name_eq name) seen_trees) → Contains seen_names name
  are_met {M} trees seen_names seen_trees below same_names same_trees name some =
      subst (λ (l : List Name). Contains l name) same_names
      (loaded_met trees below name (subst (λ (l : List (Name × M)). IsSome (lookup (name_eq name) l)) (sym same_trees) some))

  -- the tree of a file that was met goes last
  pub trees_more : {M : Type 0} (trees : List (ℕ × M)) (name : Name) (n : ℕ) (tree : M) → position (name_eq name) names ≡ Some n → trees_by names (trees ++ (n, tree) ∷ []) ≡ trees_by names trees ++ (name, tree) ∷ []
  trees_more {M} trees name n tree found =
      map_push (λ (e : ℕ × M). (name_at names e.0, e.1)) trees (n, tree)
      ∙ ap (λ (x : Name). trees_by names trees ++ (x, tree) ∷ []) (key_there name_eq name_eq_equiv (custom []) names n name (name_found_at name n found))

  -- a request, of its parts
  abbrev pub asked_from : Name → Text → Asked
  asked_from file specifier = record { file = file; specifier = specifier }

  module _ (requests : List (ℕ × Text)) (below : AreBelow (length names) requests) where
    -- requests keep their files when more files are met
    pub asked_stay : (more : List Name) → map (asked_by (names ++ more)) requests ≡ map (asked_by names) requests
    asked_stay more = map_alike _ _ requests (λ i e at. ap (λ (n : Name). asked_from n e.1) (key_stays name_eq name_eq_equiv (custom []) names more e.0 (below i e at)))

    -- a search for a request is one by the number of its file
    pub request_by : (asked : Asked) (n : ℕ) → StandOnce name_eq names → position (name_eq asked.file) names ≡ Some n → position (asked_eq asked) (map (asked_by names) requests) ≡ position (is_same_mark eqb (n, asked.specifier)) requests
    request_by asked n once found =
        position-said (asked_by names) (asked_eq asked) (is_same_mark eqb (n, asked.specifier)) requests
        (λ i e at. ap (λ b. b && bytes_eq asked.specifier e.1) (tells_by name_eq name_eq_equiv (custom []) names requests below asked.file n once found i e at))

    pub request_never : (asked : Asked) → position (name_eq asked.file) names ≡ None → position (asked_eq asked) (map (asked_by names) requests) ≡ None
    request_never asked none =
        position-said (asked_by names) (asked_eq asked) (λ e. false) requests
        (λ i e at. and_left (name_eq asked.file (name_at names e.0)) (bytes_eq asked.specifier e.1) (tells_never name_eq name_eq_equiv (custom []) names requests below asked.file none i e at))
        ∙ position-never (λ (e : ℕ × Text). false) requests (λ i e at. refl)

    -- no two requests are equal
    requests_once : StandOnce name_eq names → StandOnce (is_same_mark eqb) requests → StandOnce asked_eq (map (asked_by names) requests)
    requests_once once own = λ i asked at.
        let its = item_at (asked_by names) requests i asked at in
        let file = there_is names its.0.0 (below i its.0 its.1) in
        let number : position (name_eq (name_at names its.0.0)) names ≡ Some its.0.0
        = ap (λ n. position (name_eq n) names) (key_there name_eq name_eq_equiv (custom []) names its.0.0 file.0 file.1) ∙ once its.0.0 file.0 file.1 in
        subst (λ a. position (asked_eq a) (map (asked_by names) requests) ≡ Some i) its.2 (request_by (asked_by names its.0) its.0.0 once number ∙ own i its.0 its.1)

    pub requests_found_once : (o : Option ℕ) → StandOnce name_eq names → OnSome o (StandOnce (is_same_mark eqb) requests) → OnSome o (StandOnce asked_eq (map (asked_by names) requests))
    requests_found_once o once = on_some o (requests_once once)

  -- one more request of a file that was met goes last
  pub asked_more : (requests : List (ℕ × Text)) (asked : Asked) (n : ℕ) → position (name_eq asked.file) names ≡ Some n → map (asked_by names) (requests ++ (n, asked.specifier) ∷ []) ≡ map (asked_by names) requests ++ asked ∷ []
  asked_more requests asked n found =
      map_push (asked_by names) requests (n, asked.specifier)
      ∙ ap (λ (x : Name). map (asked_by names) requests ++ asked_from x asked.specifier ∷ []) (key_there name_eq name_eq_equiv (custom []) names n asked.file (name_found_at asked.file n found))

-- numbers of requests are those of what they ask
pub below_asked : {X : Type 0} (names : List Name) (requests : List (ℕ × Text)) (list : List (ℕ × X)) → AreBelow (length requests) list → AreBelow (length (map (asked_by names) requests)) list
below_asked names requests list = subst (λ n. AreBelow n list) (sym (length-map requests (asked_by names)))

-- requests are equal where their parts are
pub asked_laws : IsEquivalence asked_eq
asked_laws = and_equiv (on_equiv (λ (a : Asked). a.file) name_eq_equiv) (on_equiv (λ (a : Asked). a.specifier) nat_list_eq_equiv)

same_asked : (a b : Asked) → asked_eq a b ≡ true → a ≡ b
same_asked a b same =
    let parts = and_parts (name_eq a.file b.file) (bytes_eq a.specifier b.specifier) same in
    ap₂ (λ file specifier. record { file = file; specifier = specifier }) ((name_eq-Decides a.file b.file).0 parts.0) ((bytes_eq-Decides a.specifier b.specifier).0 parts.1)

-- the request with no number
abbrev pub nobody : Asked
nobody = record { file = custom []; specifier = [] }

module _ (asked : List Asked) where
  -- the file that a request leads to is looked for by the number of the request
  pub target_by : (targets : List (ℕ × FileName)) → AreBelow (length asked) targets → (a : Asked) (n : ℕ) → StandOnce asked_eq asked → position (asked_eq a) asked ≡ Some n
      → lookup (asked_eq a) (resolved_by asked targets) ≡ option_map name_of (lookup (eqb n) targets)
  target_by targets below a n once found = lookup_by asked_eq asked_laws nobody asked targets below name_of a n once found

  pub target_never : (targets : List (ℕ × FileName)) → AreBelow (length asked) targets → (a : Asked) → position (asked_eq a) asked ≡ None → lookup (asked_eq a) (resolved_by asked targets) ≡ None
  target_never targets below a none = lookup_never asked_eq asked_laws nobody asked targets below name_of a none

  -- a request that is found is there, and has its number
  pub asked_found_at : (a : Asked) (n : ℕ) → position (asked_eq a) asked ≡ Some n → slice_get asked n ≡ Some a
  asked_found_at a n found =
      let its = found_at (asked_eq a) asked n a found in
      its.1 ∙ ap Some (sym (same_asked a its.0 its.2))

  pub asked_there : (a : Asked) (n : ℕ) → position (asked_eq a) asked ≡ Some n → Contains asked a
  asked_there a n found =
      let at = asked_found_at a n found in
      subst (Contains asked) (get_or_from_slice_get asked n a a at) (Contains-get_or asked n a (slice_get_within asked n a at))

  -- and one that is there is found
  pub asked_found : (a : Asked) (o : Option ℕ) → position (asked_eq a) asked ≡ o → Contains asked a → IsSome o
  asked_found a (Some n) is there = refl
  asked_found a None is there =
      absurd (true≢false (sym (asked_laws.refl a) ∙ nowhere_at (asked_eq a) asked there.0 a is (slice_get-get_or asked there.0 a there.1 ∙ ap Some there.2)))

  -- the file that a request leads to goes last
  pub resolved_more : (targets : List (ℕ × FileName)) (a : Asked) (n : ℕ) (file : FileName) → position (asked_eq a) asked ≡ Some n → resolved_by asked (targets ++ (n, file) ∷ []) ≡ resolved_by asked targets ++ (a, name_of file) ∷ []
  resolved_more targets a n file found =
      map_push (λ (e : ℕ × FileName). (asked_at asked e.0, name_of e.1)) targets (n, file)
      ∙ ap (λ (x : Asked). resolved_by asked targets ++ (x, name_of file) ∷ []) (get_or_from_slice_get asked n a nobody (asked_found_at a n found))

-- ---- keeping

-- a step of a reading goes before another
pub option_map-step : {A B C : Type 0} (g : A → B) (f : B → C) (r : Option A) → option_map (λ a. f (g a)) r ≡ option_map f (option_map g r)
option_map-step g f None = refl
option_map-step g f (Some a) = refl

-- nothing is found if nothing said is found
pub none_from_said : {X Y : Type 0} (v : X → Y) (o : Option X) → option_map v o ≡ None → o ≡ None
none_from_said v None h = refl
none_from_said v (Some x) h = cc

-- what holds on success holds after one
pub on_ok : {T E : Type 0} (r : Result T E) (P : Type 0) → IsOk r → OnOk r P → P
on_ok (Ok x) P is h = h
on_ok (Err e) P is h = absurd (true≢false (sym is))

-- what holds of a result that is there holds of one that is
pub some_of : {X P : Type 0} (o : Option X) (x : X) → o ≡ Some x → OnSome o P → P
some_of (Some y) x is h = h
some_of None x is h = cc

-- Places of names.

-- what is not true is false
not_true : (b : Bool) → (b ≡ true → ⊥) → b ≡ false
not_true true never = absurd (never refl)
not_true false never = refl

-- a name that a list does not have stands at no place
pub absent_nowhere : (names : List Name) (name : Name) → (Contains names name → ⊥) → position (name_eq name) names ≡ None
absent_nowhere names name absent =
    let le : length names ≤ length names = omega arith in
    let all : position_or_len (name_eq name) names ≡ length names = position_or_len_is (name_eq name) names (length names) name le (λ k less. not_true _ (other k less)) (λ less. absurd (never less)) in
    ap (λ m. cond (nat_lt m (length names)) (Some m) None) all ∙ ap (λ b. cond b (Some (length names)) None) (le-ltb (length names) (length names) le)
  where
    never : length names < length names → ⊥
    never less = omega (arith, less)

    other : (k : ℕ) → k < length names → name_eq name (get_or names k name) ≡ true → ⊥
    other k less same =
        let is : name ≡ get_or names k name = (name_eq-Decides name (get_or names k name)).0 same in
        absurd (absent (Contains-slice_get names k name (slice_get-get_or names k name less ∙ ap Some (sym is))))

-- the names have stayed, or the name was nowhere and has gone last
pub kept_or_added : (old new : List Name) (name : Name) → (Contains old name → new ≡ old) → ((Contains old name → ⊥) → new ≡ old ++ name ∷ []) → (new ≡ old) ⊎ ((position (name_eq name) old ≡ None) × (new ≡ old ++ name ∷ []))
kept_or_added old new name known added = by (list_any (name_eq name) old) refl
  where
    by : (b : Bool) → list_any (name_eq name) old ≡ b → (new ≡ old) ⊎ ((position (name_eq name) old ≡ None) × (new ≡ old ++ name ∷ []))
    by true e = inl (known (Contains-from_any (λ a b. (name_eq-Decides a b).0) name old e))
    by false e =
        let absent : Contains old name → ⊥ = λ h. true≢false (sym (list_any-from_Contains name_eq_equiv name old h) ∙ e) in
        inr (absent_nowhere old name absent, added absent)
