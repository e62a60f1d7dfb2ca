-- A table of places with one more place, and what a set of modules has.
use Rattle.std.proofs.Common.{◌≡◌, ℕ, ◌+◌, ◌<◌, ◌||◌, Bool, true, false, cond, nat_eq, List, [], ◌∷◌, ◌++◌, Some, None, length, get_or, set, position, eqb-true, eq-eqb, refl, sym, ap, ◌∙◌, subst, arith}
use Rattle.std.specs.List.{list_any}
use Rattle.std.proofs.Math.Bool.{or-false}
use Rattle.std.proofs.lemmas.Bool.{false≢true}
use Rattle.std.proofs.lemmas.List.{append-nil, get_or_past, length_push}
use Rattle.std.proofs.lemmas.List.Folds.{list_any-append}
use Rattle.bundle_order_graph.specs.Nodes.{added, beside, place}
use Rattle.bundle_order_graph.proofs.NodeLemmas.{added-in, added-out, beside-push_same, beside-push_other, beside-set_same, beside-set_other, missing, position-None_place, position-Some_place}
use Rattle.bundle_order_sort.specs.Places.{places_of}
use Rattle.bundle_order_sort.proofs.PlaceLemmas.{places-push}

-- the places of a module with one item more
module _ (owners : List ℕ) (id : ℕ) where
  places-same : (m : ℕ) → id ≡ m → places_of (owners ++ id ∷ []) m ≡ places_of owners m ++ length owners ∷ []
  places-same m e =
      places-push (λ o. nat_eq o m) 0 owners id
      ∙ (ap (λ b. places_of owners m ++ cond b ((0 + length owners) ∷ []) []) (eq-eqb id m e)
      ∙ ap (λ k. places_of owners m ++ k ∷ []) (let same : 0 + length owners ≡ length owners = omega arith in same))

  places-other : (m : ℕ) → nat_eq id m ≡ false → places_of (owners ++ id ∷ []) m ≡ places_of owners m
  places-other m e =
      places-push (λ o. nat_eq o m) 0 owners id
      ∙ (ap (λ b. places_of owners m ++ cond b ((0 + length owners) ∷ []) []) e
      ∙ append-nil (places_of owners m))

module _ (keys : List ℕ) (lists news : List (List ℕ)) (owners : List ℕ) (id at : ℕ) (len : length lists ≡ length keys) (rows : (m : ℕ) → beside keys lists m ≡ places_of owners m) where
  -- a module that has a row
  pub rows-put : position (nat_eq id) keys ≡ Some at → (p : ℕ) → p ≡ length owners → news ≡ set lists at (get_or lists at [] ++ p ∷ []) → (m : ℕ) → beside keys news m ≡ places_of (owners ++ id ∷ []) m
  rows-put found p last is m = by (nat_eq id m) refl
    where
      is_place : (place keys id ≡ at) × (place keys id < length keys)
      is_place = position-Some_place keys id at found

      now : news ≡ set lists (place keys id) (places_of owners id ++ length owners ∷ [])
      now =
          is
          ∙ (ap (λ k. set lists k (get_or lists k [] ++ p ∷ [])) (sym is_place.0)
          ∙ (ap (λ k. set lists (place keys id) (get_or lists (place keys id) [] ++ k ∷ [])) last
          ∙ ap (λ (l : List ℕ). set lists (place keys id) (l ++ length owners ∷ [])) (rows id)))

      by : (b : Bool) → nat_eq id m ≡ b → beside keys news m ≡ places_of (owners ++ id ∷ []) m
      by true e =
          let same : id ≡ m = eqb-true id m e in
          subst (λ k. beside keys news k ≡ places_of (owners ++ id ∷ []) k) same
          (ap (λ (l : List (List ℕ)). beside keys l id) now
          ∙ (beside-set_same keys lists id (places_of owners id ++ length owners ∷ []) (let within = is_place.1 in omega (arith, within, len))
          ∙ sym (places-same owners id id refl)))
      by false e =
          ap (λ (l : List (List ℕ)). beside keys l m) now
          ∙ (beside-set_other keys lists id (places_of owners id ++ length owners ∷ []) is_place.1 m (λ h. false≢true (sym e ∙ eq-eqb id m (sym h)))
          ∙ (rows m ∙ sym (places-other owners id m e)))

  -- a module that has none
  pub rows-new : position (nat_eq id) keys ≡ None → (p : ℕ) → p ≡ length owners → (names : List ℕ) → names ≡ added keys id → news ≡ lists ++ (p ∷ []) ∷ [] → (m : ℕ) → beside names news m ≡ places_of (owners ++ id ∷ []) m
  rows-new absent p last names named is m = ap (λ (l : List ℕ). beside l news m) grown ∙ by (nat_eq id m) refl
    where
      none : place keys id ≡ length keys
      none = position-None_place keys id absent

      grown : names ≡ keys ++ id ∷ []
      grown = named ∙ added-out keys id (missing keys id none)

      now : news ≡ lists ++ (length owners ∷ []) ∷ []
      now = is ∙ ap (λ k. lists ++ (k ∷ []) ∷ []) last

      nothing : places_of owners id ≡ []
      nothing = sym (rows id) ∙ get_or_past lists (place keys id) [] (omega (arith, none, len))

      by : (b : Bool) → nat_eq id m ≡ b → beside (keys ++ id ∷ []) news m ≡ places_of (owners ++ id ∷ []) m
      by true e =
          let same : id ≡ m = eqb-true id m e in
          subst (λ k. beside (keys ++ id ∷ []) news k ≡ places_of (owners ++ id ∷ []) k) same
          (ap (λ (l : List (List ℕ)). beside (keys ++ id ∷ []) l id) now
          ∙ (beside-push_same keys lists id (length owners ∷ []) len none
          ∙ (ap (λ (l : List ℕ). l ++ length owners ∷ []) (sym nothing)
          ∙ sym (places-same owners id id refl))))
      by false e =
          ap (λ (l : List (List ℕ)). beside (keys ++ id ∷ []) l m) now
          ∙ (beside-push_other keys lists id (length owners ∷ []) len m (λ h. false≢true (sym e ∙ eq-eqb id m (sym h)))
          ∙ (rows m ∙ sym (places-other owners id m e)))

  pub names-long : (names : List ℕ) → position (nat_eq id) keys ≡ None → names ≡ added keys id → (p : ℕ) → news ≡ lists ++ (p ∷ []) ∷ [] → length news ≡ length names
  names-long names absent named p is =
      let grown : names ≡ keys ++ id ∷ [] = named ∙ added-out keys id (missing keys id (position-None_place keys id absent)) in
      ap length is ∙ (length_push lists (p ∷ []) ∙ (ap (λ k. k + 1) len ∙ (sym (length_push keys id) ∙ ap length (sym grown))))

-- ---- what a set has
pub any-push : {X : Type 0} (test : X → Bool) (xs : List X) (x : X) → list_any test (xs ++ x ∷ []) ≡ (list_any test xs || test x)
any-push test xs x = list_any-append test xs (x ∷ []) ∙ ap (λ b. list_any test xs || b) (or-false (test x))

or-assoc : (a b c : Bool) → (a || (b || c)) ≡ ((a || b) || c)
or-assoc true b c = refl
or-assoc false b c = refl

any-added : (m n : ℕ) (xs : List ℕ) → list_any (nat_eq m) (added xs n) ≡ (list_any (nat_eq m) xs || nat_eq m n)
any-added m n xs = by (list_any (nat_eq n) xs) refl
  where
    there : (b : Bool) → nat_eq m n ≡ b → list_any (nat_eq n) xs ≡ true → list_any (nat_eq m) xs ≡ (list_any (nat_eq m) xs || nat_eq m n)
    there true e h =
        let same : list_any (nat_eq m) xs ≡ true = subst (λ k. list_any (nat_eq k) xs ≡ true) (sym (eqb-true m n e)) h in
        same ∙ ap (λ b. b || nat_eq m n) (sym same)
    there false e h = sym (ap (λ b. list_any (nat_eq m) xs || b) e ∙ or-false (list_any (nat_eq m) xs))

    by : (b : Bool) → list_any (nat_eq n) xs ≡ b → list_any (nat_eq m) (added xs n) ≡ (list_any (nat_eq m) xs || nat_eq m n)
    by true h = ap (λ (l : List ℕ). list_any (nat_eq m) l) (added-in xs n h) ∙ there (nat_eq m n) refl h
    by false h = ap (λ (l : List ℕ). list_any (nat_eq m) l) (added-out xs n h) ∙ any-push (nat_eq m) xs n

-- with one module more, of those that are passed
pub any-more : (m n : ℕ) (old now new passed more : List ℕ) → list_any (nat_eq m) now ≡ (list_any (nat_eq m) old || list_any (nat_eq m) passed) → new ≡ added now n → more ≡ passed ++ n ∷ [] → list_any (nat_eq m) new ≡ (list_any (nat_eq m) old || list_any (nat_eq m) more)
any-more m n old now new passed more is put last =
    ap (λ (l : List ℕ). list_any (nat_eq m) l) put
    ∙ (any-added m n now
    ∙ (ap (λ b. b || nat_eq m n) is
    ∙ (sym (or-assoc (list_any (nat_eq m) old) (list_any (nat_eq m) passed) (nat_eq m n))
    ∙ ap (λ b. list_any (nat_eq m) old || b) (sym (any-push (nat_eq m) passed n) ∙ ap (λ (l : List ℕ). list_any (nat_eq m) l) (sym last)))))
