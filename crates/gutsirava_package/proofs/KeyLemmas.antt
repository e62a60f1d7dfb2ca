-- Keys are found where they stand when one more is put last.
use Rattle.std.proofs.Common.{◌≡◌, ◌≢◌, ◌⊎◌, inl, inr, ℕ, zero, suc, ◌+◌, ◌<◌, ◌≤◌, Bool, true, false, cond, nat_lt, List, [], ◌∷◌, ◌++◌, Option, Some, None, IfSome, MatchOption, length, length-append, length-set, set, slice_get, refl, sym, ap, subst, ◌∙◌, true≢false, arith, BTreeMap, is_eq, nat_cmp, Vec, Global, bytes_eq}
use Rattle.std.specs.Borrow.{Bor}
use Rattle.std.specs.BTreeMap.{UpdatesBy}
use Rattle.std.specs.Cmp.{eq_by_cmp_equiv}
use Rattle.std.specs.Cmp.Lexicographic.{slice_cmp, nat_list_cmp_total, nat_list_eq_equiv}
use Rattle.std.specs.List.{HoldsAt}
use Rattle.std.specs.Map.{AreApart, IsKeyTest, KeepsOthers, lookup}
use Rattle.std.specs.Option.{option_map}
use Rattle.std.proofs.lemmas.Bool.{ltb-false, ltb-true}
use Rattle.std.proofs.lemmas.Option.{none-some, same_Some, slice_get_past, slice_get_read, slice_get_within}
use Rattle.std.proofs.lemmas.Map.Text.{is_eq-slice_cmp}
use Rattle.std.proofs.lemmas.Slice.Eq.{bytes_eq-Decides}
use Rattle.gutsirava_package.specs.Keys.{ArePlaces, IsExtended, IsPlaceOf, place_in, put_at}

-- what stands in a list with one more at its end: what stood in it, or that
pub push_cases : {X : Type 0} (xs : List X) (x : X) (i : ℕ) (y : X) → slice_get (xs ++ x ∷ []) i ≡ Some y → (slice_get xs i ≡ Some y) ⊎ ((i ≡ length xs) × (x ≡ y))
push_cases [] x zero y at = inr (refl, same_Some x y at)
push_cases [] x (suc i) y at = absurd (none-some y at)
push_cases (z ∷ xs) x zero y at = inl at
push_cases (z ∷ xs) x (suc i) y at = elim (push_cases xs x i y at) [ inl old ↦ inl old | inr is ↦ inr (ap suc is.0, is.1) ]

-- what stood in a list stands there when it is longer
pub stood_before : {X : Type 0} (xs more : List X) (i : ℕ) (y : X) → slice_get xs i ≡ Some y → slice_get (xs ++ more) i ≡ Some y
stood_before [] more i y at = absurd (none-some y at)
stood_before (x ∷ xs) more zero y at = at
stood_before (x ∷ xs) more (suc i) y at = stood_before xs more i y at

pub stands_last : {X : Type 0} (xs : List X) (x : X) → slice_get (xs ++ x ∷ []) (length xs) ≡ Some x
stands_last [] x = refl
stands_last (z ∷ xs) x = stands_last xs x

-- what is looked at is what stands there
pub looked-at : {X : Type 0} (xs : List X) (i : ℕ) (o : Option (Bor X)) → MatchOption o (length xs ≤ i) (λ x. (i < length xs) × HoldsAt (λ y. x.now ≡ y) xs i)
    → option_map (λ (x : Bor X). x.now) o ≡ slice_get xs i
looked-at xs i None past = sym (slice_get_past xs i past)
looked-at xs i (Some x) found = sym (slice_get_read xs (length xs) i x.now refl found.0 (found.1 x.now))

-- a key that stood nowhere and went last stands there alone
pub pushed-place : (keys : List (List ℕ)) (key : List ℕ) (place : ℕ) → place ≡ length keys → ((at : ℕ) → slice_get keys at ≢ Some key) → IsPlaceOf (keys ++ key ∷ []) key (Some place)
pushed-place keys key place last apart = (
  subst (λ n. slice_get (keys ++ key ∷ []) n ≡ Some key) (sym last) (stands_last keys key),
  λ at there. ap Some (last ∙ elim (push_cases keys key at key there) [ inl old ↦ absurd (apart at old) | inr its ↦ sym its.0 ]),
)

module _ {X : Type 0} (keys more : List (List ℕ)) (key : List ℕ) (place : ℕ) (items : List X) (item : X) where
  -- a key stood there, and its item is another
  abbrev pub IsReplaced : Type 0
  IsReplaced = (more ≡ keys) × (slice_get keys place ≡ Some key) × (put_at place item items ≡ set items place item)

  -- a key that stood nowhere went last, and so did its item
  abbrev pub IsPushed : Type 0
  IsPushed = (more ≡ keys ++ key ∷ []) × ((at : ℕ) → slice_get keys at ≢ Some key) × (put_at place item items ≡ items ++ item ∷ [])

  put_within : place < length items → put_at place item items ≡ set items place item
  put_within within = by (nat_lt place (length items)) refl
    where
      by : (b : Bool) → nat_lt place (length items) ≡ b → put_at place item items ≡ set items place item
      by true is = ap (λ b. cond b (set items place item) (items ++ item ∷ [])) is
      by false is = absurd (omega (arith, within, ltb-false place (length items) is))

  put_behind : length items ≤ place → put_at place item items ≡ items ++ item ∷ []
  put_behind behind = by (nat_lt place (length items)) refl
    where
      by : (b : Bool) → nat_lt place (length items) ≡ b → put_at place item items ≡ items ++ item ∷ []
      by true is = absurd (omega (arith, behind, ltb-true place (length items) is))
      by false is = ap (λ b. cond b (set items place item) (items ++ item ∷ [])) is

  pub put-cases : length items ≡ length keys → IsExtended keys key more → IsPlaceOf more key (Some place) → IsReplaced ⊎ IsPushed
  put-cases sizes (inl same) is =
      let there : slice_get keys place ≡ Some key = subst (λ ks. slice_get ks place ≡ Some key) same is.0 in
      inl (same, there, put_within (omega (arith, sizes, slice_get_within keys place key there)))
  put-cases sizes (inr longer) is =
      let last : place ≡ length keys = same_Some place (length keys) (is.1 (length keys) (subst (λ ks. slice_get ks (length keys) ≡ Some key) (sym longer) (stands_last keys key))) in
      let apart : (at : ℕ) → slice_get keys at ≢ Some key = λ at there.
      let at_is : place ≡ at = same_Some place at (is.1 at (subst (λ ks. slice_get ks at ≡ Some key) (sym longer) (stood_before keys (key ∷ []) at key there))) in
      omega (arith, last, at_is, slice_get_within keys at key there) in
      inr (longer, apart, put_behind (omega (arith, sizes, last)))

  -- each key has its item again
  pub put-sizes : length items ≡ length keys → IsExtended keys key more → IsPlaceOf more key (Some place) → length (put_at place item items) ≡ length more
  put-sizes sizes extended is = elim (put-cases sizes extended is) [
    | inl its ↦ ap length its.2 ∙ length-set items place item ∙ sizes ∙ sym (ap length its.0)
    | inr its ↦ ap length its.2 ∙ length-append items (item ∷ []) ∙ ap (λ n. n + 1) sizes ∙ sym (ap length its.0 ∙ length-append keys (key ∷ []))
  ]

apart_in_order : (text other key : List ℕ) → bytes_eq text other ≡ false → is_eq (slice_cmp nat_cmp text key) ≡ true → is_eq (slice_cmp nat_cmp other key) ≡ false
apart_in_order text other key apart same =
    is_eq-slice_cmp other key ∙ nat_list_eq_equiv.symm other key
    ∙ sym (nat_list_eq_equiv.congr text key other (sym (is_eq-slice_cmp text key) ∙ same)) ∙ apart

others_stay : {K X : Type 0} (eq : K → K → Bool) (test : K → Bool) (old new : List (K × X)) → KeepsOthers eq test old new
    → (other : K → Bool) → IsKeyTest eq other → AreApart test other → lookup other new ≡ lookup other old
unfolding KeepsOthers
others_stay eq test old new keeps = keeps

-- what a map has at a text where another one was put
place_stays : (old new : BTreeMap (Vec ℕ Global) ℕ) (text other : List ℕ) (place : ℕ)
    → UpdatesBy (λ x y. slice_cmp nat_cmp x.items y.items) (λ key. slice_cmp nat_cmp text key.items) old new (Some place)
    → bytes_eq text other ≡ false → place_in new other ≡ place_in old other
place_stays old new text other place updates apart =
    others_stay _ _ _ _ updates.3 _ (λ x y. (eq_by_cmp_equiv nat_list_cmp_total).congr other x.items y.items) (λ key. apart_in_order text other key.items apart)

pub places-more : (keys : List (List ℕ)) (key : List ℕ) (old new : BTreeMap (Vec ℕ Global) ℕ) → ArePlaces keys old
    → ((at : ℕ) → slice_get keys at ≢ Some key)
    → UpdatesBy (λ x y. slice_cmp nat_cmp x.items y.items) (λ its. slice_cmp nat_cmp key its.items) old new (Some (length keys))
    → ArePlaces (keys ++ key ∷ []) new
places-more keys key old new are apart updates = λ text. by text (bytes_eq key text) refl
  where
    by : (text : List ℕ) (b : Bool) → bytes_eq key text ≡ b → IsPlaceOf (keys ++ key ∷ []) text (place_in new text)
    by text true same =
        let is : key ≡ text = (bytes_eq-Decides key text).0 same in
        subst (λ its. IsPlaceOf (keys ++ key ∷ []) its (place_in new its)) is (
          subst (λ o. IfSome o (λ at. slice_get (keys ++ key ∷ []) at ≡ Some key)) (sym updates.1) (stands_last keys key),
          λ at there. updates.1 ∙ elim (push_cases keys key at key there) [ inl old ↦ absurd (apart at old) | inr last ↦ ap Some (sym last.0) ],
        )
    by text false other =
        let stays = place_stays old new key text (length keys) updates other in (
          found (place_in old text) (sym stays) (are text).0,
          λ at there. stays ∙ elim (push_cases keys key at text there) [
            | inl old ↦ (are text).1 at old
            | inr last ↦ absurd (true≢false (sym ((bytes_eq-Decides key text).1 last.1) ∙ other))
          ],
        )
      where
        found : (o : Option ℕ) → o ≡ place_in new text → IfSome o (λ at. slice_get keys at ≡ Some text) → IfSome (place_in new text) (λ at. slice_get (keys ++ key ∷ []) at ≡ Some text)
        found None is there = subst (λ o. IfSome o (λ at. slice_get (keys ++ key ∷ []) at ≡ Some text)) is tt
        found (Some at) is there = subst (λ o. IfSome o (λ at. slice_get (keys ++ key ∷ []) at ≡ Some text)) is (stood_before keys (key ∷ []) at text there)
