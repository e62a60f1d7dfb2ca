-- Entries of the map `browser`, as keys beside what they say.
use Rattle.std.proofs.Common.{◌≡◌, ◌≢◌, ℕ, zero, suc, ◌+◌, ◌<◌, ◌≤◌, Bool, true, false, cond, List, [], ◌∷◌, ◌++◌, Option, Some, None, MatchOption, drop, get_or, length, map, set, slice_get, refl, sym, ap, subst, ◌∙◌, inl, inr, arith, bytes_eq}
use Rattle.std.specs.Borrow.{Bor}
use Rattle.std.specs.List.{HoldsAt, zip}
use Rattle.std.specs.Option.{option_map}
use Rattle.std.proofs.lemmas.List.{drop_more, length-map, map-append, map-set}
use Rattle.std.proofs.lemmas.Option.{none-some, same_Some, slice_get-map, some_pair_parts}
use Rattle.std.proofs.lemmas.Slice.Eq.{bytes_eq-Decides}
use Rattle.json.specs.Value.{members_view, value_view}
use Rattle.json.specs.declared.value.Value.{Value}
use Rattle.gutsirava_package.specs.Browser.{Entry, IsPlaceIn, Replacing, said, replacing, with_key, with_members}
use Rattle.gutsirava_package.specs.Keys.{IsExtended, IsPlaceOf, put_at}
use Rattle.gutsirava_package.specs.declared.browser.BrowserReplacement.{BrowserReplacement}
use Rattle.gutsirava_package.proofs.KeyLemmas.{looked-at, put-cases}

-- the entry of a key that stands at a place is another
key-set : (keys : List (List ℕ)) (says : List (Option Replacing)) (key : List ℕ) (it : Option Replacing) (place : ℕ) → length says ≡ length keys
    → slice_get keys place ≡ Some key → ((at : ℕ) → slice_get keys at ≡ Some key → place ≡ at) → zip keys (set says place it) ≡ with_key key it (zip keys says)
key-set [] says key it place sizes there once = absurd (none-some key there)
key-set (k ∷ keys) [] key it place sizes there once = absurd (omega (arith, sizes))
key-set (k ∷ keys) (s ∷ says) key it zero sizes there once =
    let same : k ≡ key = same_Some k key there in
    (λ i. (same i, it) ∷ zip keys says)
    ∙ sym (ap (λ b. cond b ((key, it) ∷ zip keys says) ((k, s) ∷ with_key key it (zip keys says))) ((bytes_eq-Decides k key).1 same))
key-set (k ∷ keys) (s ∷ says) key it (suc n) sizes there once =
    by (bytes_eq k key) refl (key-set keys says key it n (omega (arith, sizes)) there (λ at is. omega (arith, once (suc at) is)))
  where
    by : (b : Bool) → bytes_eq k key ≡ b → zip keys (set says n it) ≡ with_key key it (zip keys says) → (k, s) ∷ zip keys (set says n it) ≡ with_key key it ((k, s) ∷ zip keys says)
    by true same rest = absurd (omega (arith, once 0 (ap Some ((bytes_eq-Decides k key).0 same))))
    by false other rest =
        ap (λ l. (k, s) ∷ l) rest
        ∙ sym (ap (λ b. cond b ((key, it) ∷ zip keys says) ((k, s) ∷ with_key key it (zip keys says))) other)

-- and that of one that stands nowhere goes last
key-push : (keys : List (List ℕ)) (says : List (Option Replacing)) (key : List ℕ) (it : Option Replacing) → length says ≡ length keys
    → ((at : ℕ) → slice_get keys at ≢ Some key) → zip (keys ++ key ∷ []) (says ++ it ∷ []) ≡ with_key key it (zip keys says)
key-push [] [] key it sizes nowhere = refl
key-push [] (s ∷ says) key it sizes nowhere = absurd (omega (arith, sizes))
key-push (k ∷ keys) [] key it sizes nowhere = absurd (omega (arith, sizes))
key-push (k ∷ keys) (s ∷ says) key it sizes nowhere = by (bytes_eq k key) refl (key-push keys says key it (omega (arith, sizes)) (λ at. nowhere (suc at)))
  where
    by : (b : Bool) → bytes_eq k key ≡ b → zip (keys ++ key ∷ []) (says ++ it ∷ []) ≡ with_key key it (zip keys says)
        → (k, s) ∷ zip (keys ++ key ∷ []) (says ++ it ∷ []) ≡ with_key key it ((k, s) ∷ zip keys says)
    by true same rest = absurd (nowhere 0 (ap Some ((bytes_eq-Decides k key).0 same)))
    by false other rest =
        ap (λ l. (k, s) ∷ l) rest
        ∙ sym (ap (λ b. cond b ((key, it) ∷ zip keys says) ((k, s) ∷ with_key key it (zip keys says))) other)

-- entries are those with what a key says where its item was put
key-put : (keys more : List (List ℕ)) (key : List ℕ) (place : ℕ) (says : List BrowserReplacement) (it : BrowserReplacement) → length says ≡ length keys
    → IsExtended keys key more → IsPlaceOf more key (Some place)
    → zip more (map replacing (put_at place it says)) ≡ with_key key (replacing it) (zip keys (map replacing says))
key-put keys more key place says it sizes extended is = elim (put-cases keys more key place says it sizes extended is) [
  | inl old ↦
      let once : (at : ℕ) → slice_get keys at ≡ Some key → place ≡ at = λ at there. same_Some place at (is.1 at (subst (λ ks. slice_get ks at ≡ Some key) (sym old.0) there)) in
      (λ i. zip (old.0 i) (map replacing (old.2 i))) ∙ ap (zip keys) (map-set replacing says place it)
      ∙ key-set keys (map replacing says) key (replacing it) place (length-map says replacing ∙ sizes) old.1 once
  | inr new ↦
      (λ i. zip (new.0 i) (map replacing (new.2 i))) ∙ ap (zip (keys ++ key ∷ [])) (map-append replacing says (it ∷ []))
      ∙ key-push keys (map replacing says) key (replacing it) (length-map says replacing ∙ sizes) new.1
]

-- one more member of an object is put among the entries
pub member-step : {A : Type 0} (members : List (Bor (List ℕ) × Value A)) (i : ℕ) (member : Bor (List ℕ) × Value A) (keys more : List (List ℕ)) (says : List BrowserReplacement) (place : ℕ)
    (it : BrowserReplacement) (whole : List Entry) → i < length members → get_or members i member ≡ member → length says ≡ length keys
    → with_members (members_view (drop i members)) (zip keys (map replacing says)) ≡ whole
    → IsExtended keys member.0.now more → IsPlaceOf more member.0.now (Some place) → replacing it ≡ said (value_view member.1)
    → with_members (members_view (drop (i + 1) members)) (zip more (map replacing (put_at place it says))) ≡ whole
member-step members i member keys more says place it whole within member_is sizes so_far extended is said_is =
    let entries = zip keys (map replacing says) in
    let rest = members_view (drop (i + 1) members) in
    let split : drop i members ≡ member ∷ drop (i + 1) members = drop_more members i member within ∙ ap (λ m. m ∷ drop (i + 1) members) member_is in
    ap (with_members rest) (key-put keys more member.0.now place says it sizes extended is ∙ ap (λ o. with_key member.0.now o entries) said_is)
    ∙ sym (ap (λ ms. with_members (members_view ms) entries) split) ∙ so_far

-- what stands at a place is the key that does, and what it says
zip-at : (keys : List (List ℕ)) (says : List (Option Replacing)) (place : ℕ) (key : List ℕ) (it : Option Replacing) → slice_get (zip keys says) place ≡ Some (key, it)
    → (slice_get keys place ≡ Some key) × (slice_get says place ≡ Some it)
zip-at [] says place key it there = absurd (none-some (key, it) there)
zip-at (k ∷ keys) [] place key it there = absurd (none-some (key, it) there)
zip-at (k ∷ keys) (s ∷ says) zero key it there = let same = some_pair_parts k key s it there in (ap Some same.0, ap Some same.1)
zip-at (k ∷ keys) (s ∷ says) (suc n) key it there = zip-at keys says n key it there

at-zip : (keys : List (List ℕ)) (says : List (Option Replacing)) (place : ℕ) (key : List ℕ) (it : Option Replacing) → slice_get keys place ≡ Some key
    → slice_get says place ≡ Some it → slice_get (zip keys says) place ≡ Some (key, it)
at-zip [] says place key it there own = absurd (none-some key there)
at-zip (k ∷ keys) [] place key it there own = absurd (none-some it own)
at-zip (k ∷ keys) (s ∷ says) zero key it there own = λ i. Some (same_Some k key there i, same_Some s it own i)
at-zip (k ∷ keys) (s ∷ says) (suc n) key it there own = at-zip keys says n key it there own

-- beside keys stands what each says
pub says-at : (keys : List (List ℕ)) (says : List (Option Replacing)) (place : ℕ) → length says ≡ length keys → option_map (λ (entry : Entry). entry.1) (slice_get (zip keys says) place) ≡ slice_get says place
says-at [] [] place sizes = refl
says-at [] (s ∷ says) place sizes = absurd (omega (arith, sizes))
says-at (k ∷ keys) [] place sizes = absurd (omega (arith, sizes))
says-at (k ∷ keys) (s ∷ says) zero sizes = refl
says-at (k ∷ keys) (s ∷ says) (suc n) sizes = says-at keys says n (omega (arith, sizes))

-- what is found at a place is what its key says
pub replacement-at : (keys : List (List ℕ)) (items seen : List BrowserReplacement) (place : ℕ) (o : Option (Bor BrowserReplacement)) → length items ≡ length keys → seen ≡ items
    → MatchOption o (length seen ≤ place) (λ it. (place < length seen) × HoldsAt (λ own. it.now ≡ own) seen place)
    → option_map (λ (it : Bor BrowserReplacement). replacing it.now) o ≡ option_map (λ (entry : Entry). entry.1) (slice_get (zip keys (map replacing items)) place)
replacement-at keys items seen place o sizes same found =
    each o ∙ ap (option_map replacing) (looked-at seen place o found ∙ (λ i. slice_get (same i) place)) ∙ sym (slice_get-map replacing items place)
    ∙ sym (says-at keys (map replacing items) place (length-map items replacing ∙ sizes))
  where
    each : (o : Option (Bor BrowserReplacement)) → option_map (λ (it : Bor BrowserReplacement). replacing it.now) o ≡ option_map replacing (option_map (λ (it : Bor BrowserReplacement). it.now) o)
    each None = refl
    each (Some it) = refl

-- a key that stands nowhere has no place
pub place-nowhere : (keys : List (List ℕ)) (says : List (Option Replacing)) (key : List ℕ) → IsPlaceOf keys key None → IsPlaceIn (zip keys says) key None
place-nowhere keys says key own = (tt, λ at its. own.1 at (zip-at keys says at key (Some its.0) its.1).0)

module _ (keys : List (List ℕ)) (says : List (Option Replacing)) (entries : List Entry) (key : List ℕ) (place : ℕ)
    (sizes : length says ≡ length keys) (view : zip keys says ≡ entries) (own : IsPlaceOf keys key (Some place)) where
  said-at : option_map (λ (entry : Entry). entry.1) (slice_get entries place) ≡ slice_get says place
  said-at = ap (λ (es : List Entry). option_map (λ (entry : Entry). entry.1) (slice_get es place)) (sym view) ∙ says-at keys says place sizes

  -- nor has one that says nothing
  pub place-silent : (o : Option (Option Replacing)) → o ≡ option_map (λ (entry : Entry). entry.1) (slice_get entries place) → ((it : Replacing) → o ≡ Some (Some it) → ⊥)
      → IsPlaceIn entries key None
  place-silent o is silent = subst (λ (es : List Entry). IsPlaceIn es key None) view (
    tt,
    λ at its.
        let here = zip-at keys says at key (Some its.0) its.1 in
        let same : place ≡ at = same_Some place at (own.1 at here.0) in
        absurd (silent its.0 (is ∙ said-at ∙ ap (slice_get says) same ∙ here.1)),
  )

  -- and the place of one that says something is where it stands
  pub place-saying : (it : Replacing) → ◌≡◌ {A = Option (Option Replacing)} (Some (Some it)) (option_map (λ (entry : Entry). entry.1) (slice_get entries place))
      → IsPlaceIn entries key (Some place)
  place-saying it is = subst (λ (es : List Entry). IsPlaceIn es key (Some place)) view (
    (it, at-zip keys says place key (Some it) own.0 (sym (is ∙ said-at))),
    λ at its. own.1 at (zip-at keys says at key (Some its.0) its.1).0,
  )
