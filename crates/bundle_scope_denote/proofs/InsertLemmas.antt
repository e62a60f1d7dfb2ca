-- Keys that are added in turn, each once.
use Rattle.std.proofs.Common.{◌≡◌, ℕ, zero, suc, ◌==◌, Bool, true, false, ◌||◌, ◌⊎◌, inl, inr, ⊎_elim, List, [], ◌∷◌, ◌++◌, Some, length, refl, ap, ap₂, sym, ◌∙◌, eqb-true, eq-eqb, if◌then◌else◌}
use Rattle.std.specs.Prelude.{slice_get}
use Rattle.std.specs.List.{list_any}
use Rattle.std.proofs.lemmas.Bool.{false≢true, and_from, and_parts, or_cases, or_left, or_right}
use Rattle.std.proofs.lemmas.Option.{none-some, same_Some}
use Rattle.std.proofs.lemmas.List.Folds.{list_any-append}
use Rattle.bundle_scope_denote.specs.Chains.{IsOnce}
use Rattle.bundle_scope_denote.specs.Bound.{ScopeKey, same_key, put_key}

pub same_key-true : (a b : ScopeKey) → same_key a b ≡ true → a ≡ b
same_key-true a b e = both (and_parts (a.0 == b.0) (a.1 == b.1) e)
  where
    both : ((a.0 == b.0) ≡ true) × ((a.1 == b.1) ≡ true) → a ≡ b
    both is = ap₂ (λ (x : ℕ) (y : ℕ). let key : ScopeKey = (x, y) in key) (eqb-true a.0 b.0 is.0) (eqb-true a.1 b.1 is.1)

pub same_key-refl : (a : ScopeKey) → same_key a a ≡ true
same_key-refl a = and_from (a.0 == a.0) (a.1 == a.1) (eq-eqb a.0 a.0 refl) (eq-eqb a.1 a.1 refl)

-- an element that passes
pub list_any-here : {X : Type 0} (p : X → Bool) (xs : List X) (i : ℕ) (x : X) → slice_get xs i ≡ Some x → p x ≡ true → list_any p xs ≡ true
list_any-here p [] i x at passes = absurd (none-some x at)
list_any-here p (y ∷ ys) zero x at passes = or_left (p y) (list_any p ys) (ap p (same_Some y x at) ∙ passes)
list_any-here p (y ∷ ys) (suc i) x at passes = or_right (p y) (list_any p ys) (list_any-here p ys i x at passes)

pub list_any-found : {X : Type 0} (p : X → Bool) (xs : List X) → list_any p xs ≡ true → (i : ℕ) × (x : X) × (slice_get xs i ≡ Some x) × (p x ≡ true)
list_any-found p [] e = absurd (false≢true e)
list_any-found {X = X} p (x ∷ xs) e = here_or_later (list_any-found p xs) (or_cases (p x) (list_any p xs) e)
  where
    here_or_later : (list_any p xs ≡ true → (i : ℕ) × (y : X) × (slice_get xs i ≡ Some y) × (p y ≡ true)) → (p x ≡ true) ⊎ (list_any p xs ≡ true) → (i : ℕ) × (y : X) × (slice_get (x ∷ xs) i ≡ Some y) × (p y ≡ true)
    here_or_later ih (inl here) = (0, x, refl, here)
    here_or_later ih (inr later) = let found = ih later in (suc found.0, found.1, found.2, found.3)

-- a key that is there
pub key-there : (keys : List ScopeKey) (key : ScopeKey) → list_any (same_key key) keys ≡ true → (i : ℕ) × (slice_get keys i ≡ Some key)
key-there keys key e = let found = list_any-found (same_key key) keys e in
    (found.0, found.2 ∙ ap (λ k. Some k) (sym (same_key-true key found.1 found.3)))

-- what passes once a key is put
pub any-put : (p : ScopeKey → Bool) (keys : List ScopeKey) (key : ScopeKey) → list_any p (put_key keys key) ≡ (list_any p keys || p key)
any-put p keys key = by (list_any (same_key key) keys) refl
  where
    one : (a b : Bool) → (a || (b || false)) ≡ (a || b)
    one true b = refl
    one false true = refl
    one false false = refl

    given : (t u : Bool) → (u ≡ true → t ≡ true) → t ≡ (t || u)
    given true u more = refl
    given false true more = absurd (false≢true (more refl))
    given false false more = refl

    there : list_any (same_key key) keys ≡ true → p key ≡ true → list_any p keys ≡ true
    there is passes = let found = key-there keys key is in list_any-here p keys found.0 key found.1 passes

    by : (t : Bool) → list_any (same_key key) keys ≡ t → list_any p (if t then keys else keys ++ key ∷ []) ≡ (list_any p keys || p key)
    by true is = given (list_any p keys) (p key) (there is)
    by false is = list_any-append p keys (key ∷ []) ∙ one (list_any p keys) (p key)

-- an element behind others
pub at_append : {X : Type 0} (xs : List X) (y : X) (i : ℕ) (x : X) → slice_get (xs ++ y ∷ []) i ≡ Some x → (slice_get xs i ≡ Some x) ⊎ ((i ≡ length xs) × (y ≡ x))
at_append [] y zero x at = inr (refl, same_Some y x at)
at_append [] y (suc i) x at = absurd (none-some x at)
at_append (z ∷ zs) y zero x at = inl at
at_append (z ∷ zs) y (suc i) x at = ⊎_elim (λ here. inl here) (λ last. inr (let e : suc i ≡ suc (length zs) = ap suc last.0 in e, last.1)) (at_append zs y i x at)

-- what was not there is there once
pub once_more : {X : Type 0} (xs : List X) (y : X) → IsOnce xs → ((i : ℕ) → slice_get xs i ≡ Some y → ⊥) → IsOnce (xs ++ y ∷ [])
once_more {X = X} xs y once absent i j x at_i at_j = by (at_append xs y i x at_i) (at_append xs y j x at_j)
  where
    by : (slice_get xs i ≡ Some x) ⊎ ((i ≡ length xs) × (y ≡ x)) → (slice_get xs j ≡ Some x) ⊎ ((j ≡ length xs) × (y ≡ x)) → i ≡ j
    by (inl a) (inl b) = once i j x a b
    by (inl a) (inr b) = absurd (absent i (a ∙ ap (λ z. Some z) (sym b.1)))
    by (inr a) (inl b) = absurd (absent j (b ∙ ap (λ z. Some z) (sym a.1)))
    by (inr a) (inr b) = a.0 ∙ sym b.0

-- keys that are put are there once
pub once-put : (keys : List ScopeKey) (key : ScopeKey) → IsOnce keys → IsOnce (put_key keys key)
once-put keys key once = by (list_any (same_key key) keys) refl
  where
    by : (t : Bool) → list_any (same_key key) keys ≡ t → IsOnce (if t then keys else keys ++ key ∷ [])
    by true is = once
    by false is = once_more keys key once (λ i at. absurd (false≢true (sym is ∙ list_any-here (same_key key) keys i key at (same_key-refl key))))
