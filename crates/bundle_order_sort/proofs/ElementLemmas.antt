-- What lists hold that are taken up to a place, filtered and mapped.
use Rattle.std.proofs.Common.{◌≡◌, ℕ, ◌+◌, ◌<◌, ◌⊎◌, ◌↔◌, Bool, true, false, cond, List, [], ◌∷◌, ◌++◌, length, get_or, take, map, Contains, refl, sym, ap, ◌∙◌, subst, inl, inr, arith}
use Rattle.std.specs.List.{filter}
use Rattle.std.proofs.lemmas.Bool.{true≢false}
use Rattle.std.proofs.lemmas.List.{take_more}
use Rattle.std.proofs.lemmas.List.Elements.{Contains-append_left, Contains-append_right, Contains-append_cases, Contains-push, Contains-push_cases}

-- ---- one more element
pub Contains-more : {X : Type 0} (xs : List X) (i : ℕ) (d x : X) → i < length xs → Contains (take (i + 1) xs) x ↔ (Contains (take i xs) x ⊎ (get_or xs i d ≡ x))
Contains-more {X} xs i d x h = (
  λ c. Contains-push_cases (take i xs) (get_or xs i d) x (subst (λ (l : List X). Contains l x) (take_more xs i d h) c),
  λ o. subst (λ (l : List X). Contains l x) (sym (take_more xs i d h)) (elim o [
    | inl c ↦ Contains-append_left (take i xs) (get_or xs i d ∷ []) x c
    | inr e ↦ subst (λ (y : X). Contains (take i xs ++ get_or xs i d ∷ []) y) e (Contains-push (take i xs) (get_or xs i d))
  ]),
)

pub Contains-none : {X : Type 0} (x : X) → Contains [] x → ⊥
Contains-none x c = absurd (omega (arith, c.1))

pub Contains-cons : {X : Type 0} (y : X) (xs : List X) (x : X) → Contains (y ∷ xs) x ↔ ((y ≡ x) ⊎ Contains xs x)
Contains-cons {X} y xs x = (
  λ c. elim (Contains-append_cases (y ∷ []) xs x c) [ inl a ↦ elim (Contains-push_cases [] y x a) [ inl n ↦ absurd (Contains-none x n) | inr e ↦ inl e ] | inr b ↦ inr b ],
  λ o. elim o [ inl e ↦ Contains-append_left (y ∷ []) xs x (subst (λ (z : X). Contains (y ∷ []) z) e (Contains-push [] y)) | inr c ↦ Contains-append_right (y ∷ []) xs x c ],
)

-- ---- what a filter and a map hold
module _ {X Y : Type 0} (f : X → Y) (p : X → Bool) where
  -- some element passes and gives y
  abbrev pub Gives : List X → Y → Type 0
  Gives xs y = (x : X) × Contains xs x × (p x ≡ true) × (f x ≡ y)

  pub Contains-map_filter : (xs : List X) (y : Y) → Contains (map f (filter p xs)) y ↔ Gives xs y
  Contains-map_filter [] y = (λ c. absurd (Contains-none y c), λ g. absurd (Contains-none g.0 g.1))
  Contains-map_filter (x ∷ xs) y = step (p x) refl (Contains-map_filter xs y)
    where
      further : Gives xs y → Gives (x ∷ xs) y
      further g = (g.0, (Contains-cons x xs g.0).1 (inr g.1), g.2, g.3)

      step : (b : Bool) → p x ≡ b → Contains (map f (filter p xs)) y ↔ Gives xs y → Contains (map f (cond b (x ∷ filter p xs) (filter p xs))) y ↔ Gives (x ∷ xs) y
      step true e ih = (
        λ c. elim ((Contains-cons (f x) (map f (filter p xs)) y).0 c) [ inl s ↦ (x, (Contains-cons x xs x).1 (inl refl), e, s) | inr r ↦ further (ih.0 r) ],
        λ g. (Contains-cons (f x) (map f (filter p xs)) y).1 (elim ((Contains-cons x xs g.0).0 g.1) [ inl s ↦ inl (ap f s ∙ g.3) | inr r ↦ inr (ih.1 (g.0, r, g.2, g.3)) ]),
      )
      step false e ih = (
        λ c. further (ih.0 c),
        λ g. elim ((Contains-cons x xs g.0).0 g.1) [ inl s ↦ absurd (true≢false (sym g.2 ∙ (ap p (sym s) ∙ e))) | inr r ↦ ih.1 (g.0, r, g.2, g.3) ],
      )

-- ---- what a filter holds
pub Contains-filter : {X : Type 0} (p : X → Bool) (xs : List X) (x : X) → Contains (filter p xs) x ↔ (Contains xs x × (p x ≡ true))
Contains-filter p [] x = (λ c. absurd (Contains-none x c), λ g. absurd (Contains-none x g.0))
Contains-filter {X} p (y ∷ xs) x = step (p y) refl (Contains-filter p xs x)
  where
    step : (b : Bool) → p y ≡ b → Contains (filter p xs) x ↔ (Contains xs x × (p x ≡ true)) → Contains (cond b (y ∷ filter p xs) (filter p xs)) x ↔ (Contains (y ∷ xs) x × (p x ≡ true))
    step true e ih = (
      λ c. elim ((Contains-cons y (filter p xs) x).0 c) [ inl s ↦ ((Contains-cons y xs x).1 (inl s), ap p (sym s) ∙ e) | inr r ↦ let g = ih.0 r in ((Contains-cons y xs x).1 (inr g.0), g.1) ],
      λ g. (Contains-cons y (filter p xs) x).1 (elim ((Contains-cons y xs x).0 g.0) [ inl s ↦ inl s | inr r ↦ inr (ih.1 (r, g.1)) ]),
    )
    step false e ih = (
      λ c. let g = ih.0 c in ((Contains-cons y xs x).1 (inr g.0), g.1),
      λ g. elim ((Contains-cons y xs x).0 g.0) [ inl s ↦ absurd (true≢false (sym g.1 ∙ (ap p (sym s) ∙ e))) | inr r ↦ ih.1 (r, g.1) ],
    )

-- ---- numbers that are added to others, if they are needed
module _ (Needed : ℕ → Type 0) (list : List ℕ) (i : ℕ) (h : i < length list) (old new : List ℕ) (so_far : (t : ℕ) → Contains new t ↔ (Contains old t ⊎ (Contains (take i list) t × Needed t))) where
  pub Adds-takes : Needed (get_or list i 0) → (new' : List ℕ) → new' ≡ new ++ get_or list i 0 ∷ [] → (t : ℕ) → Contains new' t ↔ (Contains old t ⊎ (Contains (take (i + 1) list) t × Needed t))
  Adds-takes here new' is t = (λ c. forth (Contains-push_cases new (get_or list i 0) t (subst (λ (l : List ℕ). Contains l t) is c)), λ o. subst (λ (l : List ℕ). Contains l t) (sym is) (back o))
    where
      more : Contains old t ⊎ (Contains (take i list) t × Needed t) → Contains old t ⊎ (Contains (take (i + 1) list) t × Needed t)
      more (inl o) = inl o
      more (inr p) = inr ((Contains-more list i 0 t h).1 (inl p.0), p.1)

      forth : Contains new t ⊎ (get_or list i 0 ≡ t) → Contains old t ⊎ (Contains (take (i + 1) list) t × Needed t)
      forth (inl c) = more ((so_far t).0 c)
      forth (inr e) = inr ((Contains-more list i 0 t h).1 (inr e), subst Needed e here)

      by : Needed t → Contains (take i list) t ⊎ (get_or list i 0 ≡ t) → Contains (new ++ get_or list i 0 ∷ []) t
      by n (inl c) = Contains-append_left new (get_or list i 0 ∷ []) t ((so_far t).1 (inr (c, n)))
      by n (inr e) = subst (λ x. Contains (new ++ get_or list i 0 ∷ []) x) e (Contains-push new (get_or list i 0))

      back : Contains old t ⊎ (Contains (take (i + 1) list) t × Needed t) → Contains (new ++ get_or list i 0 ∷ []) t
      back (inl o) = Contains-append_left new (get_or list i 0 ∷ []) t ((so_far t).1 (inl o))
      back (inr p) = by p.1 ((Contains-more list i 0 t h).0 p.0)

  pub Adds-leaves : (Needed (get_or list i 0) → ⊥) → (t : ℕ) → Contains new t ↔ (Contains old t ⊎ (Contains (take (i + 1) list) t × Needed t))
  Adds-leaves out t = (λ c. more ((so_far t).0 c), λ o. back o)
    where
      more : Contains old t ⊎ (Contains (take i list) t × Needed t) → Contains old t ⊎ (Contains (take (i + 1) list) t × Needed t)
      more (inl o) = inl o
      more (inr p) = inr ((Contains-more list i 0 t h).1 (inl p.0), p.1)

      by : Needed t → Contains (take i list) t ⊎ (get_or list i 0 ≡ t) → Contains new t
      by n (inl c) = (so_far t).1 (inr (c, n))
      by n (inr e) = absurd (out (subst Needed (sym e) n))

      back : Contains old t ⊎ (Contains (take (i + 1) list) t × Needed t) → Contains new t
      back (inl o) = (so_far t).1 (inl o)
      back (inr p) = by p.1 ((Contains-more list i 0 t h).0 p.0)
