-- What the blocks of a list have: all that share one with themselves, each in one block.
use Rattle.std.proofs.Common.{◌≡◌, ◌≢◌, ℕ, ◌⊎◌, ◌↔◌, List, [], ◌∷◌, ◌++◌, Contains, refl, sym, ap, ◌∙◌, subst, inl, inr}
use Rattle.std.proofs.lemmas.Bool.{cases_eq}
use Rattle.bundle_order_graph.specs.Walks.{Reaches, itself, along, Path}
use Rattle.bundle_order_graph.specs.Blocks.{Members, nothing, kept, left, BlocksOf, over, ends, goes_on}
use Rattle.bundle_order_graph.proofs.OrderLemmas.{Contains-head, Contains-tail, Contains-cons_cases}
use Rattle.bundle_order_sort.proofs.OnceLemmas.{IsOnce, InSome, AreApart, AreOnce, nothing_in}

-- ---- members
pub Members-has : {Has : ℕ → Type 0} (xs ys : List ℕ) → Members Has xs ys → (z : ℕ) → Contains xs z → Has z → Contains ys z
Members-has [] [] nothing z c h = absurd (nothing_in c)
Members-has [] (_ ∷ ys) m z c h = elim m [ ]
Members-has {Has} (x ∷ xs) (_ ∷ ys) (kept k m) z c h = step (Contains-cons_cases xs x z c) (λ d. Members-has xs ys m z d h)
  where
    step : (x ≡ z) ⊎ Contains xs z → (Contains xs z → Contains ys z) → Contains (x ∷ ys) z
    step (inl e) more = subst (λ y. Contains (x ∷ ys) y) e (Contains-head ys x)
    step (inr d) more = Contains-tail ys x z (more d)
Members-has {Has} (x ∷ xs) ys (left k m) z c h = step (Contains-cons_cases xs x z c) (λ d. Members-has xs ys m z d h)
  where
    step : (x ≡ z) ⊎ Contains xs z → (Contains xs z → Contains ys z) → Contains ys z
    step (inl e) more = absurd (k (subst (λ y. Has y) (sym e) h))
    step (inr d) more = more d

pub Members-in : {Has : ℕ → Type 0} (xs ys : List ℕ) → Members Has xs ys → (z : ℕ) → Contains ys z → Contains xs z × Has z
Members-in [] [] nothing z c = absurd (nothing_in c)
Members-in [] (_ ∷ ys) m z c = elim m [ ]
Members-in {Has} (x ∷ xs) (_ ∷ ys) (kept k m) z c = step (Contains-cons_cases ys x z c) (λ d. Members-in xs ys m z d)
  where
    step : (x ≡ z) ⊎ Contains ys z → (Contains ys z → Contains xs z × Has z) → Contains (x ∷ xs) z × Has z
    step (inl e) more = (subst (λ y. Contains (x ∷ xs) y) e (Contains-head xs x), subst (λ y. Has y) e k)
    step (inr d) more = let r = more d in (Contains-tail xs x z r.0, r.1)
Members-in (x ∷ xs) ys (left k m) z c = let r = Members-in xs ys m z c in (Contains-tail xs x z r.0, r.1)

pub Members-none : {Has : ℕ → Type 0} (xs ys : List ℕ) → Members Has xs ys → ((z : ℕ) → Contains xs z → Has z → ⊥) → ys ≡ []
Members-none [] [] nothing none = refl
Members-none [] (_ ∷ ys) m none = elim m [ ]
Members-none (x ∷ xs) (_ ∷ ys) (kept k m) none = absurd (none x (Contains-head xs x) k)
Members-none (x ∷ xs) ys (left k m) none = Members-none xs ys m (λ z c. none z (Contains-tail xs x z c))

pub none-Members : {Has : ℕ → Type 0} (xs : List ℕ) → ((z : ℕ) → Contains xs z → Has z → ⊥) → Members Has xs []
none-Members [] none = nothing
none-Members (x ∷ xs) none = left (none x (Contains-head xs x)) (none-Members xs (λ z c. none z (Contains-tail xs x z c)))

-- one of which no later one is a member too is the last
pub Members-last : {Has : ℕ → Type 0} (before : List ℕ) (x : ℕ) (rest ys : List ℕ) → Members Has (before ++ x ∷ rest) ys → Has x → ((z : ℕ) → Contains rest z → Has z → ⊥) → (zs : List ℕ) × (ys ≡ zs ++ x ∷ [])
Members-last [] x rest (_ ∷ ys) (kept k m) h none = ([], ap (λ (l : List ℕ). x ∷ l) (Members-none rest ys m none))
Members-last [] x rest ys (left k m) h none = absurd (k h)
Members-last (p ∷ before) x rest (_ ∷ ys) (kept k m) h none = let r = Members-last before x rest ys m h none in (p ∷ r.0, ap (λ (l : List ℕ). p ∷ l) r.1)
Members-last (p ∷ before) x rest ys (left k m) h none = Members-last before x rest ys m h none

-- the only one
pub Members-one : {Has : ℕ → Type 0} (xs : List ℕ) (x : ℕ) → IsOnce xs → Contains xs x → Has x → ((z : ℕ) → Has z → z ≡ x) → Members Has xs (x ∷ [])
Members-one [] x once c h only = absurd (nothing_in c)
Members-one {Has} (y ∷ xs) x once c h only = step (cases_eq y x) (λ d. Members-one xs x once.1 d h only)
  where
    step : (y ≡ x) ⊎ (y ≢ x) → (Contains xs x → Members Has xs (x ∷ [])) → Members Has (y ∷ xs) (x ∷ [])
    step (inl e) more =
        subst (λ w. Members Has (y ∷ xs) (w ∷ [])) e
        (kept (subst (λ w. Has w) (sym e) h) (none-Members xs (λ z d k. once.0 (subst (λ w. Contains xs w) (only z k ∙ sym e) d))))
    step (inr n) more = left {xs = xs} {ys = x ∷ []} (λ k. n (only y k)) (elim (Contains-cons_cases xs y x c) [ inl e ↦ absurd (n e) | inr d ↦ more d ])

pub Members-once : {Has : ℕ → Type 0} (xs ys : List ℕ) → Members Has xs ys → IsOnce xs → IsOnce ys
Members-once [] [] nothing once = tt
Members-once [] (_ ∷ ys) m once = elim m [ ]
Members-once (x ∷ xs) (_ ∷ ys) (kept k m) once = (λ c. once.0 (Members-in xs ys m x c).0, Members-once xs ys m once.1)
Members-once (x ∷ xs) ys (left k m) once = Members-once xs ys m once.1

pub Members-same : {P Q : ℕ → Type 0} (xs ys : List ℕ) → ((x : ℕ) → Contains xs x → P x ↔ Q x) → Members P xs ys → Members Q xs ys
Members-same [] [] same nothing = nothing
Members-same [] (_ ∷ ys) same m = elim m [ ]
Members-same (x ∷ xs) (_ ∷ ys) same (kept h m) = kept ((same x (Contains-head xs x)).0 h) (Members-same xs ys (λ y c. same y (Contains-tail xs x y c)) m)
Members-same (x ∷ xs) ys same (left h m) = left (λ q. h ((same x (Contains-head xs x)).1 q)) (Members-same xs ys (λ y c. same y (Contains-tail xs x y c)) m)

-- ---- blocks, where what shares one forms classes
module _ (Shares : ℕ → ℕ → Type 0) (flips : (a b : ℕ) → Shares a b → Shares b a) (joins : (a b c : ℕ) → Shares a b → Shares b c → Shares a c) (list : List ℕ) where
  pub blocks-has : (rest : List ℕ) (blocks : List (List ℕ)) → BlocksOf Shares list rest blocks → (x : ℕ) → Contains rest x → Shares x x → (z : ℕ) → Contains list z → Shares x z → InSome blocks z
  blocks-has [] [] over x c own z d s = absurd (nothing_in c)
  blocks-has [] (block ∷ blocks) b x c own z d s = elim b [ ]
  blocks-has (y ∷ rest) (block ∷ blocks) (ends mine none m b) x c own z d s = step (Contains-cons_cases rest y x c) (λ r. blocks-has rest blocks b x r own z d s)
    where
      step : (y ≡ x) ⊎ Contains rest x → (Contains rest x → InSome blocks z) → InSome (block ∷ blocks) z
      step (inl e) more = inl (Members-has list block m z d (subst (λ w. Shares w z) (sym e) s))
      step (inr r) more = inr (more r)
  blocks-has (y ∷ rest) blocks (goes_on why b) x c own z d s = step (Contains-cons_cases rest y x c) why (λ w r o t. blocks-has rest blocks b w r o z d t)
    where
      step : (y ≡ x) ⊎ Contains rest x → (Shares y y → ⊥) ⊎ ((w : ℕ) × Contains rest w × Shares y w) → ((w : ℕ) → Contains rest w → Shares w w → Shares w z → InSome blocks z) → InSome blocks z
      step (inr r) reason more = more x r own s
      step (inl e) (inl lone) more = absurd (lone (subst (λ w. Shares w w) (sym e) own))
      step (inl e) (inr w) more =
          let t = flips x w.0 (subst (λ v. Shares v w.0) e w.2) in
          more w.0 w.1 (joins w.0 x w.0 t (flips w.0 x t)) (joins w.0 x z t s)

  -- what stands in a block shares it with a module of the rest
  pub blocks-in : (rest : List ℕ) (blocks : List (List ℕ)) → BlocksOf Shares list rest blocks → (z : ℕ) → InSome blocks z → (y : ℕ) × Contains rest y × Contains list z × Shares y z
  blocks-in [] [] over z h = absurd h
  blocks-in [] (block ∷ blocks) b z h = elim b [ ]
  blocks-in (y ∷ rest) (block ∷ blocks) (ends mine none m b) z (inl c) = let r = Members-in list block m z c in (y, Contains-head rest y, r.0, r.1)
  blocks-in (y ∷ rest) (block ∷ blocks) (ends mine none m b) z (inr h) = let r = blocks-in rest blocks b z h in (r.0, Contains-tail rest y r.0 r.1, r.2, r.3)
  blocks-in (y ∷ rest) blocks (goes_on why b) z h = let r = blocks-in rest blocks b z h in (r.0, Contains-tail rest y r.0 r.1, r.2, r.3)

  pub blocks-apart : (rest : List ℕ) (blocks : List (List ℕ)) → BlocksOf Shares list rest blocks → AreApart blocks
  blocks-apart [] [] over = tt
  blocks-apart [] (block ∷ blocks) b = elim b [ ]
  blocks-apart (y ∷ rest) (block ∷ blocks) (ends mine none m b) = (
    λ z c h. let r = blocks-in rest blocks b z h in none r.0 r.1 (joins y z r.0 (Members-in list block m z c).1 (flips r.0 z r.3)),
    blocks-apart rest blocks b,
  )
  blocks-apart (y ∷ rest) blocks (goes_on why b) = blocks-apart rest blocks b

  pub blocks-once : IsOnce list → (rest : List ℕ) (blocks : List (List ℕ)) → BlocksOf Shares list rest blocks → AreOnce blocks
  blocks-once once [] [] over = tt
  blocks-once once [] (block ∷ blocks) b = elim b [ ]
  blocks-once once (y ∷ rest) (block ∷ blocks) (ends mine none m b) = (Members-once list block m once, blocks-once once rest blocks b)
  blocks-once once (y ∷ rest) blocks (goes_on why b) = blocks-once once rest blocks b

-- ---- walks
pub reaches-join : {E : ℕ → ℕ → Type 0} (a b c : ℕ) → Reaches E a b → Reaches E b c → Reaches E a c
reaches-join a b c itself s = s
reaches-join a b c (along {b = d} e r) s = along e (reaches-join d b c r s)

pub path-reaches : {E : ℕ → ℕ → Type 0} (a b : ℕ) → Path E a b → Reaches E a b
path-reaches a b p = along p.1 p.2

pub path-join : {E : ℕ → ℕ → Type 0} (a b c : ℕ) → Path E a b → Path E b c → Path E a c
path-join a b c p q = (p.0, p.1, reaches-join p.0 b c p.2 (path-reaches b c q))

-- the same, or a walk of at least one edge
pub same-or-path : {E : ℕ → ℕ → Type 0} (a c : ℕ) → Reaches E a c → (a ≡ c) ⊎ Path E a c
same-or-path a c itself = inl refl
same-or-path a c (along {b = b} e r) = inr (b, e, r)
