-- Lists of lists: for each number those that it leads to.
use Rattle.std.proofs.Common.{◌≡◌, Bool, cond, ℕ, ◌+◌, ◌<◌, ◌≤◌, ◌⊎◌, ◌↔◌, List, [], ◌∷◌, ◌++◌, length, get_or, set, map, Contains, sym, ap, ◌∙◌, subst, inl, inr, arith}
use Rattle.std.proofs.lemmas.Bool.{cases_eq, cases_lt}
use Rattle.std.proofs.lemmas.List.{length_push, length-map, map_push, get_or_append_left, get_or_push, get_or_past, get_or_default, get_or-set_same, get_or-set_other}
use Rattle.std.proofs.lemmas.List.Elements.{Contains-append_left, Contains-push, Contains-push_cases, Contains-get_or}
use Rattle.bundle_order_graph.specs.Classes.{Leads, AreWithin, AreReversed}
use Rattle.bundle_order_graph.specs.Walks.{Reaches, itself, along}

pub Reaches-more : {E : ℕ → ℕ → Type 0} {a b c : ℕ} → Reaches E a b → E b c → Reaches E a c
Reaches-more itself e = along e itself
Reaches-more (along d p) e = along d (Reaches-more p e)

pub before_or_at : (a b : ℕ) → a < b + 1 → (a < b) ⊎ (a ≡ b)
before_or_at a b h = elim (cases_lt a b) [ inl l ↦ inl l | inr g ↦ inr (omega arith) ]

abbrev pub one_unless : Bool → ℕ
one_unless b = cond b 0 1

-- what leads somewhere is in the list
pub Leads-within : (rows : List (List ℕ)) (s t : ℕ) → Leads rows s t → s < length rows
Leads-within rows s t c = elim (cases_lt s (length rows)) [ inl l ↦ l | inr g ↦ absurd (omega (arith, c.1, ap length (get_or_past rows s [] g))) ]

-- ---- one list more
module _ (P : ℕ → ℕ → Type 0) where
  pub Leads-push : (rows : List (List ℕ)) (row : List ℕ) (n : ℕ) → length rows ≡ n → ((s t : ℕ) → s < n → Leads rows s t ↔ P s t) → ((t : ℕ) → Contains row t ↔ P n t) → (s t : ℕ) → s < n + 1 → Leads (rows ++ row ∷ []) s t ↔ P s t
  Leads-push rows row n len below here s t h = by (before_or_at s n h)
    where
      by : (s < n) ⊎ (s ≡ n) → Leads (rows ++ row ∷ []) s t ↔ P s t
      by (inl l) =
          let same : get_or (rows ++ row ∷ []) s [] ≡ get_or rows s [] = get_or_append_left rows (row ∷ []) [] s (omega (arith, l, len)) in
          (λ c. (below s t l).0 (subst (λ (r : List ℕ). Contains r t) same c), λ p. subst (λ (r : List ℕ). Contains r t) (sym same) ((below s t l).1 p))
      by (inr e) =
          let same : get_or (rows ++ row ∷ []) s [] ≡ row = get_or_push rows row [] s (len ∙ sym e) in
          (λ c. subst (λ k. P k t) (sym e) ((here t).0 (subst (λ (r : List ℕ). Contains r t) same c)), λ p. subst (λ (r : List ℕ). Contains r t) (sym same) ((here t).1 (subst (λ k. P k t) e p)))

  pub Leads-map_push : {V : Type 0} (items : V → List ℕ) (rows rows' : List V) (v : V) (n : ℕ) → rows' ≡ rows ++ v ∷ [] → length rows ≡ n → ((s t : ℕ) → s < n → Leads (map items rows) s t ↔ P s t) → ((t : ℕ) → Contains (items v) t ↔ P n t) → (s t : ℕ) → s < n + 1 → Leads (map items rows') s t ↔ P s t
  Leads-map_push items rows rows' v n is len below here s t h = subst (λ (l : List (List ℕ)). Leads l s t ↔ P s t) (sym (ap (λ l. map items l) is ∙ map_push items rows v)) (Leads-push (map items rows) (items v) n (length-map rows items ∙ len) below here s t h)

  -- all lists are there
  pub Leads-all : (rows : List (List ℕ)) (n : ℕ) → length rows ≡ n → ((s t : ℕ) → s < n → Leads rows s t ↔ P s t) → ((s t : ℕ) → P s t → s < n) → (s t : ℕ) → Leads rows s t ↔ P s t
  Leads-all rows n len below within s t = (λ c. (below s t (omega (arith, Leads-within rows s t c, len))).0 c, λ p. (below s t (within s t p)).1 p)

-- ---- lists that are all empty
pub none-push : {V : Type 0} (items : V → List ℕ) (rows rows' : List V) (v : V) → rows' ≡ rows ++ v ∷ [] → items v ≡ [] → ((s t : ℕ) → Leads (map items rows) s t → ⊥) → (s t : ℕ) → Leads (map items rows') s t → ⊥
none-push items rows rows' v is empty none s t c = by (before_or_at s (length (map items rows)) (omega (arith, Leads-within (map items rows ++ items v ∷ []) s t here, length_push (map items rows) (items v))))
  where
    here : Leads (map items rows ++ items v ∷ []) s t
    here = subst (λ (l : List (List ℕ)). Leads l s t) (ap (λ l. map items l) is ∙ map_push items rows v) c

    by : (s < length (map items rows)) ⊎ (s ≡ length (map items rows)) → ⊥
    by (inl l) = none s t (subst (λ (r : List ℕ). Contains r t) (get_or_append_left (map items rows) (items v ∷ []) [] s l) here)
    by (inr e) = omega (arith, here.1, ap length (get_or_push (map items rows) (items v) [] s (sym e) ∙ empty))

-- ---- the edges turned round
-- one of the first n of the list is t
abbrev pub IsBefore : List ℕ → ℕ → ℕ → Type 0
IsBefore ends n t = (k : ℕ) × (k < n) × (get_or ends k 0 ≡ t)

pub IsBefore-all : (ends : List ℕ) (n t : ℕ) → n ≡ length ends → IsBefore ends n t ↔ Contains ends t
IsBefore-all ends n t e = (λ b. subst (λ x. Contains ends x) b.2 (Contains-get_or ends b.0 0 (omega (arith, b.1, e))), λ c. (c.0, omega (arith, c.1, e), get_or_default ends c.0 0 t c.1 ∙ c.2))

module _ (old rows : List (List ℕ)) (ends : List ℕ) (user n : ℕ) where
  end : ℕ
  end = get_or ends n 0

  row : List ℕ
  row = get_or rows (get_or ends n 0) [] ++ user ∷ []

  module _ (inside : get_or ends n 0 < length rows) (so_far : (s t : ℕ) → Leads rows t s ↔ (Leads old t s ⊎ ((s ≡ user) × IsBefore ends n t))) where
    forth : (s t : ℕ) → (t ≡ get_or ends n 0) ⊎ (t ≡ get_or ends n 0 → ⊥) → Leads (set rows (get_or ends n 0) (get_or rows (get_or ends n 0) [] ++ user ∷ [])) t s → Leads old t s ⊎ ((s ≡ user) × IsBefore ends (n + 1) t)
    forth s t (inr ne) c = more ((so_far s t).0 (subst (λ (r : List ℕ). Contains r s) (get_or-set_other rows (get_or ends n 0) t (get_or rows (get_or ends n 0) [] ++ user ∷ []) [] ne) c))
      where
        more : Leads old t s ⊎ ((s ≡ user) × IsBefore ends n t) → Leads old t s ⊎ ((s ≡ user) × IsBefore ends (n + 1) t)
        more (inl o) = inl o
        more (inr u) = inr (u.0, (u.1.0, omega (arith, u.1.1), u.1.2))
    forth s t (inl e) c = by (Contains-push_cases (get_or rows (get_or ends n 0) []) user s (subst (λ (r : List ℕ). Contains r s) (get_or-set_same rows (get_or ends n 0) (get_or rows (get_or ends n 0) [] ++ user ∷ []) [] inside) (subst (λ k. Leads (set rows (get_or ends n 0) (get_or rows (get_or ends n 0) [] ++ user ∷ [])) k s) e c)))
      where
        more : Leads old t s ⊎ ((s ≡ user) × IsBefore ends n t) → Leads old t s ⊎ ((s ≡ user) × IsBefore ends (n + 1) t)
        more (inl o) = inl o
        more (inr u) = inr (u.0, (u.1.0, omega (arith, u.1.1), u.1.2))

        by : Contains (get_or rows (get_or ends n 0) []) s ⊎ (user ≡ s) → Leads old t s ⊎ ((s ≡ user) × IsBefore ends (n + 1) t)
        by (inl o) = more ((so_far s t).0 (subst (λ k. Leads rows k s) (sym e) o))
        by (inr u) = inr (sym u, (n, omega arith, sym e))

    old_kept : (s t : ℕ) → (t ≡ get_or ends n 0) ⊎ (t ≡ get_or ends n 0 → ⊥) → Leads rows t s → Leads (set rows (get_or ends n 0) (get_or rows (get_or ends n 0) [] ++ user ∷ [])) t s
    old_kept s t (inr ne) c = subst (λ (r : List ℕ). Contains r s) (sym (get_or-set_other rows (get_or ends n 0) t (get_or rows (get_or ends n 0) [] ++ user ∷ []) [] ne)) c
    old_kept s t (inl e) c = subst (λ k. Leads (set rows (get_or ends n 0) (get_or rows (get_or ends n 0) [] ++ user ∷ [])) k s) (sym e) (subst (λ (r : List ℕ). Contains r s) (sym (get_or-set_same rows (get_or ends n 0) (get_or rows (get_or ends n 0) [] ++ user ∷ []) [] inside)) (Contains-append_left (get_or rows (get_or ends n 0) []) (user ∷ []) s (subst (λ k. Leads rows k s) e c)))

    new_there : (s t : ℕ) → s ≡ user → t ≡ get_or ends n 0 → Leads (set rows (get_or ends n 0) (get_or rows (get_or ends n 0) [] ++ user ∷ [])) t s
    new_there s t u e = subst (λ k. Leads (set rows (get_or ends n 0) (get_or rows (get_or ends n 0) [] ++ user ∷ [])) k s) (sym e) (subst (λ (r : List ℕ). Contains r s) (sym (get_or-set_same rows (get_or ends n 0) (get_or rows (get_or ends n 0) [] ++ user ∷ []) [] inside)) (subst (λ x. Contains (get_or rows (get_or ends n 0) [] ++ user ∷ []) x) (sym u) (Contains-push (get_or rows (get_or ends n 0) []) user)))

    pub users-step : (rows' : List (List ℕ)) → rows' ≡ set rows (get_or ends n 0) (get_or rows (get_or ends n 0) [] ++ user ∷ []) → (s t : ℕ) → Leads rows' t s ↔ (Leads old t s ⊎ ((s ≡ user) × IsBefore ends (n + 1) t))
    users-step rows' is s t = (λ c. forth s t (cases_eq t (get_or ends n 0)) (subst (λ (l : List (List ℕ)). Leads l t s) is c), λ o. subst (λ (l : List (List ℕ)). Leads l t s) (sym is) (back o))
      where
        at : (k : ℕ) → get_or ends k 0 ≡ t → s ≡ user → (k < n) ⊎ (k ≡ n) → Leads (set rows (get_or ends n 0) (get_or rows (get_or ends n 0) [] ++ user ∷ [])) t s
        at k e u (inl l) = old_kept s t (cases_eq t (get_or ends n 0)) ((so_far s t).1 (inr (u, (k, l, e))))
        at k e u (inr l) = new_there s t u (sym e ∙ ap (λ i. get_or ends i 0) l)

        back : Leads old t s ⊎ ((s ≡ user) × IsBefore ends (n + 1) t) → Leads (set rows (get_or ends n 0) (get_or rows (get_or ends n 0) [] ++ user ∷ [])) t s
        back (inl o) = old_kept s t (cases_eq t (get_or ends n 0)) ((so_far s t).1 (inl o))
        back (inr u) = at u.1.0 u.1.2 u.0 (before_or_at u.1.0 n u.1.1)

-- the users of the first n items are noted
abbrev pub AreNoted : List (List ℕ) → List (List ℕ) → ℕ → Type 0
AreNoted edges users n = (s t : ℕ) → Leads users t s ↔ (Leads edges s t × (s < n))

pub AreNoted-next : (edges users users' : List (List ℕ)) (n : ℕ) → AreNoted edges users n → ((s t : ℕ) → Leads users' t s ↔ (Leads users t s ⊎ ((s ≡ n) × Leads edges n t))) → AreNoted edges users' (n + 1)
AreNoted-next edges users users' n noted added s t = (λ c. forth ((added s t).0 c), λ p. back p.0 (before_or_at s n p.1))
  where
    forth : Leads users t s ⊎ ((s ≡ n) × Leads edges n t) → Leads edges s t × (s < n + 1)
    forth (inl c) = let p = (noted s t).0 c in (p.0, omega (arith, p.1))
    forth (inr p) = (subst (λ k. Leads edges k t) (sym p.0) p.1, omega (arith, p.0))

    back : Leads edges s t → (s < n) ⊎ (s ≡ n) → Leads users' t s
    back d (inl l) = (added s t).1 (inl ((noted s t).1 (d, l)))
    back d (inr e) = (added s t).1 (inr (e, subst (λ k. Leads edges k t) e d))

pub AreReversed-from_noted : (edges users : List (List ℕ)) (n : ℕ) → length edges ≤ n → AreNoted edges users n → AreReversed edges users
AreReversed-from_noted edges users n all noted s t = (λ c. ((noted s t).0 c).0, λ d. (noted s t).1 (d, omega (arith, Leads-within edges s t d, all)))

pub AreWithin-reversed : (edges users : List (List ℕ)) → length users ≡ length edges → AreReversed edges users → AreWithin users
AreWithin-reversed edges users len reversed s t l = omega (arith, Leads-within edges t s ((reversed t s).0 l), len)
