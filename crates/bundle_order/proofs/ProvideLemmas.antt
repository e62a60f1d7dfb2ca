-- Lists that are filtered, what is found in them first, and rows of numbers.
-- Which items declare a binding or set it up, by the first identifier that declares it and the first that gives it a value.
use Rattle.std.proofs.Common.{◌≡◌, ◌≢◌, ℕ, ◌+◌, ◌<◌, ◌≤◌, ◌⊎◌, ◌↔◌, ◌&&◌, Bool, true, false, not, cond, Result, Ok, Err, Option, Some, None, List, [], ◌∷◌, ◌++◌, length, get_or, set, take, map, Contains, refl, sym, ap, ◌∙◌, subst, inl, inr, eqb, arith, ◌||◌, slice_get, All, ltb}
use Rattle.std.specs.List.{filter, find}
use Rattle.std.specs.List.Sorted.{IsBinarySearchResult, IsStrictlyIncreasing}
use Rattle.std.specs.Option.{is_some, option_or}
use Rattle.std.specs.Ordering.{nat_cmp}
use Rattle.std.specs.Result.{MatchResult, is_ok}
use Rattle.std.proofs.lemmas.Bool.{true≢false, false≢true, cases_eq, cases_lt, eq-eqb, ne_eqb, and_right, eqb-true, ltb-true, lt-ltb, and_parts, and_from, or_cases, or_left, or_right, not-true, not_from_false}
use Rattle.std.proofs.lemmas.List.{get_or-set_same, get_or-set_other, get_or_past, get_or_default, take_more}
use Rattle.std.proofs.lemmas.List.Elements.{Contains-append_left, Contains-push, Contains-push_cases, Contains-get_or, All-contains}
use Rattle.std.proofs.lemmas.List.Kept.{AllPairs-from_increasing}
use Rattle.std.proofs.lemmas.List.Sorted.{searched}
use Rattle.std.proofs.lemmas.List.Folds.{find-append}
use Rattle.std.proofs.lemmas.Option.{none-some, same_Some, slice_get-get_or, get_or_from_slice_get}
use Rattle.bundle_order_graph.specs.Classes.{Leads}
use Rattle.bundle_order_sort.proofs.ElementLemmas.{Contains-more}
pub use Rattle.bundle_order_sort.proofs.ElementLemmas.{Contains-none, Contains-cons}
use Rattle.bundle_rules.specs.Order.{Mention, Group, IsOf, mention_at, Refers, DeclaresAt, DeclaresFirst, IsWithoutValue, Fills, SetsUpBy, by_member, by_prototype, by_value, SetsUp, Provides}
use Rattle.bundle_order.specs.declared.seen.Seen.{Seen}
use Rattle.bundle_order.specs.Found.{AddsEnds, IsEnd}
use Rattle.bundle_order.specs.Providing.{is_of, is_same_module, is_later_beside, fills_after, sets_up_after, is_beside, provides, known_of, binding_and_item, declares_binding}
use Rattle.bundle_order.specs.Seen.{seen_of, seen_as, seen_from}
use Rattle.bundle_order.proofs.EventLemmas.{IsAt, IsAt-mention, seen_as-is, seen_as-from, Stands-contained, Contains-at, FirstSeen, seen_first}

-- ---- what a filter and a map hold
module _ {X Y : Type 0} (f : X → Y) (p : X → Bool) where
  -- some element passes and gives y
  abbrev pub Gives : List X → Y → Type 0
  Gives xs y = (x : X) × Contains xs x × (p x ≡ true) × (f x ≡ y)

  pub Contains-map_filter : (xs : List X) (y : Y) → Contains (map f (filter p xs)) y ↔ Gives xs y
  Contains-map_filter [] y = (λ c. absurd (Contains-none y c), λ g. absurd (Contains-none g.0 g.1))
  Contains-map_filter (x ∷ xs) y = step (p x) refl (Contains-map_filter xs y)
    where
      further : Gives xs y → Gives (x ∷ xs) y
      further g = (g.0, (Contains-cons x xs g.0).1 (inr g.1), g.2, g.3)

      step : (b : Bool) → p x ≡ b → Contains (map f (filter p xs)) y ↔ Gives xs y → Contains (map f (cond b (x ∷ filter p xs) (filter p xs))) y ↔ Gives (x ∷ xs) y
      step true e ih = (
        λ c. elim ((Contains-cons (f x) (map f (filter p xs)) y).0 c) [ inl s ↦ (x, (Contains-cons x xs x).1 (inl refl), e, s) | inr r ↦ further (ih.0 r) ],
        λ g. (Contains-cons (f x) (map f (filter p xs)) y).1 (elim ((Contains-cons x xs g.0).0 g.1) [ inl s ↦ inl (ap f s ∙ g.3) | inr r ↦ inr (ih.1 (g.0, r, g.2, g.3)) ]),
      )
      step false e ih = (
        λ c. further (ih.0 c),
        λ g. elim ((Contains-cons x xs g.0).0 g.1) [ inl s ↦ absurd (true≢false (sym g.2 ∙ (ap p (sym s) ∙ e))) | inr r ↦ ih.1 (g.0, r, g.2, g.3) ],
      )

pub Contains-map : {X Y : Type 0} (f : X → Y) (xs : List X) (y : Y) → Contains (map f xs) y ↔ ((x : X) × Contains xs x × (f x ≡ y))
Contains-map f [] y = (λ c. absurd (Contains-none y c), λ g. absurd (Contains-none g.0 g.1))
Contains-map {X} f (x ∷ xs) y = step (Contains-map f xs y)
  where
    step : Contains (map f xs) y ↔ ((z : X) × Contains xs z × (f z ≡ y)) → Contains (map f (x ∷ xs)) y ↔ ((z : X) × Contains (x ∷ xs) z × (f z ≡ y))
    step ih = (
      λ c. elim ((Contains-cons (f x) (map f xs) y).0 c) [ inl s ↦ (x, (Contains-cons x xs x).1 (inl refl), s) | inr r ↦ let g = ih.0 r in (g.0, (Contains-cons x xs g.0).1 (inr g.1), g.2) ],
      λ g. (Contains-cons (f x) (map f xs) y).1 (elim ((Contains-cons x xs g.0).0 g.1) [ inl s ↦ inl (ap f s ∙ g.2) | inr r ↦ inr (ih.1 (g.0, r, g.2)) ]),
    )

-- ---- what is found first
pub find-filter : {X : Type 0} (p q : X → Bool) (xs : List X) → find p (filter q xs) ≡ find (λ x. q x && p x) xs
find-filter p q [] = refl
find-filter {X} p q (x ∷ xs) = step (q x) (find-filter p q xs)
  where
    step : (b : Bool) → find p (filter q xs) ≡ find (λ y. q y && p y) xs → find p (cond b (x ∷ filter q xs) (filter q xs)) ≡ cond (b && p x) (Some x) (find (λ y. q y && p y) xs)
    step true e = ap (λ (o : Option X). cond (p x) (Some x) o) e
    step false e = e

pub find_agree : {X : Type 0} (p q : X → Bool) → ((x : X) → p x ≡ q x) → (xs : List X) → find p xs ≡ find q xs
find_agree p q same [] = refl
find_agree {X} p q same (x ∷ xs) = ap (λ b. cond b (Some x) (find p xs)) (same x) ∙ ap (λ (o : Option X). cond (q x) (Some x) o) (find_agree p q same xs)

option_or-none : {X : Type 0} (o : Option X) → option_or o None ≡ o
option_or-none None = refl
option_or-none (Some x) = refl

option_or-there : {X : Type 0} (o other : Option X) → (o ≡ None → ⊥) → option_or o other ≡ o
option_or-there None other n = absurd (n refl)
option_or-there (Some x) other n = refl

-- nothing is known
abbrev pub no_seen : Seen
no_seen = record { item = 0; binding = 0; declares = false; is_later = false; fills = false; sets_up = false; is_empty = false }

find_more : (b : ℕ) (seen : List Seen) (i : ℕ) → i < length seen → find (is_of b) (take (i + 1) seen) ≡ option_or (find (is_of b) (take i seen)) (cond (eqb (get_or seen i no_seen).binding b) (Some (get_or seen i no_seen)) None)
find_more b seen i h = ap (λ (l : List Seen). find (is_of b) l) (take_more seen i no_seen h) ∙ find-append (is_of b) (take i seen) (get_or seen i no_seen ∷ [])

module _ (count : ℕ) (seen : List Seen) (i : ℕ) (h : i < length seen) (firsts : List (Option Seen)) (len : length firsts ≡ count) (each : (b : ℕ) → b < count → get_or firsts b None ≡ find (is_of b) (take i seen)) where
  pub firsts-puts : get_or firsts (get_or seen i no_seen).binding None ≡ None → (b : ℕ) → b < count → get_or (set firsts (get_or seen i no_seen).binding (Some (get_or seen i no_seen))) b None ≡ find (is_of b) (take (i + 1) seen)
  firsts-puts none b l = by (cases_eq (get_or seen i no_seen).binding b)
    where
      by : ((get_or seen i no_seen).binding ≡ b) ⊎ ((get_or seen i no_seen).binding ≡ b → ⊥) → get_or (set firsts (get_or seen i no_seen).binding (Some (get_or seen i no_seen))) b None ≡ find (is_of b) (take (i + 1) seen)
      by (inl e) =
          let inside : (get_or seen i no_seen).binding < length firsts = omega (arith, e, l, len) in
          let before : find (is_of b) (take i seen) ≡ None = sym (each b l) ∙ (ap (λ k. get_or firsts k None) (sym e) ∙ none) in
          ap (λ k. get_or (set firsts (get_or seen i no_seen).binding (Some (get_or seen i no_seen))) k None) (sym e)
          ∙ (get_or-set_same firsts (get_or seen i no_seen).binding (Some (get_or seen i no_seen)) None inside
          ∙ sym (find_more b seen i h ∙ (ap (λ (o : Option Seen). option_or o (cond (eqb (get_or seen i no_seen).binding b) (Some (get_or seen i no_seen)) None)) before ∙ ap (λ v. cond v (Some (get_or seen i no_seen)) None) (eq-eqb (get_or seen i no_seen).binding b e))))
      by (inr ne) =
          get_or-set_other firsts (get_or seen i no_seen).binding b (Some (get_or seen i no_seen)) None (λ q. ne (sym q))
          ∙ (each b l ∙ sym (find_more b seen i h ∙ (ap (λ v. option_or (find (is_of b) (take i seen)) (cond v (Some (get_or seen i no_seen)) None)) (ne_eqb (get_or seen i no_seen).binding b ne) ∙ option_or-none (find (is_of b) (take i seen)))))

  pub firsts-leaves : ((get_or seen i no_seen).binding < length firsts → get_or firsts (get_or seen i no_seen).binding None ≡ None → ⊥) → (b : ℕ) → b < count → get_or firsts b None ≡ find (is_of b) (take (i + 1) seen)
  firsts-leaves out b l = each b l ∙ sym (find_more b seen i h ∙ by (cases_eq (get_or seen i no_seen).binding b))
    where
      by : ((get_or seen i no_seen).binding ≡ b) ⊎ ((get_or seen i no_seen).binding ≡ b → ⊥) → option_or (find (is_of b) (take i seen)) (cond (eqb (get_or seen i no_seen).binding b) (Some (get_or seen i no_seen)) None) ≡ find (is_of b) (take i seen)
      by (inl e) = option_or-there (find (is_of b) (take i seen)) (cond (eqb (get_or seen i no_seen).binding b) (Some (get_or seen i no_seen)) None) (λ n. out (omega (arith, e, l, len)) (ap (λ k. get_or firsts k None) e ∙ (each b l ∙ n)))
      by (inr ne) = ap (λ v. option_or (find (is_of b) (take i seen)) (cond v (Some (get_or seen i no_seen)) None)) (ne_eqb (get_or seen i no_seen).binding b ne) ∙ option_or-none (find (is_of b) (take i seen))

-- ---- rows
pair_is : (a b s t : ℕ) → a ≡ s → b ≡ t → ◌≡◌ {A = ℕ × ℕ} (a, b) (s, t)
pair_is a b s t e f = ap (λ x. (x, b)) e ∙ ap (λ y. (s, y)) f

module _ (pairs : List (ℕ × ℕ)) (i count : ℕ) (h : i < length pairs) (rows : List (List ℕ)) (len : length rows ≡ count) (each : (s t : ℕ) → Leads rows s t ↔ ((s < count) × Contains (take i pairs) (s, t))) where
  abbrev first : ℕ
  first = (get_or pairs i (0, 0)).0

  abbrev second : ℕ
  second = (get_or pairs i (0, 0)).1

  abbrev old : List ℕ
  old = get_or rows first []

  abbrev new : List (List ℕ)
  new = set rows first (old ++ second ∷ [])

  pub rows-put : (get_or pairs i (0, 0)).0 < count → (s t : ℕ) → Leads (set rows (get_or pairs i (0, 0)).0 (get_or rows (get_or pairs i (0, 0)).0 [] ++ (get_or pairs i (0, 0)).1 ∷ [])) s t ↔ ((s < count) × Contains (take (i + 1) pairs) (s, t))
  rows-put inside s t = (λ c. forth (cases_eq s first) c, λ p. back (cases_eq s first) p.0 ((Contains-more pairs i (0, 0) (s, t) h).0 p.1))
    where
      later : (s < count) × Contains (take i pairs) (s, t) → (s < count) × Contains (take (i + 1) pairs) (s, t)
      later p = (p.0, (Contains-more pairs i (0, 0) (s, t) h).1 (inl p.1))

      here : s ≡ first → get_or new s [] ≡ old ++ second ∷ []
      here e = ap (λ k. get_or new k []) e ∙ get_or-set_same rows first (old ++ second ∷ []) [] (omega (arith, inside, len))

      there : (s ≡ first → ⊥) → get_or new s [] ≡ get_or rows s []
      there ne = get_or-set_other rows first s (old ++ second ∷ []) [] ne

      forth : (s ≡ first) ⊎ (s ≡ first → ⊥) → Leads new s t → (s < count) × Contains (take (i + 1) pairs) (s, t)
      forth (inl e) c = elim (Contains-push_cases old second t (subst (λ (r : List ℕ). Contains r t) (here e) c)) [
        | inl o ↦ later ((each s t).0 (subst (λ k. Leads rows k t) (sym e) o))
        | inr q ↦ (omega (arith, e, inside), (Contains-more pairs i (0, 0) (s, t) h).1 (inr (pair_is first second s t (sym e) q)))
      ]
      forth (inr ne) c = later ((each s t).0 (subst (λ (r : List ℕ). Contains r t) (there ne) c))

      kept : (s ≡ first) ⊎ (s ≡ first → ⊥) → Leads rows s t → Leads new s t
      kept (inl e) c = subst (λ (r : List ℕ). Contains r t) (sym (here e)) (Contains-append_left old (second ∷ []) t (subst (λ k. Leads rows k t) e c))
      kept (inr ne) c = subst (λ (r : List ℕ). Contains r t) (sym (there ne)) c

      back : (s ≡ first) ⊎ (s ≡ first → ⊥) → s < count → Contains (take i pairs) (s, t) ⊎ (get_or pairs i (0, 0) ≡ (s, t)) → Leads new s t
      back w l (inl c) = kept w ((each s t).1 (l, c))
      back w l (inr q) =
          let e : s ≡ first = sym (ap (λ (x : ℕ × ℕ). x.0) q) in
          subst (λ (r : List ℕ). Contains r t) (sym (here e)) (subst (λ k. Contains (old ++ second ∷ []) k) (ap (λ (x : ℕ × ℕ). x.1) q) (Contains-push old second))

  pub rows-leave : count ≤ (get_or pairs i (0, 0)).0 → (s t : ℕ) → Leads rows s t ↔ ((s < count) × Contains (take (i + 1) pairs) (s, t))
  rows-leave past s t = (
    λ c. let p = (each s t).0 c in (p.0, (Contains-more pairs i (0, 0) (s, t) h).1 (inl p.1)),
    λ p. elim ((Contains-more pairs i (0, 0) (s, t) h).0 p.1) [
      | inl c ↦ (each s t).1 (p.0, c)
      | inr q ↦ absurd (omega (arith, past, p.0, ap (λ (x : ℕ × ℕ). x.0) q))
    ],
  )

-- ---- a flag
pub none-from : (o : Option Seen) (r : Bool) → is_some o ≡ not r → r ≡ true → o ≡ None
none-from None r e t = refl
none-from (Some x) r e t = absurd (true≢false (e ∙ ap not t))

pub some-from : (o : Option Seen) (r : Bool) → is_some o ≡ not r → r ≡ false → o ≡ None → ⊥
some-from o r e f n = false≢true (sym (ap is_some n) ∙ (e ∙ ap not f))

-- ---- what a search finds
pub among : (xs : List ℕ) (x : ℕ) (r : Result ℕ ℕ) → IsStrictlyIncreasing xs → IsBinarySearchResult (λ y. nat_cmp y x) xs r → (is_ok r ≡ true) ↔ Contains xs x
among xs x r rises is = by r (searched xs x r is (λ i j a b. ordered i j a b (cases_lt i j)))
  where
    ordered : (i j : ℕ) → i ≤ j → j < length xs → (i < j) ⊎ (j ≤ i) → get_or xs i 0 ≤ get_or xs j 0
    ordered i j a b (inl l) = let lt = AllPairs-from_increasing xs rises i j 0 l b in omega (arith, lt)
    ordered i j a b (inr g) = let same : i ≡ j = omega (arith, a, g) in subst (λ k. get_or xs i 0 ≤ get_or xs k 0) same (omega arith)

    by : (q : Result ℕ ℕ) → MatchResult q (λ i. (i < length xs) × (get_or xs i 0 ≡ x)) (λ i. (i ≤ length xs) × ((k : ℕ) → k < i → get_or xs k 0 < x) × ((k : ℕ) → i ≤ k → k < length xs → x < get_or xs k 0)) → (is_ok q ≡ true) ↔ Contains xs x
    by (Ok i) found = (λ t. subst (λ y. Contains xs y) found.1 (Contains-get_or xs i 0 found.0), λ c. refl)
    by (Err i) past = (λ t. absurd (false≢true t), λ c. absurd (none c (get_or_default xs c.0 0 x c.1 ∙ c.2) (cases_lt c.0 i)))
      where
        none : (c : Contains xs x) → get_or xs c.0 0 ≡ x → (c.0 < i) ⊎ (i ≤ c.0) → ⊥
        none c e (inl l) = let below = past.1 c.0 l in omega (arith, below, e)
        none c e (inr g) = let above = past.2 c.0 g c.1 in omega (arith, above, e)

-- ---- ends
module _ (items : List ℕ) (number i : ℕ) (h : i < length items) (old new : List ℕ) (adds : AddsEnds (take i items) number old new) where
  pub AddsEnds-takes : (new' : List ℕ) → (get_or items i 0 ≡ number → ⊥) → new' ≡ new ++ get_or items i 0 ∷ [] → AddsEnds (take (i + 1) items) number old new'
  AddsEnds-takes new' ne is t = subst (λ (l : List ℕ). Contains l t ↔ (Contains old t ⊎ ((t ≢ number) × Contains (take (i + 1) items) t))) (sym is) (
    λ c. elim (Contains-push_cases new (get_or items i 0) t c) [
      | inl o ↦ elim ((adds t).0 o) [ inl p ↦ inl p | inr p ↦ inr (p.0, (Contains-more items i 0 t h).1 (inl p.1)) ]
      | inr e ↦ inr ((λ q. ne (e ∙ q)), (Contains-more items i 0 t h).1 (inr e))
    ],
    λ o. elim o [
      | inl p ↦ Contains-append_left new (get_or items i 0 ∷ []) t ((adds t).1 (inl p))
      | inr p ↦ elim ((Contains-more items i 0 t h).0 p.1) [
        | inl c ↦ Contains-append_left new (get_or items i 0 ∷ []) t ((adds t).1 (inr (p.0, c)))
        | inr e ↦ subst (λ k. Contains (new ++ get_or items i 0 ∷ []) k) e (Contains-push new (get_or items i 0))
      ]
    ],
  )

  pub AddsEnds-leaves : get_or items i 0 ≡ number → AddsEnds (take (i + 1) items) number old new
  AddsEnds-leaves same t = (
    λ c. elim ((adds t).0 c) [ inl p ↦ inl p | inr p ↦ inr (p.0, (Contains-more items i 0 t h).1 (inl p.1)) ],
    λ o. elim o [
      | inl p ↦ (adds t).1 (inl p)
      | inr p ↦ elim ((Contains-more items i 0 t h).0 p.1) [
        | inl c ↦ (adds t).1 (inr (p.0, c))
        | inr e ↦ absurd (p.0 (sym e ∙ same))
      ]
    ],
  )

module _ (providers : List (List ℕ)) (bindings : List ℕ) (number i : ℕ) (h : i < length bindings) (ends : List ℕ) (each : (t : ℕ) → Contains ends t ↔ IsEnd providers (take i bindings) number t) where
  pub IsEnd-more : (ends' : List ℕ) → AddsEnds (get_or providers (get_or bindings i 0) []) number ends ends' → (t : ℕ) → Contains ends' t ↔ IsEnd providers (take (i + 1) bindings) number t
  IsEnd-more ends' adds t = (
    λ c. elim ((adds t).0 c) [
      | inl o ↦ let e = (each t).0 o in (e.0, (e.1.0, (Contains-more bindings i 0 e.1.0 h).1 (inl e.1.1), e.1.2))
      | inr p ↦ (p.0, (get_or bindings i 0, (Contains-more bindings i 0 (get_or bindings i 0) h).1 (inr refl), p.1))
    ],
    λ e. elim ((Contains-more bindings i 0 e.1.0 h).0 e.1.1) [
      | inl c ↦ (adds t).1 (inl ((each t).1 (e.0, (e.1.0, c, e.1.2))))
      | inr q ↦ (adds t).1 (inr (e.0, subst (λ k. Leads providers k t) (sym q) e.1.2))
    ],
  )

  pub IsEnd-past : length providers ≤ get_or bindings i 0 → (t : ℕ) → Contains ends t ↔ IsEnd providers (take (i + 1) bindings) number t
  IsEnd-past past = IsEnd-more ends (λ t. ((λ c. inl c), λ o. elim o [ inl c ↦ c | inr p ↦ absurd (Contains-none t (subst (λ (l : List ℕ). Contains l t) (get_or_past providers (get_or bindings i 0) [] past) p.1)) ]))

pub IsEnd-same : (providers : List (List ℕ)) (bindings bindings' : List ℕ) (number t : ℕ) → ((b : ℕ) → Contains bindings' b ↔ Contains bindings b) → IsEnd providers bindings' number t ↔ IsEnd providers bindings number t
IsEnd-same providers bindings bindings' number t same = (λ e. (e.0, (e.1.0, (same e.1.0).0 e.1.1, e.1.2)), λ e. (e.0, (e.1.0, (same e.1.0).1 e.1.1, e.1.2)))

-- ---- modules
same_module-of : (o p : Option ℕ) → is_same_module o p ≡ true → (m : ℕ) × (o ≡ Some m) × (p ≡ Some m)
same_module-of (Some m) (Some n) e = (m, refl, ap (λ k. Some k) (sym (eqb-true m n e)))
same_module-of (Some m) None e = absurd (false≢true e)
same_module-of None (Some n) e = absurd (false≢true e)
same_module-of None None e = absurd (false≢true e)

owner-at : (owners : List (Option ℕ)) (s m : ℕ) → get_or owners s None ≡ Some m → slice_get owners s ≡ Some (Some m)
owner-at owners s m e = elim (cases_lt s (length owners)) [
  | inl l ↦ slice_get-get_or owners s None l ∙ ap (λ (o : Option ℕ). Some o) e
  | inr past ↦ absurd (none-some m (sym (get_or_past owners s None past) ∙ e))
]

module _ (g : Group) where
  -- both items are of one module, and t is the later one
  pub record IsLaterBeside (d t : ℕ) : Type 0 where
    pub before : d < t
    pub which : ℕ
    pub one : IsOf g d which
    pub other : IsOf g t which

  later_beside-of : (d t : ℕ) → is_later_beside g.owners d t ≡ true → IsLaterBeside d t
  later_beside-of d t e =
      let two = and_parts (ltb d t) (is_same_module (get_or g.owners d None) (get_or g.owners t None)) e in
      let same = same_module-of (get_or g.owners d None) (get_or g.owners t None) two.1 in
      record { before = ltb-true d t two.0; which = same.0; one = owner-at g.owners d same.0 same.1; other = owner-at g.owners t same.0 same.2 }

  later_beside-from : (d t m : ℕ) → d < t → IsOf g d m → IsOf g t m → is_later_beside g.owners d t ≡ true
  later_beside-from d t m l a b = and_from (ltb d t) (is_same_module (get_or g.owners d None) (get_or g.owners t None)) (lt-ltb d t l) (same (get_or g.owners d None) (get_or g.owners t None) (get_or_from_slice_get g.owners d (Some m) None a) (get_or_from_slice_get g.owners t (Some m) None b))
    where
      same : (o p : Option ℕ) → o ≡ Some m → p ≡ Some m → is_same_module o p ≡ true
      same o p e f = ap (λ x. is_same_module x p) e ∙ (ap (λ x. is_same_module (Some m) x) f ∙ eq-eqb m m refl)

  -- ---- identifiers of one binding
  module _ (b : ℕ) where
    abbrev declares_it : Seen → Bool
    declares_it one = declares_binding one && is_of b one

    abbrev fills_it : Option Seen → Seen → Bool
    fills_it first one = fills_after g.owners first one && is_of b one

    -- one is an identifier of item t
    pub record Is (t : ℕ) (one : Seen) : Type 0 where
      pub at : ℕ
      pub by : Mention
      pub there : mention_at g t at ≡ Some by
      pub denotes : by.top ≡ Some b
      pub is : one ≡ seen_of t by b

    pub Is-from : (t : ℕ) (one : Seen) (at : ℕ) (by : Mention) → t ≡ one.item → one.binding ≡ b → IsAt 0 g.items one.item at by → seen_as one.item by ≡ Some one → Is t one
    Is-from t one at by e same there gives =
        let two = seen_as-is one.item by one gives in
        record {
          at = at;
          by = by;
          there = subst (λ k. mention_at g k at ≡ Some by) (sym e) ((IsAt-mention g.items one.item at by).0 there);
          denotes = two.0 ∙ ap (λ k. Some k) same;
          is = two.1 ∙ (ap (λ k. seen_of one.item by k) same ∙ ap (λ k. seen_of k by b) (sym e));
        }

    pub Is-refers : (t : ℕ) (one : Seen) (i : Is t one) → one.declares ≡ false → Refers g t b i.by
    Is-refers t one i e = record { at = i.at; there = i.there; denotes = i.denotes; refers = ap (λ (x : Seen). x.declares) (sym i.is) ∙ e }

    Is-declares : (t : ℕ) (one : Seen) (i : Is t one) → one.declares ≡ true → DeclaresAt g t b i.at i.by
    Is-declares t one i e = record { there = i.there; denotes = i.denotes; declares = ap (λ (x : Seen). x.declares) (sym i.is) ∙ e }

    -- the other way
    pub contained : (t at : ℕ) (by : Mention) → mention_at g t at ≡ Some by → by.top ≡ Some b → Contains (seen_from 0 g.items) (seen_of t by b)
    contained t at by there denotes = Contains-at 0 g.items t at by (seen_of t by b) ((IsAt-mention g.items t at by).1 there) (seen_as-from t by b denotes)

    -- ---- the first that declares it
    module _ (d : Seen) (f : FirstSeen declares_it 0 g.items d) where
      declared : DeclaresAt g d.item b f.at f.by
      declared = record { there = (IsAt-mention g.items d.item f.at f.by).0 f.there; denotes = (seen_as-is d.item f.by d f.gives).0 ∙ ap (λ k. Some k) (eqb-true d.binding b (and_parts d.declares (eqb d.binding b) f.passes).1); declares = ap (λ (x : Seen). x.declares) (sym (seen_as-is d.item f.by d f.gives).1) ∙ (and_parts d.declares (eqb d.binding b) f.passes).0 }

      order : (u at : ℕ) (by : Mention) → DeclaresAt g u b at by → (d.item < u) ⊎ ((u ≡ d.item) × (f.at ≤ at))
      order u at by it = f.first u at by (seen_of u by b) ((IsAt-mention g.items u at by).1 it.there) (seen_as-from u by b it.denotes) (and_from by.declares (eqb b b) it.declares (eq-eqb b b refl))

      pub declares_first : DeclaresFirst g d.item b
      declares_first = record {
        declares = (f.at, f.by, declared);
        first = λ u it. elim (order u it.0 it.1 it.2) [ inl l ↦ omega (arith, l) | inr e ↦ omega (arith, e.0) ];
      }

      pub first_is : (u : ℕ) → DeclaresFirst g u b → u ≡ d.item
      first_is u it =
          let low = it.first d.item (f.at, f.by, declared) in
          let high = declares_first.first u it.declares in
          omega (arith, low, high)

      pub without_value : d.is_empty ≡ true → IsWithoutValue g d.item b
      without_value e = record {
        at = f.at;
        by = f.by;
        declares = declared;
        first = λ other its it. elim (order d.item other its it) [ inl l ↦ absurd (omega (arith, l)) | inr p ↦ p.1 ];
        no_value = ap (λ (x : Seen). x.is_empty) (sym (seen_as-is d.item f.by d f.gives).1) ∙ e;
      }

      pub is_empty_from : IsWithoutValue g d.item b → d.is_empty ≡ true
      is_empty_from w = elim (order d.item w.at w.by w.declares) [
        | inl l ↦ absurd (omega (arith, l))
        | inr p ↦
            let low = w.first f.at f.by declared in
            let same : f.at ≡ w.at = omega (arith, low, p.1) in
            let by : f.by ≡ w.by = same_Some f.by w.by (sym declared.there ∙ (ap (λ k. mention_at g d.item k) same ∙ w.declares.there)) in
            ap (λ (x : Seen). x.is_empty) (seen_as-is d.item f.by d f.gives).1 ∙ (ap (λ (m : Mention). m.valueless) by ∙ w.no_value)
      ]

      -- ---- what sets it up at once
      pub sets_up-of : (t : ℕ) (one : Seen) → Is t one → sets_up_after g.owners (Some d) one ≡ true → SetsUp g t b
      sets_up-of t one i e =
          let p = and_parts (not one.declares) (not one.is_later && (one.sets_up && is_later_beside g.owners d.item one.item)) e in
          let q = and_parts (not one.is_later) (one.sets_up && is_later_beside g.owners d.item one.item) p.1 in
          let r = and_parts one.sets_up (is_later_beside g.owners d.item one.item) q.1 in
          let beside = later_beside-of d.item t (subst (λ k. is_later_beside g.owners d.item k ≡ true) (ap (λ (x : Seen). x.item) i.is) r.1) in
          let refers = Is-refers t one i (not-true one.declares p.0) in
          let at_once : i.by.later ≡ false = ap (λ (x : Seen). x.is_later) (sym i.is) ∙ not-true one.is_later q.0 in
          record {
            which = beside.which;
            first = d.item;
            declares = declares_first;
            its = beside.one;
            same = beside.other;
            later = beside.before;
            by = elim (or_cases i.by.chain i.by.prototype (ap (λ (x : Seen). x.sets_up) (sym i.is) ∙ r.0)) [ inl c ↦ by_member i.by refers at_once c | inr c ↦ by_prototype i.by refers at_once c ];
          }

      pub sets_up-from : (t m : ℕ) (by : Mention) → Refers g t b by → by.later ≡ false → (by.chain || by.prototype) ≡ true → d.item < t → IsOf g d.item m → IsOf g t m → sets_up_after g.owners (Some d) (seen_of t by b) ≡ true
      sets_up-from t m by refers at_once sets l one other =
          and_from (not by.declares) (not by.later && ((by.chain || by.prototype) && is_later_beside g.owners d.item t)) (not_from_false by.declares refers.refers)
          (and_from (not by.later) ((by.chain || by.prototype) && is_later_beside g.owners d.item t) (not_from_false by.later at_once)
          (and_from (by.chain || by.prototype) (is_later_beside g.owners d.item t) sets (later_beside-from d.item t m l one other)))

      -- ---- what gives it a value
      pub fills-from : (t m : ℕ) (fills : Fills g t b) → d.is_empty ≡ true → d.item < t → IsOf g d.item m → IsOf g t m → fills_after g.owners (Some d) (seen_of t fills.by b) ≡ true
      fills-from t m fills empty l one other =
          and_from (not fills.by.declares) ((fills.by.assigned || fills.by.argument) && (d.is_empty && is_later_beside g.owners d.item t)) (not_from_false fills.by.declares fills.refers.refers)
          (and_from (fills.by.assigned || fills.by.argument) (d.is_empty && is_later_beside g.owners d.item t) (elim fills.fills [ inl a ↦ or_left fills.by.assigned fills.by.argument a | inr a ↦ or_right fills.by.assigned fills.by.argument a ])
          (and_from d.is_empty (is_later_beside g.owners d.item t) empty (later_beside-from d.item t m l one other)))

      -- what an identifier that gives it a value says
      pub record GivesValue (t : ℕ) : Type 0 where
        pub fills : Fills g t b
        pub empty : d.is_empty ≡ true
        pub beside : IsLaterBeside d.item t

      pub fills-of : (t : ℕ) (one : Seen) → Is t one → fills_after g.owners (Some d) one ≡ true → GivesValue t
      fills-of t one i e =
          let p = and_parts (not one.declares) (one.fills && (d.is_empty && is_later_beside g.owners d.item one.item)) e in
          let q = and_parts one.fills (d.is_empty && is_later_beside g.owners d.item one.item) p.1 in
          let r = and_parts d.is_empty (is_later_beside g.owners d.item one.item) q.1 in
          record {
            fills = record {
              by = i.by;
              refers = Is-refers t one i (not-true one.declares p.0);
              fills = or_cases i.by.assigned i.by.argument (ap (λ (x : Seen). x.fills) (sym i.is) ∙ q.0);
            };
            empty = r.0;
            beside = later_beside-of d.item t (subst (λ k. is_later_beside g.owners d.item k ≡ true) (ap (λ (x : Seen). x.item) i.is) r.1);
          }

      -- ---- the first that gives it a value
      module _ (v : Seen) (first_value : FirstSeen (fills_it (Some d)) 0 g.items v) where
        is_value : Is v.item v
        is_value = Is-from v.item v first_value.at first_value.by refl (eqb-true v.binding b (and_parts (fills_after g.owners (Some d) v) (eqb v.binding b) first_value.passes).1) first_value.there first_value.gives

        gives_value : GivesValue v.item
        gives_value = fills-of v.item v is_value (and_parts (fills_after g.owners (Some d) v) (eqb v.binding b) first_value.passes).0

        -- one that gives it a value is no earlier
        no_earlier : (t m : ℕ) → Fills g t b → d.item < t → IsOf g d.item m → IsOf g t m → v.item ≤ t
        no_earlier t m fills l one other = elim (first_value.first t fills.refers.at fills.by (seen_of t fills.by b) ((IsAt-mention g.items t fills.refers.at fills.by).1 fills.refers.there) (seen_as-from t fills.by b fills.refers.denotes) (and_from (fills_after g.owners (Some d) (seen_of t fills.by b)) (eqb b b) (fills-from t m fills gives_value.empty l one other) (eq-eqb b b refl))) [
          | inl lt ↦ omega (arith, lt)
          | inr e ↦ omega (arith, e.0)
        ]

        pub value-of : SetsUp g v.item b
        value-of = record {
          which = gives_value.beside.which;
          first = d.item;
          declares = declares_first;
          its = gives_value.beside.one;
          same = gives_value.beside.other;
          later = gives_value.beside.before;
          by = by_value (without_value gives_value.empty) gives_value.fills (λ u of_module after before fills. let low = no_earlier u gives_value.beside.which fills after gives_value.beside.one of_module in omega (arith, low, before));
        }

        pub value-is : (t m : ℕ) → Fills g t b → d.item < t → IsOf g d.item m → IsOf g t m → ((u : ℕ) → IsOf g u m → d.item < u → u < t → Fills g u b → ⊥) → v.item ≡ t
        value-is t m fills l one other none = elim (cases_lt v.item t) [
          | inl lt ↦ absurd (none v.item (subst (λ k. IsOf g v.item k) (same_Some _ _ (same_Some _ _ (sym gives_value.beside.one ∙ one))) gives_value.beside.other) gives_value.beside.before lt gives_value.fills)
          | inr ge ↦ let low = no_earlier t m fills l one other in omega (arith, ge, low)
        ]

-- ---- what is listed
module _ (g : Group) (count : ℕ) (firsts fillers : List (Option Seen)) (bound : All (λ (one : Seen). one.binding < count) (seen_from 0 g.items)) (firsts_each : (b : ℕ) → b < count → get_or firsts b None ≡ find (is_of b) (filter declares_binding (seen_from 0 g.items))) (fillers_each : (b : ℕ) → b < count → get_or fillers b None ≡ find (is_of b) (filter (λ one. fills_after g.owners (known_of firsts one) one) (seen_from 0 g.items))) where
  abbrev all : List Seen
  all = seen_from 0 g.items

  -- an identifier says that item t declares b or sets it up
  abbrev Tells : (b t : ℕ) → Option Seen → Option Seen → Type 0
  Tells b t o p = (at : ℕ) × (by : Mention) × (mention_at g t at ≡ Some by) × (by.top ≡ Some b) × (provides g.owners o p (seen_of t by b) ≡ true)

  module _ (b : ℕ) where
    first_found : b < count → get_or firsts b None ≡ find (declares_it g b) all
    first_found l = firsts_each b l ∙ find-filter (is_of b) declares_binding all

    filler_found : b < count → get_or fillers b None ≡ find (fills_it g b (get_or firsts b None)) all
    filler_found l = fillers_each b l ∙ (find-filter (is_of b) (λ one. fills_after g.owners (known_of firsts one) one) all ∙ find_agree (λ one. fills_after g.owners (known_of firsts one) one && is_of b one) (fills_it g b (get_or firsts b None)) agree all)
      where
        agree : (one : Seen) → (fills_after g.owners (get_or firsts one.binding None) one && eqb one.binding b) ≡ (fills_after g.owners (get_or firsts b None) one && eqb one.binding b)
        agree one = elim (cases_eq one.binding b) [
          | inl e ↦ ap (λ k. fills_after g.owners (get_or firsts k None) one && eqb one.binding b) e
          | inr ne ↦ and_right (fills_after g.owners (get_or firsts one.binding None) one) (eqb one.binding b) (ne_eqb one.binding b ne) ∙ sym (and_right (fills_after g.owners (get_or firsts b None) one) (eqb one.binding b) (ne_eqb one.binding b ne))
        ]

    -- what says so is right
    sound : (t : ℕ) (one : Seen) (o p : Option Seen) → Is g b t one → o ≡ find (declares_it g b) all → p ≡ find (fills_it g b o) all → provides g.owners o p one ≡ true → Provides g t b
    sound t one o p i e f true' = elim (or_cases one.declares (sets_up_after g.owners o one || is_beside p one) true') [
      | inl d ↦ inl (i.at, i.by, Is-declares g b t one i d)
      | inr r ↦ inr (elim (or_cases (sets_up_after g.owners o one) (is_beside p one) r) [ inl s ↦ at_once o e s | inr v ↦ by_filler o p e f v ])
    ]
      where
        at_once : (x : Option Seen) → x ≡ find (declares_it g b) all → sets_up_after g.owners x one ≡ true → SetsUp g t b
        at_once None h s = absurd (false≢true s)
        at_once (Some d) h s = sets_up-of g b d ((seen_first (declares_it g b) 0 g.items).1 d (sym h)) t one i s

        by_filler : (x y : Option Seen) → x ≡ find (declares_it g b) all → y ≡ find (fills_it g b x) all → is_beside y one ≡ true → SetsUp g t b
        by_filler x None h k s = absurd (false≢true s)
        by_filler None (Some v) h k s = absurd (false≢true ((seen_first (fills_it g b None) 0 g.items).1 v (sym k)).passes)
        by_filler (Some d) (Some v) h k s = subst (λ n. SetsUp g n b) (eqb-true v.item one.item s ∙ ap (λ (x : Seen). x.item) i.is) (value-of g b d ((seen_first (declares_it g b) 0 g.items).1 d (sym h)) v ((seen_first (fills_it g b (Some d)) 0 g.items).1 v (sym k)))

    -- what sets it up says so
    module _ (t : ℕ) (s : SetsUp g t b) (d : Seen) (f : FirstSeen (declares_it g b) 0 g.items d) where
      same : s.first ≡ d.item
      same = first_is g b d f s.first s.declares

      after : d.item < t
      after = subst (λ k. k < t) same s.later

      its : IsOf g d.item s.which
      its = subst (λ k. IsOf g k s.which) same s.its

      at_once : (p : Option Seen) (by : Mention) → Refers g t b by → by.later ≡ false → (by.chain || by.prototype) ≡ true → Tells b t (Some d) p
      at_once p by r l c = (r.at, by, r.there, r.denotes, or_right by.declares (sets_up_after g.owners (Some d) (seen_of t by b) || is_beside p (seen_of t by b)) (or_left (sets_up_after g.owners (Some d) (seen_of t by b)) (is_beside p (seen_of t by b)) (sets_up-from g b d f t s.which by r l c after its s.same)))

      by_filler : (p : Option Seen) → p ≡ find (fills_it g b (Some d)) all → IsWithoutValue g s.first b → (fills : Fills g t b) → ((u : ℕ) → IsOf g u s.which → s.first < u → u < t → Fills g u b → ⊥) → Tells b t (Some d) p
      by_filler p e w fills none = (fills.refers.at, fills.by, fills.refers.there, fills.refers.denotes, or_right fills.by.declares (sets_up_after g.owners (Some d) (seen_of t fills.by b) || is_beside p (seen_of t fills.by b)) (or_right (sets_up_after g.owners (Some d) (seen_of t fills.by b)) (is_beside p (seen_of t fills.by b)) (at p e)))
        where
          empty : d.is_empty ≡ true
          empty = is_empty_from g b d f (subst (λ k. IsWithoutValue g k b) same w)

          passes : fills_it g b (Some d) (seen_of t fills.by b) ≡ true
          passes = and_from (fills_after g.owners (Some d) (seen_of t fills.by b)) (eqb b b) (fills-from g b d f t s.which fills empty after its s.same) (eq-eqb b b refl)

          at : (q : Option Seen) → q ≡ find (fills_it g b (Some d)) all → is_beside q (seen_of t fills.by b) ≡ true
          at None h = absurd ((seen_first (fills_it g b (Some d)) 0 g.items).0 (sym h) t fills.refers.at fills.by (seen_of t fills.by b) ((IsAt-mention g.items t fills.refers.at fills.by).1 fills.refers.there) (seen_as-from t fills.by b fills.refers.denotes) passes)
          at (Some v) h = eq-eqb v.item t (value-is g b d f v ((seen_first (fills_it g b (Some d)) 0 g.items).1 v (sym h)) t s.which fills after its s.same (subst (λ k. (u : ℕ) → IsOf g u s.which → k < u → u < t → Fills g u b → ⊥) same none))

      by_way : (p : Option Seen) → p ≡ find (fills_it g b (Some d)) all → SetsUpBy g s.which s.first t b → Tells b t (Some d) p
      by_way p e (by_member by r l c) = at_once p by r l (or_left by.chain by.prototype c)
      by_way p e (by_prototype by r l c) = at_once p by r l (or_right by.chain by.prototype c)
      by_way p e (by_value w fills none) = by_filler p e w fills none

    complete : (t : ℕ) (o p : Option Seen) → o ≡ find (declares_it g b) all → p ≡ find (fills_it g b o) all → Provides g t b → Tells b t o p
    complete t o p e f (inl (at, by, it)) = (at, by, it.there, it.denotes, or_left by.declares (sets_up_after g.owners o (seen_of t by b) || is_beside p (seen_of t by b)) it.declares)
    complete t None p e f (inr s) =
        let it = s.declares.declares.2 in
        absurd ((seen_first (declares_it g b) 0 g.items).0 (sym e) s.first s.declares.declares.0 s.declares.declares.1 (seen_of s.first s.declares.declares.1 b) ((IsAt-mention g.items s.first s.declares.declares.0 s.declares.declares.1).1 it.there) (seen_as-from s.first s.declares.declares.1 b it.denotes) (and_from s.declares.declares.1.declares (eqb b b) it.declares (eq-eqb b b refl)))
    complete t (Some d) p e f (inr s) = by_way t s d ((seen_first (declares_it g b) 0 g.items).1 d (sym e)) p f s.by

    within : (t : ℕ) → Provides g t b → b < count
    within t (inl (at, by, it)) = All-contains (λ (one : Seen). one.binding < count) all (seen_of t by b) bound (contained g b t at by it.there it.denotes)
    within t (inr s) = let it = s.declares.declares.2 in All-contains (λ (one : Seen). one.binding < count) all (seen_of s.first s.declares.declares.1 b) bound (contained g b s.first s.declares.declares.0 s.declares.declares.1 it.there it.denotes)

  abbrev test : Seen → Bool
  test one = provides g.owners (known_of firsts one) (known_of fillers one) one

  pub providers-exact : (rows : List (List ℕ)) → ((s t : ℕ) → Leads rows s t ↔ ((s < count) × Contains (map binding_and_item (filter (λ one. provides g.owners (known_of firsts one) (known_of fillers one) one) (seen_from 0 g.items))) (s, t))) → (b t : ℕ) → Leads rows b t ↔ Provides g t b
  providers-exact rows each b t = (forth, back)
    where
      forth : Leads rows b t → Provides g t b
      forth c =
          let p = (each b t).0 c in
          let given = (Contains-map_filter binding_and_item test all (b, t)).0 p.1 in
          let one = given.0 in
          let same : one.binding ≡ b = ap (λ (x : ℕ × ℕ). x.0) given.3 in
          let item : one.item ≡ t = ap (λ (x : ℕ × ℕ). x.1) given.3 in
          let stands = Stands-contained 0 g.items one given.1 in
          sound b t one (get_or firsts b None) (get_or fillers b None) (Is-from g b t one stands.at stands.by (sym item) same stands.there stands.gives) (first_found b p.0) (filler_found b p.0) (subst (λ k. provides g.owners (get_or firsts k None) (get_or fillers k None) one ≡ true) same given.2)

      back : Provides g t b → Leads rows b t
      back h =
          let l = within b t h in
          let tells = complete b t (get_or firsts b None) (get_or fillers b None) (first_found b l) (filler_found b l) h in
          (each b t).1 (l, (Contains-map_filter binding_and_item test all (b, t)).1 (seen_of t tells.1 b, contained g b t tells.0 tells.1 tells.2 tells.3, tells.4, refl))
