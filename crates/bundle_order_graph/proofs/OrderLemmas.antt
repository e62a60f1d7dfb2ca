-- The depth-first post-order: that it is one list, what it has, and how a stack makes it.
use Rattle.std.proofs.Common.{◌≡◌, Bool, true, false, not, nat_eq, ℕ, ◌+◌, ◌<◌, ◌≤◌, ◌⊎◌, ◌↔◌, List, [], ◌∷◌, ◌++◌, length, get_or, drop, map, reverse, Contains, refl, sym, ap, ◌∙◌, subst, inl, inr, arith}
use Rattle.std.specs.List.{list_any, IsDistinct}
use Rattle.std.proofs.lemmas.Bool.{false≢true}
use Rattle.std.proofs.lemmas.List.{append_assoc, reverse-append, drop_more, drop_all}
use Rattle.std.proofs.lemmas.List.Elements.{Contains-append_left, Contains-append_right, Contains-append_cases, Contains-push, Contains-push_cases}
use Rattle.std.proofs.lemmas.Map.Keys.{IsDistinct-push, IsDistinct-from_apart}
use Rattle.std.proofs.lemmas.Cmp.{nat_eq_equiv}
use Rattle.bundle_order_graph.proofs.NodeLemmas.{Contains-place, place-in, place-contains, added-in, added-out, found}
use Rattle.bundle_order_graph.specs.Nodes.{added}
use Rattle.bundle_order_graph.specs.Walks.{Reaches, itself, along}
use Rattle.bundle_order_graph.specs.Modules.{Modules, deps, Requests}
use Rattle.bundle_order_graph.specs.Order.{Lists, finished, passed, listed, IsOrder}
use Rattle.bundle_order_graph.specs.declared.graph.Visit.{Visit}

-- ---- what a list with one more element at its head has
pub Contains-head : (xs : List ℕ) (n : ℕ) → Contains (n ∷ xs) n
Contains-head xs n = Contains-append_left (n ∷ []) xs n (Contains-push [] n)

pub Contains-tail : (xs : List ℕ) (n y : ℕ) → Contains xs y → Contains (n ∷ xs) y
Contains-tail xs n y h = Contains-append_right (n ∷ []) xs y h

nothing_in : (y : ℕ) → Contains [] y → ⊥
nothing_in y c = omega (arith, c.1)

pub Contains-cons_cases : (xs : List ℕ) (n y : ℕ) → Contains (n ∷ xs) y → (n ≡ y) ⊎ Contains xs y
Contains-cons_cases xs n y h = elim (Contains-append_cases (n ∷ []) xs y h) [
  | inl a ↦ elim (Contains-push_cases [] n y a) [ inl void ↦ absurd (nothing_in y void) | inr e ↦ inl e ]
  | inr b ↦ inr b
]

-- ---- the relation
-- it makes one list
pub Lists-only : {r : ℕ → List ℕ} {begun done todo x y : List ℕ} → Lists r begun done todo x → Lists r begun done todo y → y ≡ x
Lists-only finished finished = refl
Lists-only (passed c p) (passed d q) = Lists-only p q
Lists-only (passed c p) (listed void a q) = absurd (void c)
Lists-only (listed void a p) (passed c q) = absurd (void c)
Lists-only {r} (listed {begun} {done} {before} {todo} {all} {n} void a p) (listed {begun = begun'} {before = before'} {all = all'} void' a' q) =
    Lists-only p (subst (λ (b : List ℕ). Lists r begun (b ++ n ∷ []) todo all') (Lists-only a a') q)

-- what was listed stays
pub Lists-keeps : {r : ℕ → List ℕ} {begun done todo all : List ℕ} → Lists r begun done todo all → (x : ℕ) → Contains done x → Contains all x
Lists-keeps finished x h = h
Lists-keeps (passed c p) x h = Lists-keeps p x h
Lists-keeps (listed {before} {n} void a p) x h = Lists-keeps p x (Contains-append_left before (n ∷ []) x (Lists-keeps a x h))

-- what was to be listed is listed, or had been begun
pub Lists-takes : {r : ℕ → List ℕ} {begun done todo all : List ℕ} → Lists r begun done todo all → (x : ℕ) → Contains todo x → Contains (begun ++ all) x
Lists-takes finished x h = absurd (nothing_in x h)
Lists-takes (passed {begun} {done} {todo} {all} {n} c p) x h = elim (Contains-cons_cases todo n x h) [
  | inl e ↦ subst (λ y. Contains (begun ++ all) y) e (elim (Contains-append_cases begun done n c) [ inl b ↦ Contains-append_left begun all n b | inr d ↦ Contains-append_right begun all n (Lists-keeps p n d) ])
  | inr t ↦ Lists-takes p x t
]
Lists-takes (listed {begun} {done} {before} {todo} {all} {n} void a p) x h = elim (Contains-cons_cases todo n x h) [
  | inl e ↦ subst (λ y. Contains (begun ++ all) y) e (Contains-append_right begun all n (Lists-keeps p n (Contains-push before n)))
  | inr t ↦ Lists-takes p x t
]

-- what listed nodes request is listed, or had been begun
abbrev pub IsClosedUnder : (ℕ → List ℕ) → List ℕ → List ℕ → Type 0
IsClosedUnder r begun done = (x y : ℕ) → Contains done x → Contains (r x) y → Contains (begun ++ done) y

to_front : (begun before : List ℕ) (n y : ℕ) → Contains (n ∷ (begun ++ before)) y → Contains (begun ++ (before ++ n ∷ [])) y
to_front begun before n y h = subst (λ (l : List ℕ). Contains l y) (append_assoc begun before (n ∷ [])) (elim (Contains-cons_cases (begun ++ before) n y h) [
  | inl e ↦ subst (λ z. Contains ((begun ++ before) ++ n ∷ []) z) e (Contains-push (begun ++ before) n)
  | inr t ↦ Contains-append_left (begun ++ before) (n ∷ []) y t
])

pub Lists-closed : {r : ℕ → List ℕ} {begun done todo all : List ℕ} → Lists r begun done todo all → IsClosedUnder r begun done → IsClosedUnder r begun all
Lists-closed finished h = h
Lists-closed (passed c p) h = Lists-closed p h
Lists-closed {r} (listed {begun} {done} {before} {todo} {all} {n} void a p) h =
    let inner = Lists-closed a (λ x y d e. Contains-tail (begun ++ done) n y (h x y d e)) in
    Lists-closed p (λ x y d e. elim (Contains-push_cases before n x d) [
      | inl b ↦ to_front begun before n y (inner x y b e)
      | inr same ↦ to_front begun before n y (Lists-takes a y (subst (λ z. Contains (r z) y) (sym same) e))
    ])

-- what is listed is reached from what was to be listed
pub Lists-sound : {r : ℕ → List ℕ} {begun done todo all : List ℕ} → Lists r begun done todo all → (x : ℕ) → Contains all x → Contains done x ⊎ ((t : ℕ) × Contains todo t × Reaches (λ a b. Contains (r a) b) t x)
Lists-sound finished x h = inl h
Lists-sound (passed {todo} {n} c p) x h = elim (Lists-sound p x h) [ inl d ↦ inl d | inr w ↦ inr (w.0, Contains-tail todo n w.0 w.1, w.2) ]
Lists-sound {r} (listed {before} {todo} {n} void a p) x h = elim (Lists-sound p x h) [
  | inl d ↦ elim (Contains-push_cases before n x d) [
    | inl b ↦ elim (Lists-sound a x b) [ inl old ↦ inl old | inr w ↦ inr (n, Contains-head todo n, along w.1 w.2) ]
    | inr e ↦ inr (n, Contains-head todo n, subst (λ y. Reaches (λ a b. Contains (r a) b) n y) e itself)
  ]
  | inr w ↦ inr (w.0, Contains-tail todo n w.0 w.1, w.2)
]

-- no node is listed twice, nor one that had been begun
pub record Apart (begun done : List ℕ) : Type 0 where
  pub once : IsDistinct nat_eq done
  pub other : (x : ℕ) → Contains begun x → Contains done x → ⊥

pub absent : (xs : List ℕ) (n : ℕ) → (Contains xs n → ⊥) → list_any (nat_eq n) xs ≡ false
absent xs n void = by (list_any (nat_eq n) xs) refl
  where
    by : (b : Bool) → list_any (nat_eq n) xs ≡ b → list_any (nat_eq n) xs ≡ false
    by true e = absurd (void (Contains-place xs n (place-in xs n e)))
    by false e = e

pub Lists-apart : {r : ℕ → List ℕ} {begun done todo all : List ℕ} → Lists r begun done todo all → Apart begun done → Apart begun all
Lists-apart finished h = h
Lists-apart (passed c p) h = Lists-apart p h
Lists-apart (listed {begun} {done} {before} {todo} {all} {n} void a p) h =
    let inner = Lists-apart a (record { once = h.once; other = λ x b d. elim (Contains-cons_cases begun n x b) [ inl e ↦ void (Contains-append_right begun done n (subst (λ y. Contains done y) (sym e) d)) | inr t ↦ h.other x t d ] }) in
    Lists-apart p (record {
      once = IsDistinct-push nat_eq_equiv before n inner.once (absent before n (λ b. inner.other n (Contains-head begun n) b));
      other = λ x b d. elim (Contains-push_cases before n x d) [ inl q ↦ inner.other x (Contains-tail begun n x b) q | inr e ↦ void (Contains-append_left begun done n (subst (λ y. Contains begun y) (sym e) b)) ];
    })

-- ---- the order
reached_in : {E : ℕ → ℕ → Type 0} {a b : ℕ} (all : List ℕ) → ((x y : ℕ) → Contains all x → E x y → Contains all y) → Reaches E a b → Contains all a → Contains all b
reached_in all closed itself h = h
reached_in all closed (along {a} {b} e p) h = reached_in all closed p (closed a b h e)

pub IsOrder-from_lists : (g : Modules) (entry : ℕ) (all : List ℕ) → Lists (deps g) [] [] (entry ∷ []) all → IsOrder g entry all
IsOrder-from_lists g entry all made = record {
  made = made;
  only = λ other h. Lists-only made h;
  reached = λ n. (
    λ h. elim (Lists-sound made n h) [ inl void ↦ absurd (nothing_in n void) | inr w ↦ elim (Contains-cons_cases [] entry w.0 w.1) [ inl e ↦ subst (λ x. Reaches (Requests g) x n) (sym e) w.2 | inr void ↦ absurd (nothing_in w.0 void) ] ],
    λ r. reached_in all (Lists-closed made (λ x y void e. absurd (nothing_in x void))) r (Lists-takes made entry (Contains-head [] entry)),
  );
  once = (Lists-apart made (record { once = IsDistinct-from_apart nat_eq [] (λ i j d h k. absurd (omega (arith, k))); other = λ x void. absurd (nothing_in x void) })).once;
}

-- ---- a stack of modules that are begun, the last one first
abbrev pub names : List Visit → List ℕ
names stack = map (λ v. v.id) stack

-- to list what is left of each of the stack, and then the module itself, makes the list
abbrev pub Finishes : (ℕ → List ℕ) → List Visit → List ℕ → List ℕ → Type 0
Finishes r [] done all = all ≡ done
Finishes r (v ∷ vs) done all = (before : List ℕ) × Lists r (v.id ∷ names vs) done (drop v.next (r v.id)) before × Finishes r vs (before ++ v.id ∷ []) all

-- the walk from the entry has come this far
pub record Walking (r : ℕ → List ℕ) (entry : ℕ) (stack : List Visit) (done seen : List ℕ) : Type 0 where
  pub made : (all : List ℕ) → Finishes r stack done all → Lists r [] [] (entry ∷ []) all
  pub known : (x : ℕ) → Contains seen x ↔ Contains (names stack ++ done) x

module _ (r : ℕ → List ℕ) (entry : ℕ) where
  pub Walking-start : Walking r entry (record { id = entry; next = 0 } ∷ []) [] (entry ∷ [])
  Walking-start = record {
    made = λ all f. subst (λ (l : List ℕ). Lists r [] [] (entry ∷ []) l) (sym f.2) (listed (nothing_in entry) f.1 finished);
    known = λ x. (λ h. h, λ h. h);
  }

  pub Walking-ends : (done seen : List ℕ) → Walking r entry [] done seen → Lists r [] [] (entry ∷ []) done
  Walking-ends done seen w = w.made done refl

  module _ (v : Visit) (stack : List Visit) (done seen : List ℕ) (w : Walking r entry (v ∷ stack) done seen) where
    -- a module with nothing left is listed
    pub Walking-lists : length (r v.id) ≤ v.next → Walking r entry stack (done ++ v.id ∷ []) seen
    Walking-lists past = record {
      made = λ all f. w.made all (done, subst (λ (l : List ℕ). Lists r (v.id ∷ names stack) done l done) (sym (drop_all v.next (r v.id) past)) finished, f);
      known = λ x. (λ h. to_front (names stack) done v.id x ((w.known x).0 h), λ h. (w.known x).1 (back x h));
    }
      where
        back : (x : ℕ) → Contains (names stack ++ (done ++ v.id ∷ [])) x → Contains (v.id ∷ (names stack ++ done)) x
        back x h = elim (Contains-append_cases (names stack) (done ++ v.id ∷ []) x h) [
          | inl b ↦ Contains-tail (names stack ++ done) v.id x (Contains-append_left (names stack) done x b)
          | inr d ↦ elim (Contains-push_cases done v.id x d) [ inl o ↦ Contains-tail (names stack ++ done) v.id x (Contains-append_right (names stack) done x o) | inr e ↦ subst (λ y. Contains (v.id ∷ (names stack ++ done)) y) e (Contains-head (names stack ++ done) v.id) ]
        ]

    module _ (c : ℕ) (within : v.next < length (r v.id)) (read : c ≡ get_or (r v.id) v.next 0) (later : Visit) (same : later ≡ record { id = v.id; next = v.next + 1 }) where
      left : drop v.next (r v.id) ≡ c ∷ drop (v.next + 1) (r v.id)
      left = drop_more (r v.id) v.next 0 within ∙ ap (λ x. x ∷ drop (v.next + 1) (r v.id)) (sym read)

      -- a dependency that was seen is passed over
      pub Walking-passes : Contains seen c → Walking r entry (later ∷ stack) done seen
      Walking-passes was = subst (λ u. Walking r entry (u ∷ stack) done seen) (sym same) (record {
        made = λ all f. w.made all (f.0, subst (λ (l : List ℕ). Lists r (v.id ∷ names stack) done l f.0) (sym left) (passed ((w.known c).0 was) f.1), f.2);
        known = w.known;
      })

      -- a new one is begun
      pub Walking-begins : (Contains seen c → ⊥) → (first : Visit) → first ≡ record { id = c; next = 0 } → Walking r entry (first ∷ (later ∷ stack)) done (seen ++ c ∷ [])
      Walking-begins new first is = subst (λ u. Walking r entry (u ∷ (later ∷ stack)) done (seen ++ c ∷ [])) (sym is) (subst (λ u. Walking r entry (record { id = c; next = 0 } ∷ (u ∷ stack)) done (seen ++ c ∷ [])) (sym same) (record {
        made = λ all f. w.made all (f.2.0, subst (λ (l : List ℕ). Lists r (v.id ∷ names stack) done l f.2.0) (sym left) (listed (λ h. new ((w.known c).1 h)) f.1 f.2.1), f.2.2);
        known = λ x. (
          λ h. elim (Contains-push_cases seen c x h) [ inl o ↦ Contains-tail (v.id ∷ (names stack ++ done)) c x ((w.known x).0 o) | inr e ↦ subst (λ y. Contains (c ∷ (v.id ∷ (names stack ++ done))) y) e (Contains-head (v.id ∷ (names stack ++ done)) c) ],
          λ h. elim (Contains-cons_cases (v.id ∷ (names stack ++ done)) c x h) [ inl e ↦ subst (λ y. Contains (seen ++ c ∷ []) y) e (Contains-push seen c) | inr t ↦ Contains-append_left seen (c ∷ []) x ((w.known x).1 t) ],
        );
      }))

-- ---- the same, for a stack with the last one at the end
top_first : (stack rest : List Visit) (v : Visit) → stack ≡ rest ++ v ∷ [] → reverse stack ≡ v ∷ reverse rest
top_first stack rest v e = ap reverse e ∙ reverse-append rest (v ∷ [])

module _ (r : ℕ → List ℕ) (entry : ℕ) (stack rest : List Visit) (v : Visit) (done seen : List ℕ) (w : Walking r entry (reverse stack) done seen) (top : stack ≡ rest ++ v ∷ []) where
  walking : Walking r entry (v ∷ reverse rest) done seen
  walking = subst (λ (l : List Visit). Walking r entry l done seen) (top_first stack rest v top) w

  pub order-lists : length (r v.id) ≤ v.next → (all : List ℕ) → all ≡ done ++ v.id ∷ [] → Walking r entry (reverse rest) all seen
  order-lists past all e = subst (λ (l : List ℕ). Walking r entry (reverse rest) l seen) (sym e) (Walking-lists r entry v (reverse rest) done seen walking past)

  module _ (c : ℕ) (within : v.next < length (r v.id)) (read : c ≡ get_or (r v.id) v.next 0) (later : Visit) (same : later ≡ record { id = v.id; next = v.next + 1 }) (stack' : List Visit) (back : stack' ≡ rest ++ later ∷ []) where
    pub order-passes : list_any (nat_eq c) seen ≡ true → (now : List ℕ) → now ≡ added seen c → Walking r entry (reverse stack') done now
    order-passes there now e = subst (λ (l : List Visit). Walking r entry l done now) (sym (top_first stack' rest later back))
        (subst (λ (l : List ℕ). Walking r entry (later ∷ reverse rest) done l) (sym (e ∙ added-in seen c there)) (Walking-passes r entry v (reverse rest) done seen walking c within read later same (Contains-place seen c (place-in seen c there))))

    pub order-begins : list_any (nat_eq c) seen ≡ false → (first : Visit) → first ≡ record { id = c; next = 0 } → (stack'' : List Visit) → stack'' ≡ stack' ++ first ∷ [] → (now : List ℕ) → now ≡ added seen c → Walking r entry (reverse stack'') done now
    order-begins new first is stack'' push now e = subst (λ (l : List Visit). Walking r entry l done now) (sym (top_first stack'' stack' first push ∙ ap (λ (l : List Visit). first ∷ l) (top_first stack' rest later back)))
        (subst (λ (l : List ℕ). Walking r entry (first ∷ (later ∷ reverse rest)) done l) (sym (e ∙ added-out seen c new)) (Walking-begins r entry v (reverse rest) done seen walking c within read later same (λ h. false≢true (sym new ∙ found seen c (place-contains seen c h))) first is))

pub order-starts : (r : ℕ → List ℕ) (entry : ℕ) (first : Visit) → first ≡ record { id = entry; next = 0 } → (stack : List Visit) → stack ≡ first ∷ [] → (seen : List ℕ) → seen ≡ entry ∷ [] → (done : List ℕ) → done ≡ [] → Walking r entry (reverse stack) done seen
order-starts r entry first is stack e seen f done d = subst (λ (l : List Visit). Walking r entry (reverse l) done seen) (sym e) (subst (λ (l : List ℕ). Walking r entry (first ∷ []) done l) (sym f) (subst (λ (l : List ℕ). Walking r entry (first ∷ []) l (entry ∷ [])) (sym d) (subst (λ u. Walking r entry (u ∷ []) [] (entry ∷ [])) (sym is) (Walking-start r entry))))

pub not-true : (b : Bool) → not b ≡ true → b ≡ false
not-true true e = sym e
not-true false e = refl

pub not-false : (b : Bool) → not b ≡ false → b ≡ true
not-false true e = refl
not-false false e = sym e
