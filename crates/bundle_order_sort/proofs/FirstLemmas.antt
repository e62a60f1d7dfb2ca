-- The first so many items go out as they are numbered, where no path of steps leads from one of them to itself or to a
-- later one of them: of these none is put above another.
use Rattle.std.proofs.Common.{◌≡◌, ℕ, zero, suc, ◌+◌, ◌-◌, ◌<◌, ◌≤◌, ◌⊎◌, List, length, get_or, sym, ap, ◌∙◌, subst, inl, inr, arith}
use Rattle.std.proofs.lemmas.Bool.{cases_lt}
use Rattle.bundle_order_graph.specs.Walks.{Path, IsSettled}
use Rattle.bundle_order_graph.proofs.WalkLemmas.{Path-trans}
use Rattle.bundle_order_sort.specs.Topmost.{IsTopmost}

module _ (E : ℕ → ℕ → Type 0) where
  -- the entries of the first so many items fall towards the top, none of them is out, and what is above one up to the next is reached from it
  pub record Stands (bound : ℕ) (Out : ℕ → Type 0) (stack : List ℕ) : Type 0 where
    pub falls : (i j : ℕ) → i < j → j < length stack → get_or stack i 0 < bound → get_or stack j 0 < bound → get_or stack j 0 < get_or stack i 0
    pub left : (i : ℕ) → i < length stack → get_or stack i 0 < bound → Out (get_or stack i 0) → ⊥
    pub reached : (i j : ℕ) → i < j → j < length stack → get_or stack i 0 < bound → Path E (get_or stack i 0) (get_or stack j 0) ⊎ ((m : ℕ) × (i < m) × (m ≤ j) × (get_or stack m 0 < bound))

  -- all items, the lowest on top
  pub Stands-starts : (bound count : ℕ) (Out : ℕ → Type 0) (stack : List ℕ) → length stack ≡ count → ((k : ℕ) → k < count → get_or stack k 0 ≡ count - 1 - k) → ((t : ℕ) → Out t → ⊥) → Stands bound Out stack
  Stands-starts bound count Out stack len each none = record {
    falls = λ i j h l a b. lower i j h l;
    left = λ i h a o. none (get_or stack i 0) o;
    reached = λ i j h l a. inr (j, h, omega arith, omega (arith, lower i j h l, a));
  }
    where
      lower : (i j : ℕ) → i < j → j < length stack → get_or stack j 0 < get_or stack i 0
      lower i j h l = omega (arith, each i (omega (arith, h, l, len)), each j (omega (arith, l, len)), h, l, len)

  -- some of what is on top is taken off, and others of it go out
  pub Stands-less : (bound : ℕ) (Out Out' : ℕ → Type 0) (stack rest : List ℕ) → Stands bound Out stack → length rest ≤ length stack → ((k : ℕ) → k < length rest → get_or rest k 0 ≡ get_or stack k 0) → ((k : ℕ) → k < length rest → get_or stack k 0 < bound → Out' (get_or stack k 0) → Out (get_or stack k 0)) → Stands bound Out' rest
  Stands-less bound Out Out' stack rest w short same outs = record {
    falls = λ i j h l a b.
        let i-in : i < length rest = omega (arith, h, l) in
        let ei = same i i-in in
        let ej = same j l in
        subst (λ x. x < get_or rest i 0) (sym ej) (subst (λ x. get_or stack j 0 < x) (sym ei) (w.falls i j h (omega (arith, l, short)) (subst (λ x. x < bound) ei a) (subst (λ x. x < bound) ej b)));
    left = λ i h a o.
        let e = same i h in
        let low : get_or stack i 0 < bound = subst (λ x. x < bound) e a in
        w.left i (omega (arith, h, short)) low (outs i h low (subst Out' e o));
    reached = λ i j h l a.
        let i-in : i < length rest = omega (arith, h, l) in
        let ei = same i i-in in
        elim (w.reached i j h (omega (arith, l, short)) (subst (λ x. x < bound) ei a)) [
          | inl p ↦ inl (subst (λ x. Path E x (get_or rest j 0)) (sym ei) (subst (λ x. Path E (get_or stack i 0) x) (sym (same j l)) p))
          | inr m ↦ inr (m.0, m.1, m.2, subst (λ x. x < bound) (sym (same m.0 (omega (arith, m.2, l)))) m.3)
        ];
  }

  module _ (bound : ℕ) (Out : ℕ → Type 0) (stack : List ℕ) (w : Stands bound Out stack) where
    -- the topmost entry of the first so many, from an entry on
    abbrev Topmost : ℕ → Type 0
    Topmost i = (m : ℕ) × (i ≤ m) × (m < length stack) × (get_or stack m 0 < bound) × ((m + 1 ≡ length stack) ⊎ Path E (get_or stack m 0) (get_or stack (length stack - 1) 0))

    topmost : (fuel i : ℕ) → i < length stack → length stack ≤ i + fuel → get_or stack i 0 < bound → Topmost i
    topmost zero i h f a = absurd (omega (arith, h, f))
    topmost (suc fuel) i h f a = by (λ j k g b. topmost fuel j k g b) (cases_lt (i + 1) (length stack))
      where
        by : ((j : ℕ) → j < length stack → length stack ≤ j + fuel → get_or stack j 0 < bound → Topmost j) → (i + 1 < length stack) ⊎ (length stack ≤ i + 1) → Topmost i
        by on (inr g) = (i, omega arith, h, a, inl (omega (arith, h, g)))
        by on (inl l) = elim (w.reached i (length stack - 1) (omega (arith, l)) (omega (arith, h)) a) [
          | inl p ↦ (i, omega arith, h, a, inr p)
          | inr m ↦ let more = on m.0 (omega (arith, m.2, h)) (omega (arith, m.1, f)) m.3 in (more.0, omega (arith, more.1, m.1), more.2, more.3, more.4)
        ]

    -- what is put on top is reached from the top, not out, and on the stack already; so it is none of the first so many
    module _ (settled : IsSettled E bound) (some : 0 < length stack) (next : List ℕ) (long : length stack ≤ length next) (old : (k : ℕ) → k < length stack → get_or next k 0 ≡ get_or stack k 0) (new : (k : ℕ) → length stack ≤ k → k < length next → Path E (get_or stack (length stack - 1) 0) (get_or next k 0)) (there : (k : ℕ) → length stack ≤ k → k < length next → (i : ℕ) × (i < length stack) × (get_or stack i 0 ≡ get_or next k 0)) where
      none-new : (k : ℕ) → length stack ≤ k → k < length next → get_or next k 0 < bound → ⊥
      none-new k g h low = by m.4
        where
          at : (i : ℕ) × (i < length stack) × (get_or stack i 0 ≡ get_or next k 0)
          at = there k g h

          low' : get_or stack at.0 0 < bound
          low' = subst (λ x. x < bound) (sym at.2) low

          m : Topmost at.0
          m = topmost (length stack) at.0 at.1 (omega arith) low'

          below : (at.0 < m.0) ⊎ (m.0 ≤ at.0) → get_or stack m.0 0 ≤ get_or next k 0
          below (inl l) = omega (arith, w.falls at.0 m.0 l m.2 low' m.3, at.2)
          below (inr e) = let same : m.0 ≡ at.0 = omega (arith, e, m.1) in omega (arith, ap (λ i. get_or stack i 0) same, at.2)

          ends : Path E (get_or stack m.0 0) (get_or next k 0) → ⊥
          ends p = omega (arith, settled (get_or stack m.0 0) (get_or next k 0) m.3 low p, below (cases_lt at.0 m.0))

          by : (m.0 + 1 ≡ length stack) ⊎ Path E (get_or stack m.0 0) (get_or stack (length stack - 1) 0) → ⊥
          by (inl e) = let same : length stack - 1 ≡ m.0 = omega (arith, e) in ends (subst (λ i. Path E (get_or stack i 0) (get_or next k 0)) same (new k g h))
          by (inr p) = ends (Path-trans p (new k g h))

      is-old : (k : ℕ) → k < length next → get_or next k 0 < bound → k < length stack
      is-old k h low = elim (cases_lt k (length stack)) [ inl l ↦ l | inr g ↦ absurd (none-new k g h low) ]

      pub Stands-more : (Out' : ℕ → Type 0) → ((t : ℕ) → Out' t → Out t) → Stands bound Out' next
      Stands-more Out' outs = record {
        falls = λ i j h l a b.
            let j-in = is-old j l b in
            let i-in : i < length stack = omega (arith, h, j-in) in
            subst (λ x. x < get_or next i 0) (sym (old j j-in)) (subst (λ x. get_or stack j 0 < x) (sym (old i i-in)) (w.falls i j h j-in (subst (λ x. x < bound) (old i i-in) a) (subst (λ x. x < bound) (old j j-in) b)));
        left = λ i h a o.
            let i-in = is-old i h a in
            w.left i i-in (subst (λ x. x < bound) (old i i-in) a) (outs (get_or stack i 0) (subst Out' (old i i-in) o));
        reached = λ i j h l a. reaches i j h l a (is-old i (omega (arith, h, l)) a) (cases_lt j (length stack));
      }
        where
          Goal : ℕ → ℕ → Type 0
          Goal i j = Path E (get_or next i 0) (get_or next j 0) ⊎ ((m : ℕ) × (i < m) × (m ≤ j) × (get_or next m 0 < bound))

          from : (i j : ℕ) → i < length stack → Path E (get_or stack i 0) (get_or next j 0) → Path E (get_or next i 0) (get_or next j 0)
          from i j h p = subst (λ x. Path E x (get_or next j 0)) (sym (old i h)) p

          further : (i j : ℕ) → i < length stack → length stack ≤ j → j < length next → get_or stack i 0 < bound → (i + 1 < length stack) ⊎ (length stack ≤ i + 1) → Path E (get_or next i 0) (get_or next j 0) ⊎ ((m : ℕ) × (i < m) × (m ≤ j) × (get_or next m 0 < bound))
          further i j h g l a (inr top) = let same : length stack - 1 ≡ i = omega (arith, top, h) in inl (from i j h (subst (λ k. Path E (get_or stack k 0) (get_or next j 0)) same (new j g l)))
          further i j h g l a (inl under) = elim (w.reached i (length stack - 1) (omega (arith, under)) (omega (arith, h)) a) [
            | inl p ↦ inl (from i j h (Path-trans p (new j g l)))
            | inr m ↦ inr (m.0, m.1, omega (arith, m.2, g), subst (λ x. x < bound) (sym (old m.0 (omega (arith, m.2, h)))) m.3)
          ]

          reaches : (i j : ℕ) → i < j → j < length next → get_or next i 0 < bound → i < length stack → (j < length stack) ⊎ (length stack ≤ j) → Path E (get_or next i 0) (get_or next j 0) ⊎ ((m : ℕ) × (i < m) × (m ≤ j) × (get_or next m 0 < bound))
          reaches i j h l a i-in (inl j-in) = elim (w.reached i j h j-in (subst (λ x. x < bound) (old i i-in) a)) [
            | inl p ↦ inl (from i j i-in (subst (λ x. Path E (get_or stack i 0) x) (sym (old j j-in)) p))
            | inr m ↦ inr (m.0, m.1, m.2, subst (λ x. x < bound) (sym (old m.0 (omega (arith, m.2, j-in)))) m.3)
          ]
          reaches i j h l a i-in (inr g) = further i j i-in g l (subst (λ x. x < bound) (old i i-in) a) (cases_lt (i + 1) (length stack))

    -- of each item that is not out the topmost entry is kept
    module _ (kept : List ℕ) (top : IsTopmost (λ t. Out t → ⊥) stack kept) where
      place-of : (k m : ℕ) → k < length kept → m < length stack → get_or stack m 0 < bound → m ≤ top.place k → get_or kept k 0 ≡ get_or stack m 0 → top.place k ≡ m
      place-of k m h l low high same = elim (cases_lt m (top.place k)) [
        | inl g ↦
            let e : get_or stack (top.place k) 0 ≡ get_or stack m 0 = sym (top.same k h) ∙ same in
            absurd (omega (arith, w.falls m (top.place k) g (top.within k h) low (omega (arith, e, low)), e))
        | inr g ↦ omega (arith, g, high)
      ]

      pub Stands-topmost : Stands bound Out kept
      Stands-topmost = record {
        falls = λ i j h l a b.
            let i-in : i < length kept = omega (arith, h, l) in
            omega (arith, w.falls (top.place i) (top.place j) (top.rises i j h l) (top.within j l) (omega (arith, top.same i i-in, a)) (omega (arith, top.same j l, b)), top.same i i-in, top.same j l);
        left = λ i h a o. w.left (top.place i) (top.within i h) (omega (arith, top.same i h, a)) (subst Out (top.same i h) o);
        reached = λ i j h l a. by i j h l (w.reached (top.place i) (top.place j) (top.rises i j h l) (top.within j l) (omega (arith, top.same i (omega (arith, h, l)), a)));
      }
        where
          by : (i j : ℕ) → i < j → j < length kept → Path E (get_or stack (top.place i) 0) (get_or stack (top.place j) 0) ⊎ ((m : ℕ) × (top.place i < m) × (m ≤ top.place j) × (get_or stack m 0 < bound)) → Path E (get_or kept i 0) (get_or kept j 0) ⊎ ((m : ℕ) × (i < m) × (m ≤ j) × (get_or kept m 0 < bound))
          by i j h l (inl p) = inl (subst (λ x. Path E x (get_or kept j 0)) (sym (top.same i (omega (arith, h, l)))) (subst (λ x. Path E (get_or stack (top.place i) 0) x) (sym (top.same j l)) p))
          by i j h l (inr m) = inr (at.0, above (cases_lt i at.0), below (cases_lt j at.0), omega (arith, at.3, m.3))
            where
              m-in : m.0 < length stack
              m-in = omega (arith, m.2, top.within j l)

              at : (k : ℕ) × (k < length kept) × (m.0 ≤ top.place k) × (get_or kept k 0 ≡ get_or stack m.0 0)
              at = top.all m.0 m-in (w.left m.0 m-in m.3)

              is : top.place at.0 ≡ m.0
              is = place-of at.0 m.0 at.1 m-in m.3 at.2 at.3

              above : (i < at.0) ⊎ (at.0 ≤ i) → i < at.0
              above (inl g) = g
              above (inr g) = elim (cases_lt at.0 i) [
                | inl g' ↦ absurd (omega (arith, top.rises at.0 i g' (omega (arith, h, l)), is, m.1))
                | inr g' ↦ let e : at.0 ≡ i = omega (arith, g, g') in absurd (omega (arith, ap top.place e, is, m.1))
              ]

              below : (j < at.0) ⊎ (at.0 ≤ j) → at.0 ≤ j
              below (inr g) = g
              below (inl g) = absurd (omega (arith, top.rises j at.0 g at.1, is, m.2))
