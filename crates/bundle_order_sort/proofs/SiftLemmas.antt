-- The stack is gone through from the top, and the first entry that is met of each item that is wanted is kept.
use Rattle.std.proofs.Common.{◌≡◌, Bool, true, false, ℕ, ◌+◌, ◌-◌, ◌<◌, ◌≤◌, ◌⊎◌, List, [], ◌∷◌, ◌++◌, length, get_or, set, reverse, refl, sym, ap, ◌∙◌, subst, inl, inr, arith}
use Rattle.std.proofs.lemmas.Bool.{cases_eq, cases_lt, false≢true}
use Rattle.std.proofs.lemmas.List.{length_push, length-reverse, get_or-reverse, get_or_append_left, get_or_push, get_or-set_other}
use Rattle.bundle_order_sort.specs.Topmost.{IsTopmost}
use Rattle.bundle_order_sort.proofs.StackLemmas.{before_or_at}

module _ (IsWanted : ℕ → Type 0) (stack : List ℕ) where
  -- so many entries are gone through, and of these the ones at `places` are kept, the topmost first
  pub record Sifted (done : ℕ) (met : List Bool) (kept : List ℕ) : Type 0 where
    pub places : List ℕ
    pub len : length places ≡ length kept
    pub falls : (k l : ℕ) → k < l → l < length kept → get_or places l 0 < get_or places k 0
    pub within : (k : ℕ) → k < length kept → get_or places k 0 < length stack
    pub above : (k : ℕ) → k < length kept → length stack ≤ get_or places k 0 + done
    pub same : (k : ℕ) → k < length kept → get_or kept k 0 ≡ get_or stack (get_or places k 0) 0
    pub once : (t : ℕ) → get_or met t false ≡ true → (k : ℕ) × (k < length kept) × (get_or kept k 0 ≡ t)
    pub all : (i : ℕ) → i < length stack → length stack ≤ i + done → IsWanted (get_or stack i 0) → (k : ℕ) × (k < length kept) × (i ≤ get_or places k 0) × (get_or kept k 0 ≡ get_or stack i 0)

  pub Sifted-starts : (met : List Bool) → ((t : ℕ) → get_or met t false ≡ false) → Sifted 0 met []
  Sifted-starts met none = record {
    places = [];
    len = refl;
    falls = λ k l h m. absurd (omega (arith, m));
    within = λ k h. absurd (omega (arith, h));
    above = λ k h. absurd (omega (arith, h));
    same = λ k h. absurd (omega (arith, h));
    once = λ t e. absurd (false≢true (sym (none t) ∙ e));
    all = λ i h l void. absurd (omega (arith, h, l));
  }

  module _ (done : ℕ) (met : List Bool) (kept : List ℕ) (w : Sifted done met kept) (h : done < length stack) (x : ℕ) (is : x ≡ get_or stack (length stack - 1 - done) 0) where
    -- the entry is met already, or is not wanted
    pub Sifted-passes : (get_or met x false ≡ true) ⊎ (IsWanted x → ⊥) → Sifted (done + 1) met kept
    Sifted-passes why = record {
      places = w.places;
      len = w.len;
      falls = w.falls;
      within = w.within;
      above = λ k l. omega (arith, w.above k l);
      same = w.same;
      once = w.once;
      all = λ i l m wanted. by i l m wanted (cases_lt (i + done) (length stack)) why;
    }
      where
        by : (i : ℕ) → i < length stack → length stack ≤ i + (done + 1) → IsWanted (get_or stack i 0) → (i + done < length stack) ⊎ (length stack ≤ i + done) → (get_or met x false ≡ true) ⊎ (IsWanted x → ⊥) → (k : ℕ) × (k < length kept) × (i ≤ get_or w.places k 0) × (get_or kept k 0 ≡ get_or stack i 0)
        by i l m wanted (inr old) _ = w.all i l old wanted
        by i l m wanted (inl now) (inr void) =
            let at : length stack - 1 - done ≡ i = omega (arith, l, m, now) in
            absurd (void (subst IsWanted (sym (is ∙ ap (λ j. get_or stack j 0) at)) wanted))
        by i l m wanted (inl now) (inl e) =
            let at : length stack - 1 - done ≡ i = omega (arith, l, m, now) in
            let c = w.once x e in
            (c.0, c.1, omega (arith, w.above c.0 c.1, now), c.2 ∙ (is ∙ ap (λ j. get_or stack j 0) at))

    -- the entry is kept
    pub Sifted-keeps : (place : ℕ) → place ≡ length stack - 1 - done → x < length met → Sifted (done + 1) (set met x true) (kept ++ x ∷ [])
    Sifted-keeps place place-is inside = record {
      places = w.places ++ place ∷ [];
      len = omega (arith, length_push w.places place, length_push kept x, w.len);
      falls = λ k l a b. falls k l a (before_or_at l (length kept) (omega (arith, b, length_push kept x)));
      within = λ k a. each (λ p y. p < length stack) w.within (omega (arith, place-is, h)) k (at k a);
      above = λ k a. each (λ p y. length stack ≤ p + (done + 1)) (λ j b. omega (arith, w.above j b)) (omega (arith, place-is, h)) k (at k a);
      same = λ k a. each (λ p y. y ≡ get_or stack p 0) w.same (is ∙ ap (λ j. get_or stack j 0) (sym place-is)) k (at k a);
      once = λ t e. once t e (cases_eq t x);
      all = λ i l m wanted. all i l m wanted (cases_lt (i + done) (length stack));
    }
      where
        at : (k : ℕ) → k < length (kept ++ x ∷ []) → (k < length kept) ⊎ (k ≡ length kept)
        at k a = before_or_at k (length kept) (omega (arith, a, length_push kept x))

        old_place : (k : ℕ) → k < length kept → get_or (w.places ++ place ∷ []) k 0 ≡ get_or w.places k 0
        old_place k a = get_or_append_left w.places (place ∷ []) 0 k (omega (arith, a, w.len))

        new_place : (k : ℕ) → k ≡ length kept → get_or (w.places ++ place ∷ []) k 0 ≡ place
        new_place k e = get_or_push w.places place 0 k (w.len ∙ sym e)

        old_item : (k : ℕ) → k < length kept → get_or (kept ++ x ∷ []) k 0 ≡ get_or kept k 0
        old_item k a = get_or_append_left kept (x ∷ []) 0 k a

        new_item : (k : ℕ) → k ≡ length kept → get_or (kept ++ x ∷ []) k 0 ≡ x
        new_item k e = get_or_push kept x 0 k (sym e)

        each : (P : ℕ → ℕ → Type 0) → ((k : ℕ) → k < length kept → P (get_or w.places k 0) (get_or kept k 0)) → P place x → (k : ℕ) → (k < length kept) ⊎ (k ≡ length kept) → P (get_or (w.places ++ place ∷ []) k 0) (get_or (kept ++ x ∷ []) k 0)
        each P old new k (inl a) = subst (λ p. P p (get_or (kept ++ x ∷ []) k 0)) (sym (old_place k a)) (subst (λ y. P (get_or w.places k 0) y) (sym (old_item k a)) (old k a))
        each P old new k (inr e) = subst (λ p. P p (get_or (kept ++ x ∷ []) k 0)) (sym (new_place k e)) (subst (λ y. P place y) (sym (new_item k e)) new)

        falls : (k l : ℕ) → k < l → (l < length kept) ⊎ (l ≡ length kept) → get_or (w.places ++ place ∷ []) l 0 < get_or (w.places ++ place ∷ []) k 0
        falls k l a (inl b) = omega (arith, w.falls k l a b, old_place l b, old_place k (omega (arith, a, b)))
        falls k l a (inr e) =
            let b : k < length kept = omega (arith, a, e) in
            omega (arith, w.above k b, new_place l e, old_place k b, place-is, h)

        once : (t : ℕ) → get_or (set met x true) t false ≡ true → (t ≡ x) ⊎ (t ≡ x → ⊥) → (k : ℕ) × (k < length (kept ++ x ∷ [])) × (get_or (kept ++ x ∷ []) k 0 ≡ t)
        once t e (inl same) = (length kept, omega (arith, length_push kept x), new_item (length kept) refl ∙ sym same)
        once t e (inr ne) =
            let c = w.once t (sym (get_or-set_other met x t true false ne) ∙ e) in
            (c.0, omega (arith, c.1, length_push kept x), old_item c.0 c.1 ∙ c.2)

        all : (i : ℕ) → i < length stack → length stack ≤ i + (done + 1) → IsWanted (get_or stack i 0) → (i + done < length stack) ⊎ (length stack ≤ i + done) → (k : ℕ) × (k < length (kept ++ x ∷ [])) × (i ≤ get_or (w.places ++ place ∷ []) k 0) × (get_or (kept ++ x ∷ []) k 0 ≡ get_or stack i 0)
        all i l m wanted (inr old) =
            let c = w.all i l old wanted in
            (c.0, omega (arith, c.1, length_push kept x), subst (λ p. i ≤ p) (sym (old_place c.0 c.1)) c.2, old_item c.0 c.1 ∙ c.3)
        all i l m wanted (inl now) =
            let here : length stack - 1 - done ≡ i = omega (arith, l, m, now) in
            (length kept, omega (arith, length_push kept x), subst (λ p. i ≤ p) (sym (new_place (length kept) refl)) (omega (arith, place-is, here)), new_item (length kept) refl ∙ (is ∙ ap (λ j. get_or stack j 0) here))

  -- all are gone through, and those that are kept are turned round
  pub IsTopmost-from_sifted : (done : ℕ) (met : List Bool) (kept : List ℕ) → Sifted done met kept → length stack ≤ done → IsTopmost IsWanted stack (reverse kept)
  IsTopmost-from_sifted done met kept w through = record {
    place = λ k. get_or w.places (length kept - 1 - k) 0;
    rises = λ k l h m. w.falls (length kept - 1 - l) (length kept - 1 - k) (omega (arith, h, m, length-reverse kept)) (omega (arith, h, m, length-reverse kept));
    within = λ k h. w.within (length kept - 1 - k) (omega (arith, h, length-reverse kept));
    same = λ k h. get_or-reverse kept k 0 (omega (arith, h, length-reverse kept)) ∙ w.same (length kept - 1 - k) (omega (arith, h, length-reverse kept));
    all = λ i h wanted. at i (w.all i h (omega (arith, through)) wanted);
  }
    where
      at : (i : ℕ) → (k : ℕ) × (k < length kept) × (i ≤ get_or w.places k 0) × (get_or kept k 0 ≡ get_or stack i 0) → (k : ℕ) × (k < length (reverse kept)) × (i ≤ get_or w.places (length kept - 1 - k) 0) × (get_or (reverse kept) k 0 ≡ get_or stack i 0)
      at i c =
          let back : length kept - 1 - (length kept - 1 - c.0) ≡ c.0 = omega (arith, c.1) in
          let inside : length kept - 1 - c.0 < length kept = omega (arith, c.1) in
          (length kept - 1 - c.0, omega (arith, inside, length-reverse kept), subst (λ j. i ≤ get_or w.places j 0) (sym back) c.2, get_or-reverse kept (length kept - 1 - c.0) 0 inside ∙ (ap (λ j. get_or kept j 0) back ∙ c.3))
