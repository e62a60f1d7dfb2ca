-- What stands above an item on the stack is reached from it; the top is the last of the list.
use Rattle.std.proofs.Common.{◌≡◌, ◌≢◌, ℕ, ◌+◌, ◌-◌, ◌<◌, ◌≤◌, ◌⊎◌, List, [], ◌∷◌, ◌++◌, length, get_or, Contains, refl, sym, ap, ◌∙◌, subst, inl, inr, arith}
use Rattle.std.proofs.lemmas.Bool.{cases_lt}
use Rattle.std.proofs.lemmas.List.{length-append, length_push, get_or_append_left, get_or-append-add, get_or_push, get_or_default}
use Rattle.bundle_order_graph.specs.Walks.{Reaches, itself, along, Path}
use Rattle.bundle_order_graph.proofs.WalkLemmas.{Path-trans}

-- ---- paths
pub Reaches-more : {E : ℕ → ℕ → Type 0} {a b c : ℕ} → Reaches E a b → E b c → Reaches E a c
Reaches-more itself e = along e itself
Reaches-more (along d p) e = along d (Reaches-more p e)

pub Path-one : (E : ℕ → ℕ → Type 0) (a b : ℕ) → E a b → Path E a b
Path-one E a b e = (b, e, itself)

-- ---- lists
pub before_or_at : (a b : ℕ) → a < b + 1 → (a < b) ⊎ (a ≡ b)
before_or_at a b h = elim (cases_lt a b) [ inl l ↦ inl l | inr g ↦ inr (omega arith) ]

pub before_or_past : (k n : ℕ) → (k < n) ⊎ (n ≤ k)
before_or_past k n = cases_lt k n

module _ (E : ℕ → ℕ → Type 0) where
  -- all above some copy of t on the stack is reached from t
  pub record Under (stack : List ℕ) (t : ℕ) : Type 0 where
    pub i : ℕ
    pub within : i < length stack
    pub is : get_or stack i 0 ≡ t
    pub above : (k : ℕ) → i < k → k < length stack → Path E t (get_or stack k 0)

  -- all above some copy of s on the stack is reached from s, and a copy of t is above it
  pub record Hangs (stack : List ℕ) (s t : ℕ) : Type 0 where
    pub i : ℕ
    pub j : ℕ
    pub before : i < j
    pub within : j < length stack
    pub is : get_or stack i 0 ≡ s
    pub other : get_or stack j 0 ≡ t
    pub above : (k : ℕ) → i < k → k < length stack → Path E s (get_or stack k 0)

  module _ (rest : List ℕ) (x : ℕ) where
    length-top : length (rest ++ x ∷ []) ≡ length rest + 1
    length-top = length_push rest x

    top-is : get_or (rest ++ x ∷ []) (length rest) 0 ≡ x
    top-is = get_or_push rest x 0 (length rest) refl

    below-is : (k : ℕ) → k < length rest → get_or (rest ++ x ∷ []) k 0 ≡ get_or rest k 0
    below-is k h = get_or_append_left rest (x ∷ []) 0 k h

    -- below the top a place is not the top's
    lower : (i t : ℕ) → i < length (rest ++ x ∷ []) → get_or (rest ++ x ∷ []) i 0 ≡ t → t ≢ x → i < length rest
    lower i t h is other = by (before_or_at i (length rest) (omega (arith, h, length-top)))
      where
        by : (i < length rest) ⊎ (i ≡ length rest) → i < length rest
        by (inl l) = l
        by (inr e) = absurd (other (sym is ∙ (ap (λ k. get_or (rest ++ x ∷ []) k 0) e ∙ top-is)))

    pub Under-pop : (t : ℕ) → Under (rest ++ x ∷ []) t → t ≢ x → Under rest t
    Under-pop t u other =
        let low = lower u.i t u.within u.is other in
        record {
          i = u.i;
          within = low;
          is = sym (below-is u.i low) ∙ u.is;
          above = λ k h l. subst (λ y. Path E t y) (below-is k l) (u.above k h (omega (arith, l, length-top)));
        }

    pub Hangs-pop : (s t : ℕ) → Hangs (rest ++ x ∷ []) s t → t ≢ x → Hangs rest s t
    Hangs-pop s t u other =
        let low = lower u.j t u.within u.other other in
        let before : u.i < length rest = omega (arith, low, u.before) in
        record {
          i = u.i;
          j = u.j;
          before = u.before;
          within = low;
          is = sym (below-is u.i before) ∙ u.is;
          other = sym (below-is u.j low) ∙ u.other;
          above = λ k h l. subst (λ y. Path E s y) (below-is k l) (u.above k h (omega (arith, l, length-top)));
        }

    -- the top is reached from what is under it
    pub Under-top : (t : ℕ) → Under (rest ++ x ∷ []) t → t ≢ x → Path E t x
    Under-top t u other = subst (λ y. Path E t y) top-is (u.above (length rest) (lower u.i t u.within u.is other) (omega (arith, length-top)))

    pub Hangs-top : (s t : ℕ) → Hangs (rest ++ x ∷ []) s t → Path E s x
    Hangs-top s t u = subst (λ y. Path E s y) top-is (u.above (length rest) (omega (arith, u.before, u.within, length-top)) (omega (arith, length-top)))

    -- what the top leads to is put above it
    module _ (ys : List ℕ) (steps : (k : ℕ) → k < length ys → Path E x (get_or ys k 0)) where
      more : List ℕ
      more = (rest ++ x ∷ []) ++ ys

      more-is : more ≡ (rest ++ x ∷ []) ++ ys
      unfolding more
      more-is = refl

      length-more : length more ≡ length rest + 1 + length ys
      length-more = omega (arith, ap length more-is, length-append (rest ++ x ∷ []) ys, length-top)

      old-is : (k : ℕ) → k < length rest + 1 → get_or more k 0 ≡ get_or (rest ++ x ∷ []) k 0
      old-is k h = ap (λ (l : List ℕ). get_or l k 0) more-is ∙ get_or_append_left (rest ++ x ∷ []) ys 0 k (omega (arith, h, length-top))

      new-is : (n : ℕ) → get_or more (length rest + 1 + n) 0 ≡ get_or ys n 0
      new-is n = ap (λ (l : List ℕ). get_or l (length rest + 1 + n) 0) more-is ∙ (ap (λ m. get_or ((rest ++ x ∷ []) ++ ys) (m + n) 0) (sym length-top) ∙ get_or-append-add (rest ++ x ∷ []) ys n 0)

      new-at : (k : ℕ) → length rest + 1 ≤ k → k < length more → (n : ℕ) × (n < length ys) × (get_or more k 0 ≡ get_or ys n 0)
      new-at k h l = at (k - (length rest + 1)) (omega (arith, h))
        where
          at : (n : ℕ) → k ≡ length rest + 1 + n → (n : ℕ) × (n < length ys) × (get_or more k 0 ≡ get_or ys n 0)
          at n e = (n, omega (arith, e, l, length-more), ap (λ m. get_or more m 0) e ∙ new-is n)

      stepped : (k : ℕ) → length rest + 1 ≤ k → k < length more → Path E x (get_or more k 0)
      stepped k h l = let n = new-at k h l in subst (λ y. Path E x y) (sym n.2) (steps n.0 n.1)

      Under-more : (t : ℕ) → Under (rest ++ x ∷ []) t → Under more t
      Under-more t u = record {
        i = u.i;
        within = omega (arith, u.within, length-more, length-top);
        is = old-is u.i (omega (arith, u.within, length-top)) ∙ u.is;
        above = λ k h l. above k h l (before_or_past k (length rest + 1));
      }
        where
          from : (y : ℕ) → Path E x y → (u.i < length rest) ⊎ (u.i ≡ length rest) → Path E t y
          from y e (inl h) = Path-trans (subst (λ z. Path E t z) top-is (u.above (length rest) h (omega (arith, length-top)))) e
          from y e (inr h) = subst (λ z. Path E z y) (sym top-is ∙ (ap (λ m. get_or (rest ++ x ∷ []) m 0) (sym h) ∙ u.is)) e

          above : (k : ℕ) → u.i < k → k < length more → (k < length rest + 1) ⊎ (length rest + 1 ≤ k) → Path E t (get_or more k 0)
          above k h l (inl o) = subst (λ y. Path E t y) (sym (old-is k o)) (u.above k h (omega (arith, o, length-top)))
          above k h l (inr n) = from (get_or more k 0) (stepped k n l) (before_or_at u.i (length rest) (omega (arith, u.within, length-top)))

      Hangs-more : (s t : ℕ) → Hangs (rest ++ x ∷ []) s t → Hangs more s t
      Hangs-more s t u = record {
        i = u.i;
        j = u.j;
        before = u.before;
        within = omega (arith, u.within, length-more, length-top);
        is = old-is u.i (omega (arith, u.within, u.before, length-top)) ∙ u.is;
        other = old-is u.j (omega (arith, u.within, length-top)) ∙ u.other;
        above = λ k h l. above k h l (before_or_past k (length rest + 1));
      }
        where
          above : (k : ℕ) → u.i < k → k < length more → (k < length rest + 1) ⊎ (length rest + 1 ≤ k) → Path E s (get_or more k 0)
          above k h l (inl o) = subst (λ y. Path E s y) (sym (old-is k o)) (u.above k h (omega (arith, o, length-top)))
          above k h l (inr n) = Path-trans (Hangs-top s t u) (stepped k n l)

      Hangs-new : (t : ℕ) → Contains ys t → Hangs more x t
      Hangs-new t c = record {
        i = length rest;
        j = length rest + 1 + c.0;
        before = omega arith;
        within = omega (arith, c.1, length-more);
        is = old-is (length rest) (omega arith) ∙ top-is;
        other = new-is c.0 ∙ (get_or_default ys c.0 0 t c.1 ∙ c.2);
        above = λ k h l. stepped k (omega (arith, h)) l;
      }

      pub Under-push : (t : ℕ) → Under (rest ++ x ∷ []) t → Under ((rest ++ x ∷ []) ++ ys) t
      Under-push t u = subst (λ (l : List ℕ). Under l t) more-is (Under-more t u)

      pub Hangs-push : (s t : ℕ) → Hangs (rest ++ x ∷ []) s t → Hangs ((rest ++ x ∷ []) ++ ys) s t
      Hangs-push s t u = subst (λ (l : List ℕ). Hangs l s t) more-is (Hangs-more s t u)

      pub Hangs-begun : (t : ℕ) → Contains ys t → Hangs ((rest ++ x ∷ []) ++ ys) x t
      Hangs-begun t c = subst (λ (l : List ℕ). Hangs l x t) more-is (Hangs-new t c)

  -- the top is under nothing
  pub Under-new : (stack : List ℕ) (t : ℕ) → Under (stack ++ t ∷ []) t
  Under-new stack t = record {
    i = length stack;
    within = omega (arith, length_push stack t);
    is = get_or_push stack t 0 (length stack) refl;
    above = λ k h l. absurd (omega (arith, h, l, length_push stack t));
  }
