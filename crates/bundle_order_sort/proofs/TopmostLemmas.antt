-- What stands above an item is still reached from it when doubled entries are taken out.
use Rattle.std.proofs.Common.{◌≡◌, ℕ, ◌<◌, ◌≤◌, ◌⊎◌, List, length, get_or, sym, ap, ◌∙◌, subst, inl, inr, arith}
use Rattle.std.proofs.lemmas.Bool.{cases_lt}
use Rattle.bundle_order_graph.specs.Walks.{Path}
use Rattle.bundle_order_sort.specs.Topmost.{IsTopmost}
use Rattle.bundle_order_sort.proofs.StackLemmas.{Under, Hangs}

module _ (E : ℕ → ℕ → Type 0) (IsWanted : ℕ → Type 0) (stack kept : List ℕ) (top : IsTopmost IsWanted stack kept) where
  -- what is above an entry that is kept was above it
  kept-above : (t i k : ℕ) → i ≤ top.place k → ((j : ℕ) → i < j → j < length stack → Path E t (get_or stack j 0)) → (j : ℕ) → k < j → j < length kept → Path E t (get_or kept j 0)
  kept-above t i k low above j h l = subst (λ x. Path E t x) (sym (top.same j l)) (above (top.place j) (omega (arith, low, top.rises k j h l)) (top.within j l))

  pub Under-topmost : (t : ℕ) → IsWanted t → Under E stack t → Under E kept t
  Under-topmost t wanted u =
      let at = top.all u.i u.within (subst IsWanted (sym u.is) wanted) in
      record {
        i = at.0;
        within = at.1;
        is = at.3 ∙ u.is;
        above = kept-above t u.i at.0 at.2 u.above;
      }

  -- where the item itself stood above what it waits for, a path leads from it back to itself
  pub Hangs-topmost : (s t : ℕ) → IsWanted s → IsWanted t → Hangs E stack s t → Hangs E kept s t ⊎ Path E s s
  Hangs-topmost s t wanted other u =
      let low : u.i < length stack = omega (arith, u.before, u.within) in
      let first = top.all u.i low (subst IsWanted (sym u.is) wanted) in
      let second = top.all u.j u.within (subst IsWanted (sym u.other) other) in
      by first second (cases_lt u.i (top.place first.0)) (cases_lt first.0 second.0)
    where
      by : (a : (k : ℕ) × (k < length kept) × (u.i ≤ top.place k) × (get_or kept k 0 ≡ get_or stack u.i 0)) (b : (k : ℕ) × (k < length kept) × (u.j ≤ top.place k) × (get_or kept k 0 ≡ get_or stack u.j 0)) → (u.i < top.place a.0) ⊎ (top.place a.0 ≤ u.i) → (a.0 < b.0) ⊎ (b.0 ≤ a.0) → Hangs E kept s t ⊎ Path E s s
      by a b (inl higher) _ = inr (subst (λ x. Path E s x) (sym (top.same a.0 a.1) ∙ (a.3 ∙ u.is)) (u.above (top.place a.0) higher (top.within a.0 a.1)))
      by a b (inr there) (inl before) = inl (record {
        i = a.0;
        j = b.0;
        before = before;
        within = b.1;
        is = a.3 ∙ u.is;
        other = b.3 ∙ u.other;
        above = kept-above s u.i a.0 a.2 u.above;
      })
      by a b (inr there) (inr after) = absurd (turned (cases_lt b.0 a.0))
        where
          turned : (b.0 < a.0) ⊎ (a.0 ≤ b.0) → ⊥
          turned (inl l) = omega (arith, top.rises b.0 a.0 l a.1, there, b.2, u.before)
          turned (inr g) = let e : a.0 ≡ b.0 = omega (arith, g, after) in omega (arith, ap top.place e, there, b.2, u.before)
