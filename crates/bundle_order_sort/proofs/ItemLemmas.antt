-- From the promise over numbers to the one over items.
use Rattle.std.proofs.Common.{◌≡◌, true, false, ℕ, ◌+◌, ◌-◌, ◌<◌, ◌≤◌, ◌⊎◌, ◌↔◌, Some, List, [], ◌∷◌, ◌++◌, length, get_or, slice_get, refl, sym, ap, ◌∙◌, subst, inl, inr, arith}
use Rattle.std.proofs.lemmas.Bool.{cases_lt}
use Rattle.std.proofs.lemmas.Option.{same_Some, slice_get_within, get_or_from_slice_get}
use Rattle.std.proofs.lemmas.List.{get_or_append_left, get_or_push}
use Rattle.bundle_order_graph.specs.Walks.{Reaches, itself, along, Path}
use Rattle.bundle_order_sort.specs.declared.SharedItem.{SharedItem}
use Rattle.bundle_order_sort.specs.Numbers as numbers
use Rattle.bundle_order_sort.specs.Items.{IsItemOf, ShareModule, DependsShared, NeedsShared, IsEarlierItem, SharedStep, to_need, to_earlier, IsGoodItemOrder, AreGrouped, FollowsItem, NeedsByRank}
use Rattle.bundle_order_sort.proofs.StackLemmas.{before_or_at}

-- ---- items of one module
IsOf-one : (items : List SharedItem) (s m n : ℕ) → IsItemOf items s m → IsItemOf items s n → m ≡ n
IsOf-one items s m n a b = sym a.own ∙ (ap (λ i. i.which) (same_Some a.item b.item (sym a.at ∙ b.at)) ∙ b.own)

module _ (items : List SharedItem) (s t : ℕ) (x y : SharedItem) (at_s : slice_get items s ≡ Some x) (at_t : slice_get items t ≡ Some y) where
  pub ShareModule-made : x.is_free ≡ false → y.is_free ≡ false → x.which ≡ y.which → ShareModule items s t
  ShareModule-made a b e = record {
    module_number = x.which;
    one = record { item = x; at = at_s; bound = a; own = refl };
    other = record { item = y; at = at_t; bound = b; own = sym e };
  }

  pub ShareModule-bound_one : ShareModule items s t → x.is_free ≡ false
  ShareModule-bound_one h = ap (λ i. i.is_free) (same_Some x h.one.item (sym at_s ∙ h.one.at)) ∙ h.one.bound

  pub ShareModule-bound_other : ShareModule items s t → y.is_free ≡ false
  ShareModule-bound_other h = ap (λ i. i.is_free) (same_Some y h.other.item (sym at_t ∙ h.other.at)) ∙ h.other.bound

  pub ShareModule-same : ShareModule items s t → x.which ≡ y.which
  ShareModule-same h = ap (λ i. i.which) (same_Some x h.one.item (sym at_s ∙ h.one.at)) ∙ (h.one.own ∙ (sym h.other.own ∙ ap (λ i. i.which) (sym (same_Some y h.other.item (sym at_t ∙ h.other.at)))))

-- in a list where the items of each module stand together, each of the module that stands before is an earlier one
pub IsEarlier-grouped : (items : List SharedItem) → AreGrouped items → (s t m : ℕ) → IsItemOf items s m → IsItemOf items t m → t < s → IsEarlierItem items s t
IsEarlier-grouped items grouped s t m a b h = record { before = h; module_number = m; together = λ k l u. grouped s t m a b k l u }

-- there the order keeps to the module of each item, but for cycles
pub own-grouped : (items : List SharedItem) (lists : List (List ℕ)) (order : List ℕ) → AreGrouped items → IsGoodItemOrder items lists order → (s t m : ℕ) → IsItemOf items s m → IsItemOf items t m → t < s → numbers.IsListedBefore order s t → Path (SharedStep items lists) t s
own-grouped items lists order grouped g s t m a b h before = g.own s t (IsEarlier-grouped items grouped s t m a b h) before

-- ---- the first of the items that stand together
-- f is the first item of the module of s: those from f on are the earlier ones
pub record IsFirst (items : List SharedItem) (s f : ℕ) : Type 0 where
  pub low : f ≤ s
  pub earlier : (t : ℕ) → ((f ≤ t) × (t < s)) ↔ IsEarlierItem items s t

pub IsFirst-starts : (items : List SharedItem) (s : ℕ) → (FollowsItem items s → ⊥) → IsFirst items s s
IsFirst-starts items s alone = record {
  low = omega arith;
  earlier = λ t. (
    λ h. absurd (omega (arith, h.0, h.1)),
    λ e. absurd (alone (record {
      before = s - 1;
      next = omega (arith, e.before);
      shared = record {
        module_number = e.module_number;
        one = e.together (s - 1) (omega (arith, e.before)) (omega arith);
        other = e.together s (omega (arith, e.before)) (omega arith);
      };
    })),
  );
}

pub IsFirst-goes_on : (items : List SharedItem) (p s f : ℕ) → p + 1 ≡ s → ShareModule items p s → IsFirst items p f → IsFirst items s f
IsFirst-goes_on items p s f next shared first = record {
  low = omega (arith, first.low, next);
  earlier = λ t. (λ h. forth t h.0 h.1 (before_or_at t p (omega (arith, h.1, next))), λ e. back t e (before_or_at t p (omega (arith, e.before, next))));
}
  where
    m : ℕ
    m = shared.module_number

    last_two : (k : ℕ) → p ≤ k → k ≤ s → (k < s) ⊎ (k ≡ s) → IsItemOf items k shared.module_number
    last_two k a b (inl l) = subst (λ i. IsItemOf items i shared.module_number) (let same : p ≡ k = omega (arith, a, l, next) in same) shared.one
    last_two k a b (inr e) = subst (λ i. IsItemOf items i shared.module_number) (sym e) shared.other

    together : (t : ℕ) → IsEarlierItem items p t → (k : ℕ) → t ≤ k → k ≤ s → (k < p) ⊎ (p ≤ k) → IsItemOf items k shared.module_number
    together t e k a b (inl l) = subst (λ n. IsItemOf items k n) (IsOf-one items p e.module_number shared.module_number (e.together p (omega (arith, e.before)) (omega arith)) shared.one) (e.together k a (omega (arith, l)))
    together t e k a b (inr g) = last_two k g b (before_or_at k s (omega (arith, b)))

    forth : (t : ℕ) → f ≤ t → t < s → (t < p) ⊎ (t ≡ p) → IsEarlierItem items s t
    forth t a b (inl l) =
        let e = (first.earlier t).0 (a, l) in
        record { before = b; module_number = shared.module_number; together = λ k h u. together t e k h u (cases_lt k p) }
    forth t a b (inr e) = record { before = b; module_number = shared.module_number; together = λ k h u. last_two k (omega (arith, h, e)) u (before_or_at k s (omega (arith, u))) }

    back : (t : ℕ) → IsEarlierItem items s t → (t < p) ⊎ (t ≡ p) → (f ≤ t) × (t < s)
    back t e (inl l) = (((first.earlier t).1 (record { before = l; module_number = e.module_number; together = λ k a b. e.together k a (omega (arith, b, next)) })).0, e.before)
    back t e (inr h) = (omega (arith, h, first.low), e.before)

-- ---- from the promise over numbers
module _ (items : List SharedItem) (lists : List (List ℕ)) (ranks : List ℕ) (falls : (s t : ℕ) → DependsShared items lists s t → get_or ranks t 0 ≤ get_or ranks s 0) (back : (s t : ℕ) → DependsShared items lists s t → get_or ranks s 0 ≤ get_or ranks t 0 → Path (DependsShared items lists) t s) where
  -- along dependencies the ranks fall
  falls_along : {s t : ℕ} → Reaches (DependsShared items lists) s t → get_or ranks t 0 ≤ get_or ranks s 0
  falls_along itself = omega arith
  falls_along (along {a} {b} d p) = omega (arith, falls a b d, falls_along p)

  -- what leads back does not rank below
  pub rank-keeps : (s t : ℕ) → Path (DependsShared items lists) t s → get_or ranks s 0 ≤ get_or ranks t 0
  rank-keeps s t p = omega (arith, falls t p.0 p.1, falls_along p.2)

  Needs-from_rank : (s t : ℕ) → NeedsByRank items lists ranks s t → NeedsShared items lists s t
  Needs-from_rank s t n = record {
    is_weak = n.reference.is_weak;
    named = record { list = n.reference.list; refers = n.refers; listed = n.listed; within = n.needed.within; other = n.needed.other };
    apart = n.needed.apart;
    strong = λ w p. omega (arith, n.needed.strong w, rank-keeps s t p);
  }

  NeedsByRank-from_needs : (s t : ℕ) → NeedsShared items lists s t → NeedsByRank items lists ranks s t
  NeedsByRank-from_needs s t n = record {
    reference = record { list = n.named.list; is_weak = n.is_weak };
    refers = n.named.refers;
    listed = n.named.listed;
    needed = record {
      within = n.named.within;
      other = n.named.other;
      apart = n.apart;
      strong = λ w. strong w (cases_lt (get_or ranks t 0) (get_or ranks s 0));
    };
  }
    where
      strong : n.is_weak ≡ true → (get_or ranks t 0 < get_or ranks s 0) ⊎ (get_or ranks s 0 ≤ get_or ranks t 0) → get_or ranks t 0 < get_or ranks s 0
      strong w (inl l) = l
      strong w (inr g) = absurd (n.strong w (back s t (n.is_weak, n.named) g))

  module _ (firsts : List ℕ) (own : (s t : ℕ) → s < length items → numbers.IsEarlierNumber firsts s t ↔ IsEarlierItem items s t) where
    step : (s t : ℕ) → s < length items → numbers.NumberStep (NeedsByRank items lists ranks) firsts s t → SharedStep items lists s t
    step s t h (numbers.by_need c) = to_need (Needs-from_rank s t c)
    step s t h (numbers.by_own_order e) = to_earlier ((own s t h).0 e)

    next_in : (s t : ℕ) → s < length items → numbers.NumberStep (NeedsByRank items lists ranks) firsts s t → t < length items
    next_in s t h (numbers.by_need c) = c.needed.within
    next_in s t h (numbers.by_own_order e) = omega (arith, e.1, h)

    reaches : {s t : ℕ} → s < length items → Reaches (numbers.NumberStep (NeedsByRank items lists ranks) firsts) s t → Reaches (SharedStep items lists) s t
    reaches h itself = itself
    reaches h (along {a} {b} e p) = along (step a b h e) (reaches (next_in a b h e) p)

    path : (s t : ℕ) → s < length items → Path (numbers.NumberStep (NeedsByRank items lists ranks) firsts) s t → Path (SharedStep items lists) s t
    path s t h p = (p.0, step s p.0 h p.1, reaches (next_in s p.0 h p.1) p.2)

    stands_in : (order : List ℕ) → numbers.IsInOrder (NeedsByRank items lists ranks) (length items) ranks firsts order → (s t : ℕ) → numbers.IsListedBefore order s t → (s < length items) × (t < length items)
    stands_in order g s t b = (
      (g.all s).1 (b.i, slice_get_within order b.i s b.first, get_or_from_slice_get order b.i s s b.first),
      (g.all t).1 (b.j, slice_get_within order b.j t b.second, get_or_from_slice_get order b.j t t b.second),
    )

    pub IsGoodOrder-from_numbers : (order : List ℕ) → numbers.IsInOrder (NeedsByRank items lists ranks) (length items) ranks firsts order → IsGoodItemOrder items lists order
    IsGoodOrder-from_numbers order g = record {
      all = g.all;
      once = g.once;
      own = λ s t e b. let i = stands_in order g s t b in path t s i.1 (g.own s t ((own s t i.0).1 e) b);
      needed = λ s t n b.
          let i = stands_in order g s t b in
          let two = g.needed s t (NeedsByRank-from_needs s t n) b in
          (back s t (n.is_weak, n.named) two.0, path s s i.0 two.1);
      as_numbered = λ bound s t most settled a b before. g.as_numbered bound s t most (λ x y h l p. settled x y h l (path x y (omega (arith, h, most)) p)) a b before;
    }

-- ---- the firsts, one more
pub firsts-push : (items : List SharedItem) (firsts firsts' : List ℕ) (n first : ℕ) → firsts' ≡ firsts ++ first ∷ [] → length firsts ≡ n → ((s t : ℕ) → s < n → numbers.IsEarlierNumber firsts s t ↔ IsEarlierItem items s t) → IsFirst items n first → (s t : ℕ) → s < n + 1 → numbers.IsEarlierNumber firsts' s t ↔ IsEarlierItem items s t
firsts-push items firsts firsts' n first is len each new s t h = subst (λ (l : List ℕ). numbers.IsEarlierNumber l s t ↔ IsEarlierItem items s t) (sym is) (by (before_or_at s n h))
  where
    by : (s < n) ⊎ (s ≡ n) → numbers.IsEarlierNumber (firsts ++ first ∷ []) s t ↔ IsEarlierItem items s t
    by (inl l) = subst (λ f. ((f ≤ t) × (t < s)) ↔ IsEarlierItem items s t) (sym (get_or_append_left firsts (first ∷ []) 0 s (omega (arith, l, len)))) (each s t l)
    by (inr e) = subst (λ f. ((f ≤ t) × (t < s)) ↔ IsEarlierItem items s t) (sym (get_or_push firsts first 0 s (len ∙ sym e))) (subst (λ k. ((first ≤ t) × (t < k)) ↔ IsEarlierItem items k t) (sym e) (new.earlier t))
