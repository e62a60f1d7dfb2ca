-- How the sort begins, and what it has come to when nothing is left on the stack.
use Rattle.std.proofs.Common.{◌≡◌, ◌≢◌, false, nat_eq, ℕ, ◌<◌, ◌≤◌, ◌-◌, ◌⊎◌, List, [], length, get_or, map, Contains, Some, sym, ap, ◌∙◌, subst, inl, inr, arith}
use Rattle.std.specs.List.{IsDistinct, slice_get}
use Rattle.std.proofs.lemmas.Bool.{cases_lt, cases_Bool, false≢true, eq-eqb}
use Rattle.std.proofs.lemmas.Option.{slice_get_within, get_or_from_slice_get}
use Rattle.std.proofs.lemmas.List.{get_or_past, length-map, get_or-map}
use Rattle.std.proofs.lemmas.Map.Keys.{apart_from_distinct, IsDistinct-from_apart}
use Rattle.bundle_order_sort.specs.declared.stack.Progress.{Progress}
use Rattle.bundle_order_sort.specs.Numbers.{IsListedBefore, IsInOrder, unknown, fresh, progress_of, IsOut}
use Rattle.bundle_order_sort.proofs.FirstLemmas.{Stands-starts}
use Rattle.bundle_order_sort.proofs.SortLemmas.{Along, Promise, Sorting}

nothing_in : (y : ℕ) → Contains [] y → ⊥
nothing_in y c = omega (arith, c.1)

-- what `slice_get` finds
stands_at : (xs : List ℕ) (i x : ℕ) → slice_get xs i ≡ Some x → (i < length xs) × (get_or xs i 0 ≡ x)
stands_at xs i x e = (slice_get_within xs i x e, get_or_from_slice_get xs i x 0 e)

-- two places of one number are one
one_place : (xs : List ℕ) (i j : ℕ) → IsDistinct nat_eq xs → i < j → j < length xs → get_or xs i 0 ≢ get_or xs j 0
one_place xs i j d h l e = false≢true (sym (apart_from_distinct nat_eq xs i j 0 d h l) ∙ eq-eqb (get_or xs i 0) (get_or xs j 0) e)

module _ (N : ℕ → ℕ → Type 0) (count : ℕ) (ranks firsts : List ℕ) where
  fresh_at : (t : ℕ) → t < length firsts → progress_of (map fresh firsts) t ≡ fresh (get_or firsts t 0)
  fresh_at t h = get_or-map fresh firsts t 0 unknown h

  not_out : (t : ℕ) → progress_of (map fresh firsts) t ≡ unknown ⊎ (progress_of (map fresh firsts) t ≡ fresh (get_or firsts t 0))
  not_out t = elim (cases_lt t (length firsts)) [ inl l ↦ inr (fresh_at t l) | inr g ↦ inl (get_or_past (map fresh firsts) t unknown (omega (arith, g, length-map firsts fresh))) ]

  out_never : (t : ℕ) → (progress_of (map fresh firsts) t).out ≡ false
  out_never t = elim (not_out t) [ inl e ↦ ap (λ q. q.out) e | inr e ↦ ap (λ q. q.out) e ]

  pub begun_never : (t : ℕ) → (progress_of (map fresh firsts) t).begun ≡ false
  begun_never t = elim (not_out t) [ inl e ↦ ap (λ q. q.begun) e | inr e ↦ ap (λ q. q.begun) e ]

  next_first : (t : ℕ) → (progress_of (map fresh firsts) t).next ≤ get_or firsts t 0
  next_first t = elim (not_out t) [ inl e ↦ subst (λ q. q.next ≤ get_or firsts t 0) (sym e) (omega arith) | inr e ↦ subst (λ q. q.next ≤ get_or firsts t 0) (sym e) (omega arith) ]

  pub Sorting-starts : length firsts ≡ count → (stack : List ℕ) → length stack ≡ count → ((k : ℕ) → k < count → get_or stack k 0 ≡ count - 1 - k) → ((k : ℕ) → k < length stack → get_or stack k 0 < count) → ((t : ℕ) → t < count → Contains stack t) → Sorting N count ranks firsts stack (map fresh firsts) []
  Sorting-starts len stack long each within all = record {
    len = length-map firsts fresh ∙ len;
    within = within;
    done = λ t. (λ o. absurd (false≢true (sym (out_never t) ∙ o)), λ c. absurd (nothing_in t c));
    once = IsDistinct-from_apart nat_eq [] (λ i j d h k. absurd (omega (arith, k)));
    left = λ t h void. all t h;
    from = λ s h. subst (λ q. get_or firsts s 0 ≤ q.next) (sym (fresh_at s (omega (arith, h, len)))) (omega arith);
    hangs = λ s t b n void. absurd (false≢true (sym (begun_never s) ∙ b));
    under = λ s t f h void. absurd (omega (arith, f, h, next_first s));
    stands = λ bound settled. Stands-starts (Along N count ranks firsts) bound count (IsOut (map fresh firsts)) stack long each (λ t o. false≢true (sym (out_never t) ∙ o));
    good = λ i h t n. absurd (omega (arith, h));
  }

  module _ (ps : List Progress) (order : List ℕ) (w : Sorting N count ranks firsts [] ps order) where
    all_out : (t : ℕ) → t < count → IsOut ps t
    all_out t h = elim (cases_Bool (progress_of ps t).out) [ inl o ↦ o | inr e ↦ absurd (nothing_in t (w.left t h (λ o. false≢true (sym e ∙ o)))) ]

    out_in : (t : ℕ) → IsOut ps t → t < count
    out_in t o = elim (cases_lt t (length ps)) [ inl l ↦ omega (arith, l, w.len) | inr g ↦ absurd (false≢true (sym (ap (λ q. q.out) (get_or_past ps t unknown g)) ∙ o)) ]

    promised : (s t : ℕ) → IsListedBefore order s t → Promise N count ranks firsts s t
    promised s t b =
        let first = stands_at order b.i s b.first in
        let second = stands_at order b.j t b.second in
        subst (λ x. Promise N count ranks firsts x t) first.1 (w.good b.i first.0 t (λ k h e. one_place order k b.j w.once (omega (arith, h, b.before)) second.0 (e ∙ sym second.1)))

    pub IsInOrder-from_sorting : IsInOrder N count ranks firsts order
    IsInOrder-from_sorting = record {
      all = λ s. (λ h. (w.done s).0 (all_out s h), λ c. out_in s ((w.done s).1 c));
      once = w.once;
      own = λ s t e b. (promised s t b).own e;
      needed = λ s t n b. (promised s t b).needed n;
      as_numbered = λ bound s t most settled a c b. (promised s t b).as_numbered bound most settled a c;
    }
