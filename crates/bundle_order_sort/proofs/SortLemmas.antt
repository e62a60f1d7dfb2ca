-- What the sort keeps true, step by step.
use Rattle.std.proofs.Common.{◌≡◌, ◌≢◌, Bool, true, false, not, ◌&&◌, ◌||◌, nat_eq, nat_lt, ℕ, zero, suc, ◌+◌, ◌-◌, ◌<◌, ◌≤◌, ◌⊎◌, ◌↔◌, List, [], ◌∷◌, ◌++◌, length, get_or, set, Contains, refl, sym, ap, ◌∙◌, subst, inl, inr, arith}
use Rattle.std.specs.List.{IsDistinct, list_any}
use Rattle.std.proofs.lemmas.Bool.{cases_eq, cases_lt, cases_Bool, false≢true, ltb-false, eqb-true}
use Rattle.std.proofs.lemmas.Cmp.{nat_eq_equiv}
use Rattle.std.proofs.lemmas.List.{length-append, length_push, get_or_append_left, get_or_push, get_or_default, get_or-append-add, get_or-set_same, get_or-set_other, length-set}
use Rattle.std.proofs.lemmas.List.Elements.{Contains-append_left, Contains-append_right, Contains-push, Contains-push_cases}
use Rattle.std.proofs.lemmas.Map.Keys.{IsDistinct-push}
use Rattle.bundle_order_graph.specs.Walks.{Path, IsSettled}
use Rattle.bundle_order_sort.specs.Topmost.{IsTopmost}
use Rattle.bundle_order_sort.proofs.TopmostLemmas.{Under-topmost, Hangs-topmost}
use Rattle.bundle_order_sort.specs.declared.stack.Progress.{Progress}
use Rattle.bundle_order_sort.specs.Numbers.{IsEarlierNumber, NumberStep, by_need, by_own_order, unknown, progress_of, IsOut, is_awaited}
use Rattle.bundle_order_sort.proofs.FirstLemmas.{Stands, Stands-less, Stands-more, Stands-topmost}
use Rattle.bundle_order_sort.proofs.StackLemmas.{Path-one, before_or_at, Under, Hangs, Under-pop, Hangs-pop, Under-top, Hangs-top, Under-push, Hangs-push, Hangs-begun, Under-new}

abbrev pub IsBegun : List Progress → ℕ → Type 0
IsBegun ps t = (progress_of ps t).begun ≡ true

-- ---- one item's progress is written
module _ (ps : List Progress) (s : ℕ) (p : Progress) (h : s < length ps) where
  pub written : progress_of (set ps s p) s ≡ p
  written = get_or-set_same ps s p unknown h

  pub kept : (t : ℕ) → t ≢ s → progress_of (set ps s p) t ≡ progress_of ps t
  kept t ne = get_or-set_other ps s t p unknown ne

  pub field : {X : Type 0} (f : Progress → X) → f p ≡ f (progress_of ps s) → (t : ℕ) → f (progress_of (set ps s p) t) ≡ f (progress_of ps t)
  field f e t = elim (cases_eq t s) [
    | inl same ↦ ap (λ u. f (progress_of (set ps s p) u)) same ∙ (ap f written ∙ (e ∙ ap (λ u. f (progress_of ps u)) (sym same)))
    | inr ne ↦ ap f (kept t ne)
  ]

-- ---- what the test of waiting says
is_awaited-yes : (out : Bool) (low : Bool) (begun : Bool) → (out ≡ true → ⊥) → begun ≡ false → (not out && (low || not begun)) ≡ true
is_awaited-yes true low begun void e = absurd (void refl)
is_awaited-yes false true begun void e = refl
is_awaited-yes false false true void e = sym e
is_awaited-yes false false false void e = refl

is_awaited-no : (out : Bool) (low : Bool) (begun : Bool) → (not out && (low || not begun)) ≡ false → (out ≡ true → ⊥) → (low ≡ false) × (begun ≡ true)
is_awaited-no true low begun e void = absurd (void refl)
is_awaited-no false true begun e void = absurd (false≢true (sym e))
is_awaited-no false false true e void = (refl, refl)
is_awaited-no false false false e void = absurd (false≢true (sym e))

le-nat_lt : (a b : ℕ) → nat_lt a b ≡ false → b ≤ a
le-nat_lt a b e = ltb-false a b e

first_is : (x y : ℕ) (xs : List ℕ) → x ≡ y → Contains (x ∷ xs) y
first_is x y xs e = (0, omega arith, e)

found : (xs : List ℕ) (y : ℕ) → list_any (nat_eq y) xs ≡ true → Contains xs y
found [] y h = absurd (false≢true h)
found (x ∷ xs) y h = by (λ t. found xs y t) (nat_eq y x) refl
  where
    by : (list_any (nat_eq y) xs ≡ true → Contains xs y) → (b : Bool) → nat_eq y x ≡ b → Contains (x ∷ xs) y
    by rest true e = first_is x y xs (sym (eqb-true y x e))
    by rest false e = Contains-append_right (x ∷ []) xs y (rest (sym (ap (λ b. b || list_any (nat_eq y) xs) e) ∙ h))

absent : (xs : List ℕ) (y : ℕ) → (Contains xs y → ⊥) → list_any (nat_eq y) xs ≡ false
absent xs y void = elim (cases_Bool (list_any (nat_eq y) xs)) [ inl e ↦ absurd (void (found xs y e)) | inr e ↦ e ]

module _ (N : ℕ → ℕ → Type 0) (count : ℕ) (ranks firsts : List ℕ) where
  abbrev pub Along : ℕ → ℕ → Type 0
  Along = NumberStep N firsts

  -- what holds where item s stands before t
  pub record Promise (s t : ℕ) : Type 0 where
    pub own : IsEarlierNumber firsts s t → Path Along t s
    pub needed : N s t → (get_or ranks s 0 ≤ get_or ranks t 0) × Path Along s s
    pub as_numbered : (bound : ℕ) → bound ≤ count → IsSettled Along bound → s < bound → t < bound → s < t

  or_itself : {A B C : Type 0} → (A → B) → A ⊎ C → B ⊎ C
  or_itself f (inl a) = inl (f a)
  or_itself f (inr c) = inr c

  -- the sort has come this far
  pub record Sorting (stack : List ℕ) (ps : List Progress) (order : List ℕ) : Type 0 where
    pub len : length ps ≡ count
    pub within : (k : ℕ) → k < length stack → get_or stack k 0 < count
    -- the items that are out
    pub done : (t : ℕ) → IsOut ps t ↔ Contains order t
    pub once : IsDistinct nat_eq order
    -- the others are on the stack
    pub left : (t : ℕ) → t < count → (IsOut ps t → ⊥) → Contains stack t
    pub from : (s : ℕ) → s < count → get_or firsts s 0 ≤ (progress_of ps s).next
    -- what a begun item needs is out, or above a copy of it from which a path of steps leads to all that is above it; or a path leads from it to itself
    pub hangs : (s t : ℕ) → IsBegun ps s → N s t → (IsOut ps t → ⊥) → Hangs Along stack s t ⊎ Path Along s s
    -- an earlier item that was put above an item once is out, or a path of steps leads from it to all above it
    pub under : (s t : ℕ) → get_or firsts s 0 ≤ t → t < (progress_of ps s).next → (IsOut ps t → ⊥) → Under Along stack t
    pub stands : (bound : ℕ) → IsSettled Along bound → Stands Along bound (IsOut ps) stack
    pub good : (i : ℕ) → i < length order → (t : ℕ) → ((k : ℕ) → k ≤ i → get_or order k 0 ≢ t) → Promise (get_or order i 0) t

  module _ (inside : (s t : ℕ) → N s t → t < count) (rest : List ℕ) (s : ℕ) (ps : List Progress) (order : List ℕ) (w : Sorting (rest ++ s ∷ []) ps order) where
    top_in : s < count
    top_in = subst (λ x. x < count) (get_or_push rest s 0 (length rest) refl) (w.within (length rest) (omega (arith, length_push rest s)))

    top_known : s < length ps
    top_known = omega (arith, top_in, w.len)

    rest_within : (k : ℕ) → k < length rest → get_or rest k 0 < count
    rest_within k h = subst (λ x. x < count) (get_or_append_left rest (s ∷ []) 0 k h) (w.within k (omega (arith, h, length_push rest s)))

    below : (t : ℕ) → t ≢ s → Contains (rest ++ s ∷ []) t → Contains rest t
    below t ne c = elim (Contains-push_cases rest s t c) [ inl b ↦ b | inr e ↦ absurd (ne (sym e)) ]

    -- an item that is out is dropped
    pub Sorting-drops : IsOut ps s → Sorting rest ps order
    Sorting-drops out = record {
      len = w.len;
      within = rest_within;
      done = w.done;
      once = w.once;
      left = λ t h void. below t (other t void) (w.left t h void);
      from = w.from;
      hangs = λ u t b n void. or_itself (λ h. Hangs-pop Along rest s u t h (other t void)) (w.hangs u t b n void);
      under = λ u t f h void. Under-pop Along rest s t (w.under u t f h void) (other t void);
      stands = λ bound settled. Stands-less Along bound (IsOut ps) (IsOut ps) (rest ++ s ∷ []) rest (w.stands bound settled) (omega (arith, length_push rest s)) (λ k h. sym (get_or_append_left rest (s ∷ []) 0 k h)) (λ k h l o. o);
      good = w.good;
    }
      where
        other : (t : ℕ) → (IsOut ps t → ⊥) → t ≢ s
        other t void e = void (subst (λ x. IsOut ps x) (sym e) out)

    module _ (ys : List ℕ) (sound : (k : ℕ) → k < length ys → Path Along s (get_or ys k 0)) (into : (k : ℕ) → k < length ys → get_or ys k 0 < count) where
      pushed_within : (k : ℕ) → k < length ((rest ++ s ∷ []) ++ ys) → get_or ((rest ++ s ∷ []) ++ ys) k 0 < count
      pushed_within k h = by (cases_lt k (length (rest ++ s ∷ [])))
        where
          at : (n : ℕ) → k ≡ length (rest ++ s ∷ []) + n → get_or ((rest ++ s ∷ []) ++ ys) k 0 < count
          at n e = subst (λ x. x < count) (sym (ap (λ m. get_or ((rest ++ s ∷ []) ++ ys) m 0) e ∙ get_or-append-add (rest ++ s ∷ []) ys n 0)) (into n (omega (arith, e, h, length-append (rest ++ s ∷ []) ys)))

          by : (k < length (rest ++ s ∷ [])) ⊎ (length (rest ++ s ∷ []) ≤ k) → get_or ((rest ++ s ∷ []) ++ ys) k 0 < count
          by (inl l) = subst (λ x. x < count) (sym (get_or_append_left (rest ++ s ∷ []) ys 0 k l)) (w.within k l)
          by (inr g) = at (k - length (rest ++ s ∷ [])) (omega (arith, g))

    -- what is put above it is not out; so it is none of the first so many
    module _ (ys : List ℕ) (steps : (k : ℕ) → k < length ys → Path Along s (get_or ys k 0)) (into : (k : ℕ) → k < length ys → get_or ys k 0 < count) (not_out : (k : ℕ) → k < length ys → IsOut ps (get_or ys k 0) → ⊥) (ps' : List Progress) (outs : (t : ℕ) → IsOut ps' t → IsOut ps t) where
      stack_length : length (rest ++ s ∷ []) ≡ length rest + 1
      stack_length = length_push rest s

      top_is : get_or (rest ++ s ∷ []) (length (rest ++ s ∷ []) - 1) 0 ≡ s
      top_is = get_or_push rest s 0 (length (rest ++ s ∷ []) - 1) (omega (arith, stack_length))

      new_at : (k : ℕ) → length (rest ++ s ∷ []) ≤ k → k < length ((rest ++ s ∷ []) ++ ys) → (n : ℕ) × (n < length ys) × (get_or ((rest ++ s ∷ []) ++ ys) k 0 ≡ get_or ys n 0)
      new_at k h l = at (k - length (rest ++ s ∷ [])) (omega (arith, h))
        where
          at : (n : ℕ) → k ≡ length (rest ++ s ∷ []) + n → (n : ℕ) × (n < length ys) × (get_or ((rest ++ s ∷ []) ++ ys) k 0 ≡ get_or ys n 0)
          at n e = (n, omega (arith, e, l, length-append (rest ++ s ∷ []) ys), ap (λ m. get_or ((rest ++ s ∷ []) ++ ys) m 0) e ∙ get_or-append-add (rest ++ s ∷ []) ys n 0)

      new_there : (k : ℕ) → length (rest ++ s ∷ []) ≤ k → k < length ((rest ++ s ∷ []) ++ ys) → (i : ℕ) × (i < length (rest ++ s ∷ [])) × (get_or (rest ++ s ∷ []) i 0 ≡ get_or ((rest ++ s ∷ []) ++ ys) k 0)
      new_there k h l =
          let n = new_at k h l in
          let c = w.left (get_or ys n.0 0) (into n.0 n.1) (not_out n.0 n.1) in
          (c.0, c.1, get_or_default (rest ++ s ∷ []) c.0 0 (get_or ys n.0 0) c.1 ∙ (c.2 ∙ sym n.2))

      pushed_stands : (bound : ℕ) → IsSettled Along bound → Stands Along bound (IsOut ps') ((rest ++ s ∷ []) ++ ys)
      pushed_stands bound settled = Stands-more Along bound (IsOut ps) (rest ++ s ∷ []) (w.stands bound settled) settled (omega (arith, stack_length)) ((rest ++ s ∷ []) ++ ys) (omega (arith, length-append (rest ++ s ∷ []) ys)) (λ k h. get_or_append_left (rest ++ s ∷ []) ys 0 k h) (λ k h l. let n = new_at k h l in subst (λ x. Path Along x (get_or ((rest ++ s ∷ []) ++ ys) k 0)) (sym top_is) (subst (λ x. Path Along s x) (sym n.2) (steps n.0 n.1))) new_there (IsOut ps') outs

    -- what the item waits for is put above it
    module _ (ys : List ℕ) (sound : (k : ℕ) → k < length ys → N s (get_or ys k 0)) (not_out : (k : ℕ) → k < length ys → IsOut ps (get_or ys k 0) → ⊥) (complete : (t : ℕ) → N s t → is_awaited ranks ps s t ≡ true → Contains ys t) (p : Progress) (same_out : p.out ≡ (progress_of ps s).out) (begun : p.begun ≡ true) (same_next : p.next ≡ (progress_of ps s).next) where
      steps : (k : ℕ) → k < length ys → Path Along s (get_or ys k 0)
      steps k h = Path-one Along s (get_or ys k 0) (by_need (sound k h))

      was_out : (t : ℕ) → IsOut (set ps s p) t → IsOut ps t
      was_out t e = sym (field ps s p top_known (λ q. q.out) same_out t) ∙ e

      is_out : (t : ℕ) → IsOut ps t → IsOut (set ps s p) t
      is_out t e = field ps s p top_known (λ q. q.out) same_out t ∙ e

      nexts : (t : ℕ) → (progress_of (set ps s p) t).next ≡ (progress_of ps t).next
      nexts t = field ps s p top_known (λ q. q.next) same_next t

      pub Sorting-awaits : Sorting ((rest ++ s ∷ []) ++ ys) (set ps s p) order
      Sorting-awaits = record {
        len = length-set ps s p ∙ w.len;
        within = pushed_within ys steps (λ k h. inside s (get_or ys k 0) (sound k h));
        done = λ t. (λ o. (w.done t).0 (was_out t o), λ c. is_out t ((w.done t).1 c));
        once = w.once;
        left = λ t h void. Contains-append_left (rest ++ s ∷ []) ys t (w.left t h (λ o. void (is_out t o)));
        from = λ u h. subst (λ n. get_or firsts u 0 ≤ n) (sym (nexts u)) (w.from u h);
        hangs = λ u t b n void. hang u t b n (λ o. void (is_out t o)) (cases_eq u s) (cases_Bool (progress_of ps u).begun);
        under = λ u t f h void. Under-push Along rest s ys steps t (w.under u t f (subst (λ n. t < n) (nexts u) h) (λ o. void (is_out t o)));
        stands = pushed_stands ys steps (λ k h. inside s (get_or ys k 0) (sound k h)) not_out (set ps s p) was_out;
        good = w.good;
      }
        where
          hang : (u t : ℕ) → IsBegun (set ps s p) u → N u t → (IsOut ps t → ⊥) → (u ≡ s) ⊎ (u ≡ s → ⊥) → (IsBegun ps u) ⊎ ((progress_of ps u).begun ≡ false) → Hangs Along ((rest ++ s ∷ []) ++ ys) u t ⊎ Path Along u u
          hang u t b n void _ (inl was) = or_itself (Hangs-push Along rest s ys steps u t) (w.hangs u t was n void)
          hang u t b n void (inl e) (inr new) =
              let n' : N s t = subst (λ x. N x t) e n in
              let new' : (progress_of ps s).begun ≡ false = subst (λ x. (progress_of ps x).begun ≡ false) e new in
              inl (subst (λ x. Hangs Along ((rest ++ s ∷ []) ++ ys) x t) (sym e) (Hangs-begun Along rest s ys steps t (complete t n' (is_awaited-yes (progress_of ps t).out (nat_lt (get_or ranks t 0) (get_or ranks s 0)) (progress_of ps s).begun void new'))))
          hang u t b n void (inr ne) (inr new) = absurd (false≢true (sym new ∙ (sym (ap (λ q. q.begun) (kept ps s p top_known u ne)) ∙ b)))

    -- a chain of what the item waits for is put above it: no item's progress changes
    pub Sorting-chains : (ys : List ℕ) (steps : (k : ℕ) → k < length ys → Path Along s (get_or ys k 0)) → ((k : ℕ) → k < length ys → get_or ys k 0 < count) → ((k : ℕ) → k < length ys → IsOut ps (get_or ys k 0) → ⊥) → Sorting ((rest ++ s ∷ []) ++ ys) ps order
    Sorting-chains ys steps into not_out = record {
      len = w.len;
      within = pushed_within ys steps into;
      done = w.done;
      once = w.once;
      left = λ t h void. Contains-append_left (rest ++ s ∷ []) ys t (w.left t h void);
      from = w.from;
      hangs = λ u t b n void. or_itself (Hangs-push Along rest s ys steps u t) (w.hangs u t b n void);
      under = λ u t f h void. Under-push Along rest s ys steps t (w.under u t f h void);
      stands = pushed_stands ys steps into not_out ps (λ t o. o);
      good = w.good;
    }

    -- an earlier item of its module is put above it
    module _ (e : ℕ) (high : (progress_of ps s).next ≤ e) (low : e < s) (not_out : IsOut ps e → ⊥) (skipped : (u : ℕ) → (progress_of ps s).next ≤ u → u < e → IsOut ps u) (p : Progress) (same_out : p.out ≡ (progress_of ps s).out) (same_begun : p.begun ≡ (progress_of ps s).begun) (next : p.next ≡ e + 1) where
      one : List ℕ
      one = e ∷ []

      earlier : IsEarlierNumber firsts s e
      earlier = (omega (arith, w.from s top_in, high), low)

      only : (k : ℕ) → k < length (e ∷ []) → get_or (e ∷ []) k 0 ≡ e
      only zero h = refl
      only (suc k) h = absurd (omega (arith, h))

      own_steps : (k : ℕ) → k < length (e ∷ []) → Path Along s (get_or (e ∷ []) k 0)
      own_steps k h = subst (λ x. Path Along s x) (sym (only k h)) (Path-one Along s e (by_own_order earlier))

      was_out' : (t : ℕ) → IsOut (set ps s p) t → IsOut ps t
      was_out' t o = sym (field ps s p top_known (λ q. q.out) same_out t) ∙ o

      is_out' : (t : ℕ) → IsOut ps t → IsOut (set ps s p) t
      is_out' t o = field ps s p top_known (λ q. q.out) same_out t ∙ o

      begins : (t : ℕ) → (progress_of (set ps s p) t).begun ≡ (progress_of ps t).begun
      begins t = field ps s p top_known (λ q. q.begun) same_begun t

      pub Sorting-pulls : Sorting ((rest ++ s ∷ []) ++ e ∷ []) (set ps s p) order
      Sorting-pulls = record {
        len = length-set ps s p ∙ w.len;
        within = pushed_within (e ∷ []) own_steps (λ k h. subst (λ x. x < count) (sym (only k h)) (omega (arith, low, top_in)));
        done = λ t. (λ o. (w.done t).0 (was_out' t o), λ c. is_out' t ((w.done t).1 c));
        once = w.once;
        left = λ t h void. Contains-append_left (rest ++ s ∷ []) (e ∷ []) t (w.left t h (λ o. void (is_out' t o)));
        from = λ u h. starts u h (cases_eq u s);
        hangs = λ u t b n void. or_itself (Hangs-push Along rest s (e ∷ []) own_steps u t) (w.hangs u t (sym (begins u) ∙ b) n (λ o. void (is_out' t o)));
        under = λ u t f h void. lies u t f h (λ o. void (is_out' t o)) (cases_eq u s);
        stands = pushed_stands (e ∷ []) own_steps (λ k h. subst (λ x. x < count) (sym (only k h)) (omega (arith, low, top_in))) (λ k h o. not_out (subst (λ x. IsOut ps x) (only k h) o)) (set ps s p) was_out';
        good = w.good;
      }
        where
          starts : (u : ℕ) → u < count → (u ≡ s) ⊎ (u ≡ s → ⊥) → get_or firsts u 0 ≤ (progress_of (set ps s p) u).next
          starts u h (inl same) = subst (λ x. get_or firsts x 0 ≤ (progress_of (set ps s p) x).next) (sym same) (subst (λ q. get_or firsts s 0 ≤ q.next) (sym (written ps s p top_known)) (omega (arith, next, earlier.0)))
          starts u h (inr ne) = subst (λ q. get_or firsts u 0 ≤ q.next) (sym (kept ps s p top_known u ne)) (w.from u h)

          at : (t : ℕ) → get_or firsts s 0 ≤ t → t < e + 1 → (IsOut ps t → ⊥) → (t < (progress_of ps s).next) ⊎ ((progress_of ps s).next ≤ t) → (t < e) ⊎ (t ≡ e) → Under Along ((rest ++ s ∷ []) ++ e ∷ []) t
          at t f h void (inl l) _ = Under-push Along rest s (e ∷ []) own_steps t (w.under s t f l void)
          at t f h void (inr g) (inl l) = absurd (void (skipped t g l))
          at t f h void (inr g) (inr same) = subst (λ x. Under Along ((rest ++ s ∷ []) ++ e ∷ []) x) (sym same) (Under-new Along (rest ++ s ∷ []) e)

          lies : (u t : ℕ) → get_or firsts u 0 ≤ t → t < (progress_of (set ps s p) u).next → (IsOut ps t → ⊥) → (u ≡ s) ⊎ (u ≡ s → ⊥) → Under Along ((rest ++ s ∷ []) ++ e ∷ []) t
          lies u t f h void (inl same) =
              let f' : get_or firsts s 0 ≤ t = subst (λ x. get_or firsts x 0 ≤ t) same f in
              let n : (progress_of (set ps s p) u).next ≡ e + 1 = ap (λ x. (progress_of (set ps s p) x).next) same ∙ (ap (λ q. q.next) (written ps s p top_known) ∙ next) in
              let h' : t < e + 1 = subst (λ x. t < x) n h in
              at t f' h' void (cases_lt t (progress_of ps s).next) (before_or_at t e h')
          lies u t f h void (inr ne) = Under-push Along rest s (e ∷ []) own_steps t (w.under u t f (subst (λ q. t < q.next) (kept ps s p top_known u ne) h) void)

    -- the item is out
    module _ (none : (t : ℕ) → N s t → is_awaited ranks ps s t ≡ false) (past : (u : ℕ) → (progress_of ps s).next ≤ u → u < s → IsOut ps u) (void : IsOut ps s → ⊥) (p : Progress) (out : p.out ≡ true) (same_begun : p.begun ≡ (progress_of ps s).begun) (same_next : p.next ≡ (progress_of ps s).next) where
      now : List Progress
      now = set ps s p

      now-is : now ≡ set ps s p
      unfolding now
      now-is = refl

      out_now : (t : ℕ) → IsOut (set ps s p) t → IsOut ps t ⊎ (s ≡ t)
      out_now t o = elim (cases_eq t s) [ inl same ↦ inr (sym same) | inr ne ↦ inl (sym (ap (λ q. q.out) (kept ps s p top_known t ne)) ∙ o) ]

      stays_out : (t : ℕ) → IsOut ps t → IsOut (set ps s p) t
      stays_out t o = elim (cases_eq t s) [ inl same ↦ absurd (void (subst (λ x. IsOut ps x) same o)) | inr ne ↦ ap (λ q. q.out) (kept ps s p top_known t ne) ∙ o ]

      itself_out : IsOut (set ps s p) s
      itself_out = ap (λ q. q.out) (written ps s p top_known) ∙ out

      others : (t : ℕ) → (IsOut (set ps s p) t → ⊥) → t ≢ s
      others t n e = n (subst (λ x. IsOut (set ps s p) x) (sym e) itself_out)

      begins' : (t : ℕ) → (progress_of (set ps s p) t).begun ≡ (progress_of ps t).begun
      begins' t = field ps s p top_known (λ q. q.begun) same_begun t

      nexts' : (t : ℕ) → (progress_of (set ps s p) t).next ≡ (progress_of ps t).next
      nexts' t = field ps s p top_known (λ q. q.next) same_next t

      promise : (t : ℕ) → t ≢ s → (IsOut ps t → ⊥) → Promise s t
      promise t ne n = record {
        own = λ e. Under-top Along rest s t (w.under s t e.0 (lower e.1 (cases_lt t (progress_of ps s).next)) n) ne;
        needed = λ d.
            let no = is_awaited-no (progress_of ps t).out (nat_lt (get_or ranks t 0) (get_or ranks s 0)) (progress_of ps s).begun (none t d) n in
            (le-nat_lt (get_or ranks t 0) (get_or ranks s 0) no.0, elim (w.hangs s t no.1 d n) [ inl h ↦ Hangs-top Along rest s s t h | inr p ↦ p ]);
        as_numbered = λ bound most settled a b. rises bound settled a b (below t ne (w.left t (omega (arith, b, most)) n));
      }
        where
          rises : (bound : ℕ) → IsSettled Along bound → s < bound → t < bound → Contains rest t → s < t
          rises bound settled a b c =
              let top : get_or (rest ++ s ∷ []) (length rest) 0 ≡ s = get_or_push rest s 0 (length rest) refl in
              let its : get_or (rest ++ s ∷ []) c.0 0 ≡ t = get_or_append_left rest (s ∷ []) 0 c.0 c.1 ∙ (get_or_default rest c.0 0 t c.1 ∙ c.2) in
              omega (arith, (w.stands bound settled).falls c.0 (length rest) c.1 (omega (arith, length_push rest s)) (omega (arith, its, b)) (omega (arith, top, a)), top, its)

          lower : t < s → (t < (progress_of ps s).next) ⊎ ((progress_of ps s).next ≤ t) → t < (progress_of ps s).next
          lower l (inl h) = h
          lower l (inr g) = absurd (n (past t g l))

      pub Sorting-outs : Sorting rest (set ps s p) (order ++ s ∷ [])
      Sorting-outs = record {
        len = length-set ps s p ∙ w.len;
        within = rest_within;
        done = λ t. (
          λ o. elim (out_now t o) [ inl was ↦ Contains-append_left order (s ∷ []) t ((w.done t).0 was) | inr e ↦ subst (λ x. Contains (order ++ s ∷ []) x) e (Contains-push order s) ],
          λ c. elim (Contains-push_cases order s t c) [ inl was ↦ stays_out t ((w.done t).1 was) | inr e ↦ subst (λ x. IsOut (set ps s p) x) e itself_out ],
        );
        once = IsDistinct-push nat_eq_equiv order s w.once (absent order s (λ c. void ((w.done s).1 c)));
        left = λ t h n. below t (others t n) (w.left t h (λ o. n (stays_out t o)));
        from = λ u h. subst (λ x. get_or firsts u 0 ≤ x) (sym (nexts' u)) (w.from u h);
        hangs = λ u t b d n. or_itself (λ h. Hangs-pop Along rest s u t h (others t n)) (w.hangs u t (sym (begins' u) ∙ b) d (λ o. n (stays_out t o)));
        under = λ u t f h n. Under-pop Along rest s t (w.under u t f (subst (λ x. t < x) (nexts' u) h) (λ o. n (stays_out t o))) (others t n);
        stands = λ bound settled. Stands-less Along bound (IsOut ps) (IsOut (set ps s p)) (rest ++ s ∷ []) rest (w.stands bound settled) (omega (arith, length_push rest s)) (λ k h. sym (get_or_append_left rest (s ∷ []) 0 k h)) (out_before bound settled);
        good = λ i h t n. keeps i h t n (before_or_at i (length order) (omega (arith, h, length_push order s)));
      }
        where
          -- the item is the lowest of the first so many on the stack, if it is one of them
          out_before : (bound : ℕ) → IsSettled Along bound → (k : ℕ) → k < length rest → get_or (rest ++ s ∷ []) k 0 < bound → IsOut (set ps s p) (get_or (rest ++ s ∷ []) k 0) → IsOut ps (get_or (rest ++ s ∷ []) k 0)
          out_before bound settled k h l o = elim (out_now (get_or (rest ++ s ∷ []) k 0) o) [
            | inl was ↦ was
            | inr e ↦
                let top : get_or (rest ++ s ∷ []) (length rest) 0 ≡ s = get_or_push rest s 0 (length rest) refl in
                absurd (omega (arith, (w.stands bound settled).falls k (length rest) h (omega (arith, length_push rest s)) l (omega (arith, top, e, l)), top, e))
          ]

          keeps : (i : ℕ) → i < length (order ++ s ∷ []) → (t : ℕ) → ((k : ℕ) → k ≤ i → get_or (order ++ s ∷ []) k 0 ≢ t) → (i < length order) ⊎ (i ≡ length order) → Promise (get_or (order ++ s ∷ []) i 0) t
          keeps i h t n (inl l) = subst (λ x. Promise x t) (sym (get_or_append_left order (s ∷ []) 0 i l)) (w.good i l t (λ k g e. n k g (get_or_append_left order (s ∷ []) 0 k (omega (arith, g, l)) ∙ e)))
          keeps i h t n (inr e) =
              let is : get_or (order ++ s ∷ []) i 0 ≡ s = get_or_push order s 0 i (sym e) in
              subst (λ x. Promise x t) (sym is) (promise t (λ same. n i (omega arith) (is ∙ sym same)) (λ o. missing ((w.done t).0 o)))
            where
              missing : Contains order t → ⊥
              missing c = n c.0 (omega (arith, c.1, e)) (get_or_append_left order (s ∷ []) 0 c.0 c.1 ∙ (get_or_default order c.0 0 t c.1 ∙ c.2))

  -- of each item that is not out only the topmost entry is kept
  module _ (stack kept : List ℕ) (ps : List Progress) (order : List ℕ) (w : Sorting stack ps order) (top : IsTopmost (λ t. IsOut ps t → ⊥) stack kept) where
    pub Sorting-topmost : Sorting kept ps order
    Sorting-topmost = record {
      len = w.len;
      within = λ k h. subst (λ x. x < count) (sym (top.same k h)) (w.within (top.place k) (top.within k h));
      done = w.done;
      once = w.once;
      left = λ t h void. still t void (w.left t h void);
      from = w.from;
      hangs = λ s t b n void. hang s t b n void (cases_Bool (progress_of ps s).out);
      under = λ s t f h void. Under-topmost Along (λ x. IsOut ps x → ⊥) stack kept top t void (w.under s t f h void);
      stands = λ bound settled. Stands-topmost Along bound (IsOut ps) stack (w.stands bound settled) kept top;
      good = w.good;
    }
      where
        still : (t : ℕ) → (IsOut ps t → ⊥) → Contains stack t → Contains kept t
        still t void c =
            let is : get_or stack c.0 0 ≡ t = get_or_default stack c.0 0 t c.1 ∙ c.2 in
            let at = top.all c.0 c.1 (λ o. void (subst (λ x. IsOut ps x) is o)) in
            (at.0, at.1, get_or_default kept at.0 t 0 at.1 ∙ (at.3 ∙ is))

        -- an item that is out stands in the order, and has its promise
        hang : (s t : ℕ) → IsBegun ps s → N s t → (IsOut ps t → ⊥) → ((progress_of ps s).out ≡ true) ⊎ ((progress_of ps s).out ≡ false) → Hangs Along kept s t ⊎ Path Along s s
        hang s t b n void (inr not_yet) = elim (w.hangs s t b n void) [
          | inl h ↦ Hangs-topmost Along (λ x. IsOut ps x → ⊥) stack kept top s t (λ o. false≢true (sym not_yet ∙ o)) void h
          | inr p ↦ inr p
        ]
        hang s t b n void (inl out) =
            let c = (w.done s).0 out in
            let is : get_or order c.0 0 ≡ s = get_or_default order c.0 0 s c.1 ∙ c.2 in
            let promise : Promise s t = subst (λ x. Promise x t) is (w.good c.0 c.1 t (λ k h e. void ((w.done t).1 (k, omega (arith, h, c.1), get_or_default order k t 0 (omega (arith, h, c.1)) ∙ e)))) in
            inr (promise.needed n).1
