-- Chains of needs: how one is gone along, and what is noted of it.
use Rattle.std.proofs.Common.{◌≡◌, Bool, true, false, not, ◌&&◌, ◌||◌, nat_lt, ℕ, ◌+◌, ◌<◌, ◌≤◌, ◌⊎◌, List, [], ◌∷◌, ◌++◌, length, get_or, set, drop, Contains, refl, sym, ap, ◌∙◌, subst, inl, inr, arith}
use Rattle.std.proofs.Math.Seq.{drop-append_seam}
use Rattle.std.proofs.lemmas.Bool.{cases_eq, cases_lt, false≢true, ltb-true}
use Rattle.std.proofs.lemmas.List.{append-nil, append_assoc, length_push, get_or_append_left, get_or_push, get_or_default, get_or-set_same, get_or-set_other, length-set}
use Rattle.bundle_order_graph.specs.Walks.{Reaches, itself, along}
use Rattle.bundle_order_graph.proofs.WalkLemmas.{Path-trans}
use Rattle.bundle_order_sort.specs.declared.stack.Progress.{Progress}
use Rattle.bundle_order_sort.specs.Numbers.{NeedsNumber, progress_of, IsOut, is_awaited}
use Rattle.bundle_order_sort.specs.Chains.{Falls, WaitsForNone, AddsChain, AreChains}
use Rattle.bundle_order_sort.proofs.StackLemmas.{before_or_at}

-- ---- what a begun item waits for
waits : (out low begun : Bool) → begun ≡ true → (not out && (low || not begun)) ≡ true → (out ≡ true → ⊥) × (low ≡ true)
waits true low begun b e = absurd (false≢true e)
waits false true begun b e = (λ o. false≢true o, refl)
waits false false true b e = absurd (false≢true e)
waits false false false b e = absurd (false≢true b)

pub awaited-begun : (ranks : List ℕ) (ps : List Progress) (s t : ℕ) → (progress_of ps s).begun ≡ true → is_awaited ranks ps s t ≡ true → (IsOut ps t → ⊥) × (get_or ranks t 0 < get_or ranks s 0)
awaited-begun ranks ps s t b e =
    let w = waits (progress_of ps t).out (nat_lt (get_or ranks t 0) (get_or ranks s 0)) (progress_of ps s).begun b e in
    (w.0, ltb-true (get_or ranks t 0) (get_or ranks s 0) w.1)

-- what is awaited no more stays so
weaker : (out out' low begun begun' : Bool) → (out ≡ true → out' ≡ true) → (begun ≡ true → begun' ≡ true) → (not out && (low || not begun)) ≡ false → (not out' && (low || not begun')) ≡ false
weaker out true low begun begun' f g e = refl
weaker true false low begun begun' f g e = absurd (false≢true (f refl))
weaker false false true begun begun' f g e = absurd (false≢true (sym e))
weaker false false false false begun' f g e = absurd (false≢true (sym e))
weaker false false false true true f g e = refl
weaker false false false true false f g e = absurd (false≢true (g refl))

module _ (needs : List (List ℕ)) (ranks : List ℕ) where
  pub Falls-one : (s t : ℕ) → NeedsNumber needs s t → get_or ranks t 0 < get_or ranks s 0 → Falls needs ranks s t
  Falls-one s t n l = record { path = (t, n, itself); lower = l }

  pub Falls-trans : (s t u : ℕ) → Falls needs ranks s t → Falls needs ranks t u → Falls needs ranks s u
  Falls-trans s t u f g = record { path = Path-trans f.path g.path; lower = omega (arith, f.lower, g.lower) }

  module _ (inside : (s t : ℕ) → NeedsNumber needs s t → t < length needs) where
    Reaches-within : {a b : ℕ} → Reaches (NeedsNumber needs) a b → a < length needs → b < length needs
    Reaches-within itself h = h
    Reaches-within (along {a} {b} e p) h = Reaches-within p (inside a b e)

    pub Falls-within : (s t : ℕ) → Falls needs ranks s t → t < length needs
    Falls-within s t f = Reaches-within f.path.2 (inside s f.path.0 f.path.1)

  module _ (ps : List Progress) (item : ℕ) (base : List ℕ) where
    -- a chain of the item was put on the stack, and its end so far is `at`
    pub record Running (stack : List ℕ) (at : ℕ) : Type 0 where
      pub chain : List ℕ
      pub grown : stack ≡ base ++ chain
      pub falls : (k : ℕ) → k < length chain → Falls needs ranks item (get_or chain k 0)
      pub left : (k : ℕ) → k < length chain → IsOut ps (get_or chain k 0) → ⊥
      pub onward : (k : ℕ) → k < length chain → (get_or chain k 0 ≡ at) ⊎ Falls needs ranks (get_or chain k 0) at
      pub here : (item ≡ at) ⊎ Falls needs ranks item at
      pub short : length chain + get_or ranks at 0 ≤ get_or ranks item 0
      pub none : length chain ≡ 0 → item ≡ at

    pub Running-starts : (stack : List ℕ) → stack ≡ base → Running stack item
    Running-starts stack e = record {
      chain = [];
      grown = e ∙ sym (append-nil base);
      falls = λ k h. absurd (omega (arith, h));
      left = λ k h. absurd (omega (arith, h));
      onward = λ k h. absurd (omega (arith, h));
      here = inl refl;
      short = omega arith;
      none = λ void. refl;
    }

    module _ (stack : List ℕ) (at : ℕ) (r : Running stack at) where
      pub Running-goes : (next : ℕ) → Falls needs ranks at next → (IsOut ps next → ⊥) → (stack' : List ℕ) → stack' ≡ stack ++ next ∷ [] → Running stack' next
      Running-goes next f void stack' e = record {
        chain = r.chain ++ next ∷ [];
        grown = e ∙ (ap (λ (l : List ℕ). l ++ next ∷ []) r.grown ∙ append_assoc base r.chain (next ∷ []));
        falls = λ k h. each (λ x. Falls needs ranks item x) r.falls (onward item r.here) k (before_or_at k (length r.chain) (omega (arith, h, length_push r.chain next)));
        left = λ k h. each (λ x. IsOut ps x → ⊥) r.left void k (before_or_at k (length r.chain) (omega (arith, h, length_push r.chain next)));
        onward = λ k h. each (λ x. (x ≡ next) ⊎ Falls needs ranks x next) (λ i l. inr (onward (get_or r.chain i 0) (r.onward i l))) (inl refl) k (before_or_at k (length r.chain) (omega (arith, h, length_push r.chain next)));
        here = inr (onward item r.here);
        short = omega (arith, r.short, f.lower, length_push r.chain next);
        none = λ z. absurd (omega (arith, z, length_push r.chain next));
      }
        where
          onward : (s : ℕ) → (s ≡ at) ⊎ Falls needs ranks s at → Falls needs ranks s next
          onward s (inl same) = subst (λ x. Falls needs ranks x next) (sym same) f
          onward s (inr g) = Falls-trans s at next g f

          each : (P : ℕ → Type 0) → ((k : ℕ) → k < length r.chain → P (get_or r.chain k 0)) → P next → (k : ℕ) → (k < length r.chain) ⊎ (k ≡ length r.chain) → P (get_or (r.chain ++ next ∷ []) k 0)
          each P old new k (inl l) = subst P (sym (get_or_append_left r.chain (next ∷ []) 0 k l)) (old k l)
          each P old new k (inr e) = subst P (sym (get_or_push r.chain next 0 k (sym e))) new

      pub Running-within : ((s t : ℕ) → NeedsNumber needs s t → t < length needs) → item < length needs → at < length needs
      Running-within inside h = elim r.here [ inl e ↦ subst (λ x. x < length needs) e h | inr f ↦ Falls-within inside item at f ]

      pub Running-adds : AddsChain needs ranks ps item base stack
      Running-adds = record { chain = r.chain; grown = r.grown; falls = r.falls; left = r.left; short = omega (arith, r.short) }

      pub Running-chain : drop (length base) stack ≡ r.chain
      Running-chain = ap (λ (l : List ℕ). drop (length base) l) r.grown ∙ drop-append_seam base r.chain

      -- the end is noted for the item and for all of the chain
      pub AreChains-noted : (ends cursors : List ℕ) → AreChains needs ranks ps ends cursors → item < length needs → (noted : List ℕ) → length noted ≡ length ends → ((s : ℕ) → (get_or noted s 0 ≡ get_or (set ends item at) s 0) ⊎ (Contains (drop (length base) stack) s × (get_or noted s 0 ≡ at))) → AreChains needs ranks ps noted cursors
      AreChains-noted ends cursors w inside noted len each = record {
        ranks_len = w.ranks_len;
        progress_len = w.progress_len;
        ends_len = len ∙ w.ends_len;
        cursors_len = w.cursors_len;
        within = w.within;
        end = λ s h. by s h (each s) (cases_eq s item);
        passed = w.passed;
      }
        where
          turned : (s : ℕ) → (s ≡ at) ⊎ Falls needs ranks s at → (x : ℕ) → x ≡ at → (x ≡ s) ⊎ Falls needs ranks s x
          turned s (inl same) x e = inl (e ∙ sym same)
          turned s (inr f) x e = inr (subst (λ y. Falls needs ranks s y) (sym e) f)

          by : (s : ℕ) → s < length needs → (get_or noted s 0 ≡ get_or (set ends item at) s 0) ⊎ (Contains (drop (length base) stack) s × (get_or noted s 0 ≡ at)) → (s ≡ item) ⊎ (s ≡ item → ⊥) → (get_or noted s 0 ≡ s) ⊎ Falls needs ranks s (get_or noted s 0)
          by s h (inr c) _ =
              let in_chain : Contains r.chain s = subst (λ (l : List ℕ). Contains l s) Running-chain c.0 in
              let is : get_or r.chain in_chain.0 0 ≡ s = get_or_default r.chain in_chain.0 0 s in_chain.1 ∙ in_chain.2 in
              turned s (subst (λ x. (x ≡ at) ⊎ Falls needs ranks x at) is (r.onward in_chain.0 in_chain.1)) (get_or noted s 0) c.1
          by s h (inl e) (inl same) = turned s (subst (λ x. (x ≡ at) ⊎ Falls needs ranks x at) (sym same) r.here) (get_or noted s 0) (e ∙ (ap (λ k. get_or (set ends item at) k 0) same ∙ get_or-set_same ends item at 0 (omega (arith, inside, w.ends_len))))
          by s h (inl e) (inr ne) = subst (λ x. (x ≡ s) ⊎ Falls needs ranks s x) (sym (e ∙ get_or-set_other ends item s at 0 ne)) (w.end s h)

  module _ (ps : List Progress) (ends cursors : List ℕ) (w : AreChains needs ranks ps ends cursors) where
    -- an item's cursor passes needs that it does not wait for
    pub AreChains-passed : (item place : ℕ) → item < length needs → ((k : ℕ) → get_or cursors item 0 ≤ k → k < place → k < length (get_or needs item []) → is_awaited ranks ps item (get_or (get_or needs item []) k 0) ≡ false) → AreChains needs ranks ps ends (set cursors item place)
    AreChains-passed item place h none = record {
      ranks_len = w.ranks_len;
      progress_len = w.progress_len;
      ends_len = w.ends_len;
      cursors_len = length-set cursors item place ∙ w.cursors_len;
      within = w.within;
      end = w.end;
      passed = λ s k l m. by s k l m (cases_eq s item);
    }
      where
        own : (k : ℕ) → k < place → k < length (get_or needs item []) → (k < get_or cursors item 0) ⊎ (get_or cursors item 0 ≤ k) → is_awaited ranks ps item (get_or (get_or needs item []) k 0) ≡ false
        own k l m (inl before) = w.passed item k before m
        own k l m (inr after) = none k after l m

        by : (s k : ℕ) → k < get_or (set cursors item place) s 0 → k < length (get_or needs s []) → (s ≡ item) ⊎ (s ≡ item → ⊥) → is_awaited ranks ps s (get_or (get_or needs s []) k 0) ≡ false
        by s k l m (inr ne) = w.passed s k (subst (λ x. k < x) (get_or-set_other cursors item s place 0 ne) l) m
        by s k l m (inl same) =
            let its : get_or (set cursors item place) s 0 ≡ place = ap (λ x. get_or (set cursors item place) x 0) same ∙ get_or-set_same cursors item place 0 (omega (arith, h, w.cursors_len)) in
            subst (λ x. is_awaited ranks ps x (get_or (get_or needs x []) k 0) ≡ false) (sym same) (own k (subst (λ x. k < x) its l) (subst (λ x. k < length (get_or needs x [])) same m) (cases_lt k (get_or cursors item 0)))

    -- an item waits for nothing once its cursor has passed all that it needs
    pub WaitsForNone-from_passed : (item : ℕ) → length (get_or needs item []) ≤ get_or cursors item 0 → WaitsForNone needs ranks ps item
    WaitsForNone-from_passed item h t n = subst (λ x. is_awaited ranks ps item x ≡ false) (get_or_default (get_or needs item []) n.0 0 t n.1 ∙ n.2) (w.passed item n.0 (omega (arith, n.1, h)) n.1)

    -- the end that is noted for an item is an item
    pub AreChains-within : (item : ℕ) → item < length needs → get_or ends item 0 < length needs
    AreChains-within item h = elim (w.end item h) [ inl e ↦ subst (λ x. x < length needs) (sym e) h | inr f ↦ Falls-within w.within item (get_or ends item 0) f ]

    -- items are begun or go out
    pub AreChains-progress : (ps' : List Progress) → length ps' ≡ length ps → ((t : ℕ) → IsOut ps t → IsOut ps' t) → ((t : ℕ) → (progress_of ps t).begun ≡ true → (progress_of ps' t).begun ≡ true) → AreChains needs ranks ps' ends cursors
    AreChains-progress ps' len outs begins = record {
      ranks_len = w.ranks_len;
      progress_len = len ∙ w.progress_len;
      ends_len = w.ends_len;
      cursors_len = w.cursors_len;
      within = w.within;
      end = w.end;
      passed = λ s k l m. let t = get_or (get_or needs s []) k 0 in weaker (progress_of ps t).out (progress_of ps' t).out (nat_lt (get_or ranks t 0) (get_or ranks s 0)) (progress_of ps s).begun (progress_of ps' s).begun (outs t) (begins s) (w.passed s k l m);
    }

  -- nothing is noted yet
  pub AreChains-starts : (ps : List Progress) (ends cursors : List ℕ) → length ranks ≡ length needs → length ps ≡ length needs → length ends ≡ length needs → length cursors ≡ length needs → ((s t : ℕ) → NeedsNumber needs s t → t < length needs) → ((t : ℕ) → t < length needs → get_or ends t 0 ≡ t) → ((t : ℕ) → get_or cursors t 0 ≡ 0) → AreChains needs ranks ps ends cursors
  AreChains-starts ps ends cursors ranks_len progress_len ends_len cursors_len within same zero = record {
    ranks_len = ranks_len;
    progress_len = progress_len;
    ends_len = ends_len;
    cursors_len = cursors_len;
    within = within;
    end = λ s h. inl (same s h);
    passed = λ s k l m. absurd (omega (arith, l, zero s));
  }
