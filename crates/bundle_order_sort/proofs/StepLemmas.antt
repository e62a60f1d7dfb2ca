-- The steps of the sort, as its code takes them.
use Rattle.std.proofs.Common.{◌≡◌, Bool, true, false, not, ◌&&◌, ◌||◌, nat_lt, IsTrue, ℕ, ◌+◌, ◌-◌, ◌<◌, ◌≤◌, ◌↔◌, List, [], ◌∷◌, ◌++◌, length, get_or, set, take, reverse, Contains, refl, sym, ap, ◌∙◌, subst, inl, inr, arith}
use Rattle.std.specs.List.{All}
use Rattle.std.specs.List.Sorted.{IsStrictlyIncreasing}
use Rattle.std.proofs.lemmas.Bool.{cases_eq, cases_lt, cases_Bool, false≢true}
use Rattle.std.proofs.lemmas.List.{append-nil, length-append, length-reverse, length-set, get_or-reverse, get_or_default, get_or_read, take_more, take_all, nil_from_length}
use Rattle.std.proofs.lemmas.List.Elements.{Contains-get_or}
use Rattle.std.proofs.lemmas.Map.Keys.{sorted_from_strictly_increasing}
use Rattle.std.proofs.lemmas.Map.Views.{length-le_from_below}
use Rattle.bundle_order_graph.specs.Walks.{Path}
use Rattle.bundle_order_graph.proofs.WalkLemmas.{Path-mono}
use Rattle.bundle_order_sort.specs.declared.stack.Progress.{Progress}
use Rattle.bundle_order_sort.specs.Numbers.{NeedsNumber, NumberStep, by_need, unknown, progress_of, IsOut, is_awaited, AreSkips}
use Rattle.bundle_order_sort.specs.Chains.{AddsChain, AreChains}
use Rattle.bundle_order_sort.specs.Topmost.{IsTopmost}
use Rattle.bundle_order_sort.proofs.SortLemmas.{Sorting, Sorting-drops, Sorting-awaits, Sorting-chains, Sorting-pulls, Sorting-outs, Sorting-topmost, written, kept, field}
use Rattle.bundle_order_sort.proofs.ChainLemmas.{Falls-within, AreChains-progress}
use Rattle.bundle_order_sort.proofs.WorkLemmas.{work, rank-le, work-drops, work-begins, work-chains, work-pulls, work-outs, work-topmost}

-- ---- what is left of a list
Contains-reverse : (xs : List ℕ) (t : ℕ) → Contains xs t → Contains (reverse xs) t
Contains-reverse xs t c = (length xs - 1 - c.0, omega (arith, c.1, length-reverse xs), get_or-reverse xs (length xs - 1 - c.0) t (omega (arith, c.1)) ∙ (ap (λ k. get_or xs k t) back ∙ c.2))
  where
    back : length xs - 1 - (length xs - 1 - c.0) ≡ c.0
    back = omega (arith, c.1)

All-reverse : (xs : List ℕ) → All (Contains xs) (reverse xs)
All-reverse xs k d h =
    let l : k < length xs = omega (arith, h, length-reverse xs) in
    subst (λ x. Contains xs x) (sym (get_or-reverse xs k d l)) (Contains-get_or xs (length xs - 1 - k) d (omega (arith, l)))

awaited-left : (out b : Bool) → (not out && b) ≡ true → out ≡ true → ⊥
awaited-left true b a o = false≢true a
awaited-left false b a o = false≢true o

-- ---- the top of a stack
pub without_top : List ℕ → List ℕ
without_top stack = take (length stack - 1) stack

pub top_split : (stack : List ℕ) (s : ℕ) → 0 < length stack → s ≡ get_or stack (length stack - 1) s → stack ≡ without_top stack ++ s ∷ []
unfolding without_top
top_split stack s h e = sym (take_all (length stack - 1 + 1) stack (omega (arith, h))) ∙ (take_more stack (length stack - 1) s (omega (arith, h)) ∙ ap (λ x. take (length stack - 1) stack ++ x ∷ []) (sym e))

pub without_top-is : (stack : List ℕ) → without_top stack ≡ take (length stack - 1) stack
unfolding without_top
without_top-is stack = refl

pub popped : (stack rest : List ℕ) (v : ℕ) → v ≡ length stack → rest ≡ take (v - 1) stack → rest ≡ without_top stack
popped stack rest v e h = h ∙ (ap (λ n. take (n - 1) stack) e ∙ sym (without_top-is stack))

module _ (N : ℕ → ℕ → Type 0) (count : ℕ) (ranks firsts : List ℕ) (inside : (s t : ℕ) → N s t → t < count) (stack : List ℕ) (s : ℕ) (ps : List Progress) (order : List ℕ) (w : Sorting N count ranks firsts stack ps order) (some : 0 < length stack) (top : s ≡ get_or stack (length stack - 1) s) where
  split : stack ≡ without_top stack ++ s ∷ []
  split = top_split stack s some top

  pub stack-in : s < count
  stack-in = subst (λ x. x < count) (sym (top ∙ get_or_default stack (length stack - 1) s 0 (omega (arith, some)))) (w.within (length stack - 1) (omega (arith, some)))

  pub stack-known : s < length ps
  stack-known = omega (arith, stack-in, w.len)

  sorting : Sorting N count ranks firsts (without_top stack ++ s ∷ []) ps order
  sorting = subst (λ (l : List ℕ). Sorting N count ranks firsts l ps order) split w

  module _ (known : Progress) (read : known ≡ get_or ps s known) where
    is : progress_of ps s ≡ known
    is = sym (get_or_read ps s known stack-known read unknown)

    pub stays : (p : Progress) → (known.out ≡ true → p.out ≡ true) → (t : ℕ) → IsOut ps t → IsOut (set ps s p) t
    stays p f t o = elim (cases_eq t s) [
      | inl e ↦ subst (λ x. IsOut (set ps s p) x) (sym e) (ap (λ q. q.out) (written ps s p stack-known) ∙ f (sym (ap (λ q. q.out) is) ∙ subst (λ x. IsOut ps x) e o))
      | inr ne ↦ ap (λ q. q.out) (kept ps s p stack-known t ne) ∙ o
    ]

    pub same_begun : (p : Progress) → p.begun ≡ known.begun → (t : ℕ) → (progress_of (set ps s p) t).begun ≡ (progress_of ps t).begun
    same_begun p e t = field ps s p stack-known (λ q. q.begun) (e ∙ sym (ap (λ q. q.begun) is)) t

    pub now_begun : (p : Progress) → p.begun ≡ true → (progress_of (set ps s p) s).begun ≡ true
    now_begun p e = ap (λ q. q.begun) (written ps s p stack-known) ∙ e

    pub others_begun : (p : Progress) (t : ℕ) → (t ≡ s → ⊥) → (progress_of (set ps s p) t).begun ≡ (progress_of ps t).begun
    others_begun p t ne = ap (λ q. q.begun) (kept ps s p stack-known t ne)

    pub is_known : (progress_of ps s).begun ≡ known.begun
    is_known = ap (λ q. q.begun) is

    pub keeps_skips : (p : Progress) → (known.out ≡ true → p.out ≡ true) → (skips : List ℕ) → AreSkips ps skips → AreSkips (set ps s p) skips
    keeps_skips p f skips h t u l m = stays p f u (h t u l m)

    -- what is noted of the chains stays true
    pub keeps_chains : (needs : List (List ℕ)) → (p : Progress) → (known.out ≡ true → p.out ≡ true) → (known.begun ≡ true → p.begun ≡ true) → (ends cursors : List ℕ) → AreChains needs ranks ps ends cursors → AreChains needs ranks (set ps s p) ends cursors
    keeps_chains needs p f g ends cursors h = AreChains-progress needs ranks ps ends cursors h (set ps s p) (length-set ps s p) (stays p f) begins
      where
        begins : (t : ℕ) → (progress_of ps t).begun ≡ true → (progress_of (set ps s p) t).begun ≡ true
        begins t o = elim (cases_eq t s) [
          | inl e ↦ subst (λ x. (progress_of (set ps s p) x).begun ≡ true) (sym e) (ap (λ q. q.begun) (written ps s p stack-known) ∙ g (sym (ap (λ q. q.begun) is) ∙ subst (λ x. (progress_of ps x).begun ≡ true) e o))
          | inr ne ↦ ap (λ q. q.begun) (kept ps s p stack-known t ne) ∙ o
        ]

    -- an item that is out is dropped
    pub drops : known.out ≡ true → Sorting N count ranks firsts (without_top stack) ps order
    drops o = Sorting-drops N count ranks firsts inside (without_top stack) s ps order sorting (ap (λ q. q.out) is ∙ o)

    pub drops-work : known.out ≡ true → work count ranks ps (without_top stack) < work count ranks ps stack
    drops-work o = subst (λ (l : List ℕ). work count ranks ps (without_top stack) < work count ranks ps l) (sym split) (work-drops count ranks ps (without_top stack) s (ap (λ q. q.out) is ∙ o))

    module _ (left : known.out ≡ false) where
      was_left : (progress_of ps s).out ≡ false
      was_left = ap (λ q. q.out) is ∙ left

      -- the item is begun, and what it needs and is not out is put above it, the first on top
      module _ (new : known.begun ≡ false) (needed : List ℕ) (ascending : IsStrictlyIncreasing needed) (each : (t : ℕ) → Contains needed t ↔ ((IsOut ps t → ⊥) × N s t)) (stack' : List ℕ) (pushed : stack' ≡ stack ++ reverse needed) (p : Progress) (e : p ≡ record { out = known.out; begun = true; next = known.next }) where
        sound : (k : ℕ) → k < length (reverse needed) → N s (get_or (reverse needed) k 0)
        sound k h = ((each (get_or (reverse needed) k 0)).0 (All-reverse needed k 0 h)).1

        not_out : (k : ℕ) → k < length (reverse needed) → IsOut ps (get_or (reverse needed) k 0) → ⊥
        not_out k h = ((each (get_or (reverse needed) k 0)).0 (All-reverse needed k 0 h)).0

        complete : (t : ℕ) → N s t → is_awaited ranks ps s t ≡ true → Contains (reverse needed) t
        complete t n a = Contains-reverse needed t ((each t).1 (awaited-left (progress_of ps t).out (nat_lt (get_or ranks t 0) (get_or ranks s 0) || not (progress_of ps s).begun) a, n))

        short : length (reverse needed) ≤ count
        short = omega (arith, length-reverse needed, length-le_from_below count needed (sorted_from_strictly_increasing needed ascending) (λ k d h. inside s (get_or needed k d) ((each (get_or needed k d)).0 (Contains-get_or needed k d h)).1))

        pushed-split : stack' ≡ (without_top stack ++ s ∷ []) ++ reverse needed
        pushed-split = pushed ∙ ap (λ (l : List ℕ). l ++ reverse needed) split

        pub begins : Sorting N count ranks firsts stack' (set ps s p) order
        begins = subst (λ (l : List ℕ). Sorting N count ranks firsts l (set ps s p) order) (sym pushed-split) (Sorting-awaits N count ranks firsts inside (without_top stack) s ps order sorting (reverse needed) sound not_out complete p (ap (λ q. q.out) e ∙ sym (ap (λ q. q.out) is)) (ap (λ q. q.begun) e) (ap (λ q. q.next) e ∙ sym (ap (λ q. q.next) is)))

        pub begins-work : work count ranks (set ps s p) stack' < work count ranks ps stack
        begins-work =
            subst (λ (l : List ℕ). work count ranks (set ps s p) l < work count ranks ps stack) (sym pushed-split)
            (subst (λ (l : List ℕ). work count ranks (set ps s p) ((without_top stack ++ s ∷ []) ++ reverse needed) < work count ranks ps l) (sym split)
            (work-begins count ranks (without_top stack) s ps stack-known p was_left (reverse needed) short (ap (λ q. q.begun) is ∙ new) (ap (λ q. q.out) e ∙ sym (ap (λ q. q.out) is)) (ap (λ q. q.begun) e) (ap (λ q. q.next) e ∙ sym (ap (λ q. q.next) is))))

      -- a chain of the item is put above it
      module _ (needs : List (List ℕ)) (len : length needs ≡ count) (known_needs : (x y : ℕ) → NeedsNumber needs x y → N x y) (stack' : List ℕ) (adds : AddsChain needs ranks ps s stack stack') where
        steps : (k : ℕ) → k < length adds.chain → Path (NumberStep N firsts) s (get_or adds.chain k 0)
        steps k h = Path-mono (λ x y n. by_need (known_needs x y n)) (adds.falls k h).path

        chain-in : (k : ℕ) → k < length adds.chain → get_or adds.chain k 0 < count
        chain-in k h = omega (arith, Falls-within needs ranks (λ x y n. omega (arith, inside x y (known_needs x y n), len)) s (get_or adds.chain k 0) (adds.falls k h), len)

        grown-split : stack' ≡ (without_top stack ++ s ∷ []) ++ adds.chain
        grown-split = adds.grown ∙ ap (λ (l : List ℕ). l ++ adds.chain) split

        pub chains : Sorting N count ranks firsts stack' ps order
        chains = subst (λ (l : List ℕ). Sorting N count ranks firsts l ps order) (sym grown-split) (Sorting-chains N count ranks firsts inside (without_top stack) s ps order sorting adds.chain steps (λ k h. chain-in k h) adds.left)

        pub chains-work : length stack < length stack' → work count ranks ps stack' < work count ranks ps stack
        chains-work h =
            let any : 0 < length adds.chain = omega (arith, h, ap length adds.grown, length-append stack adds.chain) in
            let last : length adds.chain - 1 < length adds.chain = omega (arith, any) in
            subst (λ (l : List ℕ). work count ranks ps l < work count ranks ps stack) (sym grown-split)
            (subst (λ (l : List ℕ). work count ranks ps ((without_top stack ++ s ∷ []) ++ adds.chain) < work count ranks ps l) (sym split)
            (work-chains count ranks ps (without_top stack) s adds.chain was_left any (omega (arith, adds.short, rank-le count ranks s)) (is_left (length adds.chain - 1) last) (adds.falls (length adds.chain - 1) last).lower))
          where
            is_left : (k : ℕ) → k < length adds.chain → (progress_of ps (get_or adds.chain k 0)).out ≡ false
            is_left k l = elim (cases_Bool (progress_of ps (get_or adds.chain k 0)).out) [ inl o ↦ absurd (adds.left k l o) | inr e ↦ e ]

        -- there is none
        pub same_stack : (b : Bool) → (IsTrue b ↔ (length stack < length stack')) → b ≡ false → stack' ≡ stack
        same_stack b any nothing = adds.grown ∙ (ap (λ (l : List ℕ). stack ++ l) (nil_from_length adds.chain empty) ∙ append-nil stack)
          where
            empty : length adds.chain ≡ 0
            empty = elim (cases_lt (length stack) (length stack')) [ inl h ↦ absurd (false≢true (sym nothing ∙ any.1 h)) | inr h ↦ omega (arith, h, ap length adds.grown, length-append stack adds.chain) ]

      -- of each item that is not out the topmost entry is kept
      module _ (kept' : List ℕ) (topmost : IsTopmost (λ t. IsOut ps t → ⊥) stack kept') where
        pub shortens : Sorting N count ranks firsts kept' ps order
        shortens = Sorting-topmost N count ranks firsts stack kept' ps order w topmost

        pub shortens-work : length kept' < length stack → work count ranks ps kept' < work count ranks ps stack
        shortens-work h = work-topmost count ranks ps stack kept' topmost some (λ o. false≢true (sym was_left ∙ subst (λ x. IsOut ps x) (sym (top ∙ get_or_default stack (length stack - 1) s 0 (omega (arith, some)))) o)) h

      -- it waits for nothing
      module _ (stack' : List ℕ) (same : stack' ≡ stack) (none : (t : ℕ) → N s t → is_awaited ranks ps s t ≡ false) where
        module _ (e : ℕ) (skipped : (t : ℕ) → known.next ≤ t → t < e → IsOut ps t) (high : known.next ≤ e) where
          skipped' : (t : ℕ) → (progress_of ps s).next ≤ t → t < e → IsOut ps t
          skipped' t h l = skipped t (subst (λ q. q.next ≤ t) is h) l

          high' : (progress_of ps s).next ≤ e
          high' = subst (λ q. q.next ≤ e) (sym is) high

          pub pulls : e < s → (IsOut ps e → ⊥) → (p : Progress) → p ≡ record { out = known.out; begun = known.begun; next = e + 1 } → (now : List ℕ) → now ≡ stack' ++ e ∷ [] → Sorting N count ranks firsts now (set ps s p) order
          pulls low not_out p f now g =
              subst (λ (l : List ℕ). Sorting N count ranks firsts l (set ps s p) order) (sym (g ∙ ap (λ (l : List ℕ). l ++ e ∷ []) (same ∙ split)))
              (Sorting-pulls N count ranks firsts inside (without_top stack) s ps order sorting e high' low not_out skipped' p (ap (λ q. q.out) f ∙ sym (ap (λ q. q.out) is)) (ap (λ q. q.begun) f ∙ sym (ap (λ q. q.begun) is)) (ap (λ q. q.next) f))

          pub pulls-work : e < s → (p : Progress) → p ≡ record { out = known.out; begun = known.begun; next = e + 1 } → (now : List ℕ) → now ≡ stack' ++ e ∷ [] → work count ranks (set ps s p) now < work count ranks ps stack
          pulls-work low p f now g =
              subst (λ (l : List ℕ). work count ranks (set ps s p) l < work count ranks ps stack) (sym (g ∙ ap (λ (l : List ℕ). l ++ e ∷ []) (same ∙ split)))
              (subst (λ (l : List ℕ). work count ranks (set ps s p) ((without_top stack ++ s ∷ []) ++ e ∷ []) < work count ranks ps l) (sym split)
              (work-pulls count ranks (without_top stack) s ps stack-known p was_left e high' (omega (arith, low, stack-in)) (ap (λ q. q.out) f ∙ sym (ap (λ q. q.out) is)) (ap (λ q. q.begun) f ∙ sym (ap (λ q. q.begun) is)) (ap (λ q. q.next) f)))

          pub outs : s ≤ e → (p : Progress) → p ≡ record { out = true; begun = known.begun; next = known.next } → (now : List ℕ) → now ≡ order ++ s ∷ [] → Sorting N count ranks firsts (without_top stack) (set ps s p) now
          outs past p f now g =
              subst (λ (l : List ℕ). Sorting N count ranks firsts (without_top stack) (set ps s p) l) (sym g)
              (Sorting-outs N count ranks firsts inside (without_top stack) s ps order sorting none (λ t h l. skipped' t h (omega (arith, l, past))) (λ o. false≢true (sym was_left ∙ o)) p (ap (λ q. q.out) f) (ap (λ q. q.begun) f ∙ sym (ap (λ q. q.begun) is)) (ap (λ q. q.next) f ∙ sym (ap (λ q. q.next) is)))

          pub outs-work : (p : Progress) → p ≡ record { out = true; begun = known.begun; next = known.next } → work count ranks (set ps s p) (without_top stack) < work count ranks ps stack
          outs-work p f =
              subst (λ (l : List ℕ). work count ranks (set ps s p) (without_top stack) < work count ranks ps l) (sym split)
              (work-outs count ranks (without_top stack) s ps stack-known p was_left (ap (λ q. q.out) f) (ap (λ q. q.begun) f ∙ sym (ap (λ q. q.begun) is)) (ap (λ q. q.next) f ∙ sym (ap (λ q. q.next) is)))
