-- What the walk that lists the items keeps true, step by step.
use Rattle.std.proofs.Common.{◌≡◌, ◌≢◌, Bool, true, false, ℕ, ◌+◌, ◌-◌, ◌*◌, ◌<◌, ◌≤◌, ◌⊎◌, max, zero, suc, List, [], ◌∷◌, ◌++◌, length, get_or, set, sum_by, Contains, refl, sym, ap, ◌∙◌, subst, inl, inr, arith}
use Rattle.std.proofs.lemmas.Bool.{cases_eq, cases_lt, false≢true}
use Rattle.std.proofs.lemmas.List.{length_push, get_or_append_left, get_or_push, get_or_default, get_or_past, get_or-set_same, get_or-set_other, length-set}
use Rattle.std.proofs.lemmas.List.Elements.{Contains-append_left, Contains-push, Contains-get_or}
use Rattle.std.proofs.lemmas.List.Sums.{sum_by-set, sum_by_push}
use Rattle.std.proofs.Math.Nat.{mul-le-mul_left}
use Rattle.bundle_order_graph.specs.Walks.{Reaches, itself}
use Rattle.bundle_order_graph.specs.declared.classes.Visit.{Visit}
use Rattle.bundle_order_graph.specs.Classes.{Leads, IsListed, earlier, later, IsPostOrder, no_visit, visit_at, IsBegun, IsMet, is_listed, is_open, Walking}
use Rattle.bundle_order_graph.proofs.LeadLemmas.{before_or_at, one_unless, Reaches-more}

-- ---- what is begun
begun_within : (begun : List Bool) (t : ℕ) → IsBegun begun t → t < length begun
begun_within begun t b = elim (cases_lt t (length begun)) [ inl l ↦ l | inr g ↦ absurd (false≢true (sym (get_or_past begun t false g) ∙ b)) ]

module _ (begun : List Bool) (t : ℕ) (h : t < length begun) where
  pub begun_now : IsBegun (set begun t true) t
  begun_now = get_or-set_same begun t true false h

  pub begun_still : (x : ℕ) → IsBegun begun x → IsBegun (set begun t true) x
  begun_still x b = elim (cases_eq x t) [
    | inl e ↦ subst (λ y. IsBegun (set begun t true) y) (sym e) begun_now
    | inr ne ↦ get_or-set_other begun t x true false ne ∙ b
  ]

  begun_before : (x : ℕ) → x ≢ t → IsBegun (set begun t true) x → IsBegun begun x
  begun_before x ne b = sym (get_or-set_other begun t x true false ne) ∙ b

-- ---- the list of what is open, and its last
module _ (rest : List Visit) (v : Visit) where
  length_top : length (rest ++ v ∷ []) ≡ length rest + 1
  length_top = length_push rest v

  at_top : (i : ℕ) → i ≡ length rest → visit_at (rest ++ v ∷ []) i ≡ v
  at_top i e = get_or_push rest v no_visit i (sym e)

  at_rest : (i : ℕ) → i < length rest → visit_at (rest ++ v ∷ []) i ≡ visit_at rest i
  at_rest i h = get_or_append_left rest (v ∷ []) no_visit i h

module _ (edges : List (List ℕ)) where
  -- the visits are the same items, and what they have looked at is begun
  pub Walking-same : (begun : List Bool) (visits visits' : List Visit) (listed : List ℕ) → Walking edges begun visits listed → length visits' ≡ length visits → ((i : ℕ) → (visit_at visits' i).item ≡ (visit_at visits i).item) → ((i n : ℕ) → i < length visits' → n < (visit_at visits' i).next → n < length (get_or edges (visit_at visits' i).item []) → IsBegun begun (get_or (get_or edges (visit_at visits' i).item []) n 0)) → Walking edges begun visits' listed
  Walking-same begun visits visits' listed w len same looked = record {
    len = w.len;
    found = λ t b. elim (w.found t b) [ inl c ↦ inl c | inr o ↦ inr (o.0, omega (arith, o.1, len), same o.0 ∙ o.2) ];
    open_begun = λ i h. subst (λ x. IsBegun begun x) (sym (same i)) (w.open_begun i (omega (arith, h, len)));
    open_once = λ i j h l e. w.open_once i j h (omega (arith, l, len)) (sym (same i) ∙ (e ∙ same j));
    apart = λ i k h l e. w.apart i k (omega (arith, h, len)) l (sym (same i) ∙ e);
    chain = λ i j h l. subst (λ x. Reaches (Leads edges) x (visit_at visits' j).item) (sym (same i)) (subst (λ y. Reaches (Leads edges) (visit_at visits i).item y) (sym (same j)) (w.chain i j h (omega (arith, l, len))));
    looked = looked;
    listed_begun = w.listed_begun;
    once = w.once;
    back = λ k t h d. back k t (w.back k t h d);
  }
    where
      back : (k t : ℕ) → IsMet edges visits listed k t → IsMet edges visits' listed k t
      back k t (is_listed m) = is_listed m
      back k t (is_open i h e r) = is_open i (omega (arith, h, len)) (same i ∙ e) r

  -- an item that is not begun is opened, which all that is open reaches
  module _ (begun : List Bool) (visits : List Visit) (listed : List ℕ) (w : Walking edges begun visits listed) (u : Visit) (within : u.item < length edges) (new : IsBegun begun u.item → ⊥) (start : u.next ≡ 0) (reached : (i : ℕ) → i < length visits → Reaches (Leads edges) (visit_at visits i).item u.item) where
    in_begun : u.item < length begun
    in_begun = omega (arith, within, w.len)

    item_at : (i : ℕ) → i < length visits → (visit_at (visits ++ u ∷ []) i).item ≡ (visit_at visits i).item
    item_at i h = ap (λ x. x.item) (at_rest visits u i h)

    item_new : (i : ℕ) → i ≡ length visits → (visit_at (visits ++ u ∷ []) i).item ≡ u.item
    item_new i e = ap (λ x. x.item) (at_top visits u i e)

    old_or_new : (i : ℕ) → i < length (visits ++ u ∷ []) → (i < length visits) ⊎ (i ≡ length visits)
    old_or_new i h = before_or_at i (length visits) (omega (arith, h, length_top visits u))

    pub Walking-opens : Walking edges (set begun u.item true) (visits ++ u ∷ []) listed
    Walking-opens = record {
      len = length-set begun u.item true ∙ w.len;
      found = λ t b. found t b (cases_eq t u.item);
      open_begun = λ i h. elim (old_or_new i h) [
        | inl l ↦ subst (λ x. IsBegun (set begun u.item true) x) (sym (item_at i l)) (begun_still begun u.item in_begun (visit_at visits i).item (w.open_begun i l))
        | inr e ↦ subst (λ x. IsBegun (set begun u.item true) x) (sym (item_new i e)) (begun_now begun u.item in_begun)
      ];
      open_once = λ i j h l. open_once i j h l (old_or_new j l);
      apart = λ i k h l. apart i k l (old_or_new i h);
      chain = λ i j h l. chain i j h (old_or_new j l);
      looked = λ i n h l m. looked i n l m (old_or_new i h);
      listed_begun = λ k h. begun_still begun u.item in_begun (get_or listed k 0) (w.listed_begun k h);
      once = w.once;
      back = λ k t h d. back k t (w.back k t h d);
    }
      where
        found : (t : ℕ) → IsBegun (set begun u.item true) t → (t ≡ u.item) ⊎ (t ≡ u.item → ⊥) → Contains listed t ⊎ ((i : ℕ) × (i < length (visits ++ u ∷ [])) × ((visit_at (visits ++ u ∷ []) i).item ≡ t))
        found t b (inl e) = inr (length visits, omega (arith, length_top visits u), item_new (length visits) refl ∙ sym e)
        found t b (inr ne) = elim (w.found t (begun_before begun u.item in_begun t ne b)) [ inl c ↦ inl c | inr o ↦ inr (o.0, omega (arith, o.1, length_top visits u), item_at o.0 o.1 ∙ o.2) ]

        open_once : (i j : ℕ) → i < j → j < length (visits ++ u ∷ []) → (j < length visits) ⊎ (j ≡ length visits) → (visit_at (visits ++ u ∷ []) i).item ≢ (visit_at (visits ++ u ∷ []) j).item
        open_once i j h l (inl k) e = w.open_once i j h k (sym (item_at i (omega (arith, h, k))) ∙ (e ∙ item_at j k))
        open_once i j h l (inr k) e =
            let i_in : i < length visits = omega (arith, h, k) in
            new (subst (λ x. IsBegun begun x) (sym (item_at i i_in) ∙ (e ∙ item_new j k)) (w.open_begun i i_in))

        apart : (i k : ℕ) → k < length listed → (i < length visits) ⊎ (i ≡ length visits) → (visit_at (visits ++ u ∷ []) i).item ≢ get_or listed k 0
        apart i k l (inl h) e = w.apart i k h l (sym (item_at i h) ∙ e)
        apart i k l (inr h) e = new (subst (λ x. IsBegun begun x) (sym e ∙ item_new i h) (w.listed_begun k l))

        chain : (i j : ℕ) → i ≤ j → (j < length visits) ⊎ (j ≡ length visits) → Reaches (Leads edges) (visit_at (visits ++ u ∷ []) i).item (visit_at (visits ++ u ∷ []) j).item
        chain i j h (inl l) = subst (λ x. Reaches (Leads edges) x (visit_at (visits ++ u ∷ []) j).item) (sym (item_at i (omega (arith, h, l)))) (subst (λ y. Reaches (Leads edges) (visit_at visits i).item y) (sym (item_at j l)) (w.chain i j h l))
        chain i j h (inr l) = subst (λ y. Reaches (Leads edges) (visit_at (visits ++ u ∷ []) i).item y) (sym (item_new j l)) (from (before_or_at i (length visits) (omega (arith, h, l))))
          where
            from : (i < length visits) ⊎ (i ≡ length visits) → Reaches (Leads edges) (visit_at (visits ++ u ∷ []) i).item u.item
            from (inl k) = subst (λ x. Reaches (Leads edges) x u.item) (sym (item_at i k)) (reached i k)
            from (inr k) = subst (λ x. Reaches (Leads edges) x u.item) (sym (item_new i k)) itself

        looked : (i n : ℕ) → n < (visit_at (visits ++ u ∷ []) i).next → n < length (get_or edges (visit_at (visits ++ u ∷ []) i).item []) → (i < length visits) ⊎ (i ≡ length visits) → IsBegun (set begun u.item true) (get_or (get_or edges (visit_at (visits ++ u ∷ []) i).item []) n 0)
        looked i n l m (inl h) = subst (λ x. IsBegun (set begun u.item true) (get_or (get_or edges x.item []) n 0)) (sym (at_rest visits u i h)) (begun_still begun u.item in_begun (get_or (get_or edges (visit_at visits i).item []) n 0) (w.looked i n h (subst (λ x. n < x.next) (at_rest visits u i h) l) (subst (λ x. n < length (get_or edges x.item [])) (at_rest visits u i h) m)))
        looked i n l m (inr h) = absurd (let none : n < u.next = subst (λ x. n < x.next) (at_top visits u i h) l in omega (arith, none, start))

        back : (k t : ℕ) → IsMet edges visits listed k t → IsMet edges (visits ++ u ∷ []) listed k t
        back k t (is_listed m) = is_listed m
        back k t (is_open i h e r) = is_open i (omega (arith, h, length_top visits u)) (item_at i h ∙ e) r

  -- the last of what is open
  module _ (begun : List Bool) (rest : List Visit) (v : Visit) (listed : List ℕ) (w : Walking edges begun (rest ++ v ∷ []) listed) where
    reaches_top : (i : ℕ) → i < length (rest ++ v ∷ []) → Reaches (Leads edges) (visit_at (rest ++ v ∷ []) i).item v.item
    reaches_top i h = subst (λ y. Reaches (Leads edges) (visit_at (rest ++ v ∷ []) i).item y.item) (at_top rest v (length rest) refl) (w.chain i (length rest) (omega (arith, h, length_top rest v)) (omega (arith, length_top rest v)))

    top_begun : IsBegun begun v.item
    top_begun = subst (λ y. IsBegun begun y.item) (at_top rest v (length rest) refl) (w.open_begun (length rest) (omega (arith, length_top rest v)))

    pub top_in : v.item < length edges
    top_in = omega (arith, begun_within begun v.item top_begun, w.len)

    -- it goes past an edge
    module _ (end : ℕ) (in_list : v.next < length (get_or edges v.item [])) (is : end ≡ get_or (get_or edges v.item []) v.next 0) where
      edge : Leads edges v.item end
      edge = subst (λ x. Leads edges v.item x) (sym is) (Contains-get_or (get_or edges v.item []) v.next 0 in_list)

      next : Visit
      next = record { item = v.item; next = v.next + 1 }

      next-is : next ≡ record { item = v.item; next = v.next + 1 }
      unfolding next
      next-is = refl

      same_item : (i : ℕ) → (visit_at (rest ++ next ∷ []) i).item ≡ (visit_at (rest ++ v ∷ []) i).item
      same_item i = elim (cases_lt i (length rest)) [
        | inl l ↦ ap (λ x. x.item) (at_rest rest next i l ∙ sym (at_rest rest v i l))
        | inr g ↦ elim (cases_eq i (length rest)) [
          | inl e ↦ ap (λ x. x.item) (at_top rest next i e) ∙ (ap (λ x. x.item) next-is ∙ sym (ap (λ x. x.item) (at_top rest v i e)))
          | inr ne ↦ ap (λ x. x.item) (get_or_past (rest ++ next ∷ []) i no_visit (omega (arith, length_top rest next, g, ne)) ∙ sym (get_or_past (rest ++ v ∷ []) i no_visit (omega (arith, length_top rest v, g, ne))))
        ]
      ]

      -- what is looked at, once the edge's end is begun
      looked_on : (begun' : List Bool) → ((x : ℕ) → IsBegun begun x → IsBegun begun' x) → IsBegun begun' end → (i n : ℕ) → i < length (rest ++ next ∷ []) → n < (visit_at (rest ++ next ∷ []) i).next → n < length (get_or edges (visit_at (rest ++ next ∷ []) i).item []) → IsBegun begun' (get_or (get_or edges (visit_at (rest ++ next ∷ []) i).item []) n 0)
      looked_on begun' still b i n h l m = subst (λ x. IsBegun begun' (get_or (get_or edges x []) n 0)) (sym (same_item i)) (by (before_or_at i (length rest) (omega (arith, h, length_top rest next))))
        where
          m' : n < length (get_or edges (visit_at (rest ++ v ∷ []) i).item [])
          m' = subst (λ x. n < length (get_or edges x [])) (same_item i) m

          i_in : i < length (rest ++ v ∷ [])
          i_in = omega (arith, h, length_top rest next, length_top rest v)

          old : n < (visit_at (rest ++ v ∷ []) i).next → IsBegun begun' (get_or (get_or edges (visit_at (rest ++ v ∷ []) i).item []) n 0)
          old p = still (get_or (get_or edges (visit_at (rest ++ v ∷ []) i).item []) n 0) (w.looked i n i_in p m')

          at : i ≡ length rest → (n < v.next) ⊎ (n ≡ v.next) → IsBegun begun' (get_or (get_or edges (visit_at (rest ++ v ∷ []) i).item []) n 0)
          at e (inl p) = old (subst (λ x. n < x.next) (sym (at_top rest v i e)) p)
          at e (inr p) = subst (λ x. IsBegun begun' x) (is ∙ (ap (λ k. get_or (get_or edges v.item []) k 0) (sym p) ∙ ap (λ x. get_or (get_or edges x.item []) n 0) (sym (at_top rest v i e)))) b

          by : (i < length rest) ⊎ (i ≡ length rest) → IsBegun begun' (get_or (get_or edges (visit_at (rest ++ v ∷ []) i).item []) n 0)
          by (inl p) = old (subst (λ x. n < x.next) (at_rest rest next i p ∙ sym (at_rest rest v i p)) l)
          by (inr e) = at e (before_or_at n v.next (let far : n < next.next = subst (λ x. n < x.next) (at_top rest next i e) l in omega (arith, far, ap (λ x. x.next) next-is)))

      pub Walking-passes : (later' : Visit) → later' ≡ record { item = v.item; next = v.next + 1 } → IsBegun begun end → Walking edges begun (rest ++ later' ∷ []) listed
      Walking-passes later' e b = subst (λ (x : Visit). Walking edges begun (rest ++ x ∷ []) listed) (next-is ∙ sym e) (Walking-same begun (rest ++ v ∷ []) (rest ++ next ∷ []) listed w (length_top rest next ∙ sym (length_top rest v)) same_item (looked_on begun (λ x c. c) b))

      module _ (first later' : Visit) (fresh : first ≡ record { item = end; next = 0 }) (inside : end < length edges) (new : IsBegun begun end → ⊥) where
        first_item : first.item ≡ end
        first_item = ap (λ x. x.item) fresh

        opened : Walking edges (set begun first.item true) ((rest ++ v ∷ []) ++ first ∷ []) listed
        opened = Walking-opens begun (rest ++ v ∷ []) listed w first (subst (λ x. x < length edges) (sym first_item) inside) (λ b. new (subst (λ x. IsBegun begun x) first_item b)) (ap (λ x. x.next) fresh) (λ i h. subst (λ x. Reaches (Leads edges) (visit_at (rest ++ v ∷ []) i).item x) (sym first_item) (Reaches-more (reaches_top i h) edge))

        two_items : (i : ℕ) → (visit_at ((rest ++ next ∷ []) ++ first ∷ []) i).item ≡ (visit_at ((rest ++ v ∷ []) ++ first ∷ []) i).item
        two_items i = elim (cases_lt i (length rest + 1)) [
          | inl l ↦ ap (λ x. x.item) (at_rest (rest ++ next ∷ []) first i (omega (arith, l, length_top rest next))) ∙ (same_item i ∙ sym (ap (λ x. x.item) (at_rest (rest ++ v ∷ []) first i (omega (arith, l, length_top rest v)))))
          | inr g ↦ elim (cases_eq i (length rest + 1)) [
            | inl e ↦ ap (λ x. x.item) (at_top (rest ++ next ∷ []) first i (omega (arith, e, length_top rest next)) ∙ sym (at_top (rest ++ v ∷ []) first i (omega (arith, e, length_top rest v))))
            | inr ne ↦ ap (λ x. x.item) (get_or_past ((rest ++ next ∷ []) ++ first ∷ []) i no_visit (omega (arith, length_top (rest ++ next ∷ []) first, length_top rest next, g, ne)) ∙ sym (get_or_past ((rest ++ v ∷ []) ++ first ∷ []) i no_visit (omega (arith, length_top (rest ++ v ∷ []) first, length_top rest v, g, ne))))
          ]
        ]

        begun' : List Bool
        begun' = set begun first.item true

        begun'-is : begun' ≡ set begun first.item true
        unfolding begun'
        begun'-is = refl

        inside' : first.item < length begun
        inside' = omega (arith, inside, first_item, w.len)

        still : (x : ℕ) → IsBegun begun x → IsBegun begun' x
        still x b = subst (λ (l : List Bool). IsBegun l x) (sym begun'-is) (begun_still begun first.item inside' x b)

        end_begun : IsBegun begun' end
        end_begun = subst (λ (l : List Bool). IsBegun l end) (sym begun'-is) (subst (λ x. IsBegun (set begun first.item true) x) first_item (begun_now begun first.item inside'))

        looked_both : (i n : ℕ) → i < length ((rest ++ next ∷ []) ++ first ∷ []) → n < (visit_at ((rest ++ next ∷ []) ++ first ∷ []) i).next → n < length (get_or edges (visit_at ((rest ++ next ∷ []) ++ first ∷ []) i).item []) → IsBegun begun' (get_or (get_or edges (visit_at ((rest ++ next ∷ []) ++ first ∷ []) i).item []) n 0)
        looked_both i n h l m = by (before_or_at i (length (rest ++ next ∷ [])) (omega (arith, h, length_top (rest ++ next ∷ []) first)))
          where
            by : (i < length (rest ++ next ∷ [])) ⊎ (i ≡ length (rest ++ next ∷ [])) → IsBegun begun' (get_or (get_or edges (visit_at ((rest ++ next ∷ []) ++ first ∷ []) i).item []) n 0)
            by (inl p) = subst (λ x. IsBegun begun' (get_or (get_or edges x.item []) n 0)) (sym (at_rest (rest ++ next ∷ []) first i p)) (looked_on begun' still end_begun i n p (subst (λ x. n < x.next) (at_rest (rest ++ next ∷ []) first i p) l) (subst (λ x. n < length (get_or edges x.item [])) (at_rest (rest ++ next ∷ []) first i p) m))
            by (inr e) = absurd (let none : n < first.next = subst (λ x. n < x.next) (at_top (rest ++ next ∷ []) first i e) l in omega (arith, none, ap (λ x. x.next) fresh))

        both : Walking edges begun' ((rest ++ next ∷ []) ++ first ∷ []) listed
        both = Walking-same begun' ((rest ++ v ∷ []) ++ first ∷ []) ((rest ++ next ∷ []) ++ first ∷ []) listed (subst (λ (l : List Bool). Walking edges l ((rest ++ v ∷ []) ++ first ∷ []) listed) (sym begun'-is) opened) (omega (arith, length_top (rest ++ next ∷ []) first, length_top rest next, length_top (rest ++ v ∷ []) first, length_top rest v)) two_items looked_both

        pub Walking-begins : later' ≡ record { item = v.item; next = v.next + 1 } → Walking edges (set begun end true) ((rest ++ later' ∷ []) ++ first ∷ []) listed
        Walking-begins e = subst (λ (x : Visit). Walking edges (set begun end true) ((rest ++ x ∷ []) ++ first ∷ []) listed) (next-is ∙ sym e) (subst (λ (l : List Bool). Walking edges l ((rest ++ next ∷ []) ++ first ∷ []) listed) (begun'-is ∙ ap (λ x. set begun x true) first_item) both)

    -- all that its edges lead to is begun: it is listed
    module _ (all : length (get_or edges v.item []) ≤ v.next) where
      after : List ℕ
      after = listed ++ v.item ∷ []

      after-is : after ≡ listed ++ v.item ∷ []
      unfolding after
      after-is = refl

      length_after : length after ≡ length listed + 1
      length_after = ap length after-is ∙ length_push listed v.item

      old_at : (k : ℕ) → k < length listed → get_or after k 0 ≡ get_or listed k 0
      old_at k h = ap (λ (l : List ℕ). get_or l k 0) after-is ∙ get_or_append_left listed (v.item ∷ []) 0 k h

      new_at : (k : ℕ) → k ≡ length listed → get_or after k 0 ≡ v.item
      new_at k e = ap (λ (l : List ℕ). get_or l k 0) after-is ∙ get_or_push listed v.item 0 k (sym e)

      item_rest : (i : ℕ) → i < length rest → (visit_at (rest ++ v ∷ []) i).item ≡ (visit_at rest i).item
      item_rest i h = ap (λ x. x.item) (at_rest rest v i h)

      item_top : (i : ℕ) → i ≡ length rest → (visit_at (rest ++ v ∷ []) i).item ≡ v.item
      item_top i e = ap (λ x. x.item) (at_top rest v i e)

      wide : (i : ℕ) → i < length rest → i < length (rest ++ v ∷ [])
      wide i h = omega (arith, h, length_top rest v)

      rest_or_top : (i : ℕ) → i < length (rest ++ v ∷ []) → (i < length rest) ⊎ (i ≡ length rest)
      rest_or_top i h = before_or_at i (length rest) (omega (arith, h, length_top rest v))

      old_or_last : (k : ℕ) → k < length after → (k < length listed) ⊎ (k ≡ length listed)
      old_or_last k h = before_or_at k (length listed) (omega (arith, h, length_after))

      reaches_item : (i : ℕ) → i < length rest → Reaches (Leads edges) (visit_at rest i).item v.item
      reaches_item i h = subst (λ x. Reaches (Leads edges) x v.item) (item_rest i h) (reaches_top i (wide i h))

      -- all that was listed from some place on is reached, and the new one too
      reaches_more : (t k : ℕ) → ((m : ℕ) → k ≤ m → m < length listed → Reaches (Leads edges) t (get_or listed m 0)) → Reaches (Leads edges) t v.item → (m : ℕ) → k ≤ m → m < length after → Reaches (Leads edges) t (get_or after m 0)
      reaches_more t k r last m h l = elim (old_or_last m l) [
        | inl o ↦ subst (λ x. Reaches (Leads edges) t x) (sym (old_at m o)) (r m h o)
        | inr e ↦ subst (λ x. Reaches (Leads edges) t x) (sym (new_at m e)) last
      ]

      -- the item at place i of what was open is met, and all that was listed from place k on is reached from it
      met : (k t i : ℕ) → k ≤ length listed → (visit_at (rest ++ v ∷ []) i).item ≡ t → ((m : ℕ) → k ≤ m → m < length listed → Reaches (Leads edges) t (get_or listed m 0)) → (i < length rest) ⊎ (i ≡ length rest) → IsMet edges rest after k t
      met k t i low e r (inl h) = is_open i h (sym (item_rest i h) ∙ e) (reaches_more t k r (subst (λ x. Reaches (Leads edges) x v.item) (sym (item_rest i h) ∙ e) (reaches_item i h)))
      met k t i low e r (inr h) =
          let is : v.item ≡ t = sym (item_top i h) ∙ e in
          is_listed (later (length listed) low (omega (arith, length_after)) (new_at (length listed) refl ∙ is) (λ m a b. reaches_more t k r (subst (λ x. Reaches (Leads edges) t x) (sym is) itself) m a (omega (arith, b, length_after))))

      back_old : (k t : ℕ) → k < length listed → IsMet edges (rest ++ v ∷ []) listed k t → IsMet edges rest after k t
      back_old k t h (is_listed (earlier j b e)) = is_listed (earlier j b (old_at j (omega (arith, b, h)) ∙ e))
      back_old k t h (is_listed (later j a b e r)) = is_listed (later j a (omega (arith, b, length_after)) (old_at j b ∙ e) (λ m x y. subst (λ z. Reaches (Leads edges) t z) (sym (old_at m (omega (arith, y, b)))) (r m x y)))
      back_old k t h (is_open i l e r) = met k t i (omega (arith, h)) e r (rest_or_top i l)

      back_new : (k t : ℕ) → k ≡ length listed → Contains listed t ⊎ ((i : ℕ) × (i < length (rest ++ v ∷ [])) × ((visit_at (rest ++ v ∷ []) i).item ≡ t)) → IsMet edges rest after k t
      back_new k t h (inl c) = is_listed (earlier c.0 (omega (arith, c.1, h)) (old_at c.0 c.1 ∙ (get_or_default listed c.0 0 t c.1 ∙ c.2)))
      back_new k t h (inr o) = met k t o.0 (omega (arith, h)) o.2 (λ m a b. absurd (omega (arith, a, b, h))) (rest_or_top o.0 o.1)

      looked_at : (t : ℕ) → Leads edges v.item t → IsBegun begun t
      looked_at t d =
          let top = at_top rest v (length rest) refl in
          subst (λ x. IsBegun begun x) (get_or_default (get_or edges v.item []) d.0 0 t d.1 ∙ d.2) (subst (λ (x : Visit). IsBegun begun (get_or (get_or edges x.item []) d.0 0)) top (w.looked (length rest) d.0 (omega (arith, length_top rest v)) (subst (λ (x : Visit). d.0 < x.next) (sym top) (omega (arith, d.1, all))) (subst (λ (x : Visit). d.0 < length (get_or edges x.item [])) (sym top) d.1)))

      lists : Walking edges begun rest after
      lists = record {
        len = w.len;
        found = λ t b. found t (w.found t b);
        open_begun = λ i h. subst (λ x. IsBegun begun x) (item_rest i h) (w.open_begun i (wide i h));
        open_once = λ i j h l e. w.open_once i j h (wide j l) (item_rest i (omega (arith, h, l)) ∙ (e ∙ sym (item_rest j l)));
        apart = λ i k h l. apart i k h (old_or_last k l);
        chain = λ i j h l. subst (λ x. Reaches (Leads edges) x (visit_at rest j).item) (item_rest i (omega (arith, h, l))) (subst (λ y. Reaches (Leads edges) (visit_at (rest ++ v ∷ []) i).item y) (item_rest j l) (w.chain i j h (wide j l)));
        looked = λ i n h l m. subst (λ (x : Visit). IsBegun begun (get_or (get_or edges x.item []) n 0)) (at_rest rest v i h) (w.looked i n (wide i h) (subst (λ (x : Visit). n < x.next) (sym (at_rest rest v i h)) l) (subst (λ (x : Visit). n < length (get_or edges x.item [])) (sym (at_rest rest v i h)) m));
        listed_begun = λ k h. elim (old_or_last k h) [
          | inl l ↦ subst (λ x. IsBegun begun x) (sym (old_at k l)) (w.listed_begun k l)
          | inr e ↦ subst (λ x. IsBegun begun x) (sym (new_at k e)) top_begun
        ];
        once = λ i j h l. once i j h (old_or_last j l);
        back = λ k t h d. back k t d (old_or_last k h);
      }
        where
          found : (t : ℕ) → Contains listed t ⊎ ((i : ℕ) × (i < length (rest ++ v ∷ [])) × ((visit_at (rest ++ v ∷ []) i).item ≡ t)) → Contains after t ⊎ ((i : ℕ) × (i < length rest) × ((visit_at rest i).item ≡ t))
          found t (inl c) = inl (subst (λ (l : List ℕ). Contains l t) (sym after-is) (Contains-append_left listed (v.item ∷ []) t c))
          found t (inr o) = elim (rest_or_top o.0 o.1) [
            | inl l ↦ inr (o.0, l, sym (item_rest o.0 l) ∙ o.2)
            | inr e ↦ inl (subst (λ (l : List ℕ). Contains l t) (sym after-is) (subst (λ x. Contains (listed ++ v.item ∷ []) x) (sym (item_top o.0 e) ∙ o.2) (Contains-push listed v.item)))
          ]

          apart : (i k : ℕ) → i < length rest → (k < length listed) ⊎ (k ≡ length listed) → (visit_at rest i).item ≢ get_or after k 0
          apart i k h (inl l) e = w.apart i k (wide i h) l (item_rest i h ∙ (e ∙ old_at k l))
          apart i k h (inr l) e = w.open_once i (length rest) h (omega (arith, length_top rest v)) (item_rest i h ∙ (e ∙ (new_at k l ∙ sym (item_top (length rest) refl))))

          once : (i j : ℕ) → i < j → (j < length listed) ⊎ (j ≡ length listed) → get_or after i 0 ≢ get_or after j 0
          once i j h (inl l) e = w.once i j h l (sym (old_at i (omega (arith, h, l))) ∙ (e ∙ old_at j l))
          once i j h (inr l) e =
              let i_in : i < length listed = omega (arith, h, l) in
              w.apart (length rest) i (omega (arith, length_top rest v)) i_in (item_top (length rest) refl ∙ (sym (new_at j l) ∙ (sym e ∙ old_at i i_in)))

          back : (k t : ℕ) → Leads edges (get_or after k 0) t → (k < length listed) ⊎ (k ≡ length listed) → IsMet edges rest after k t
          back k t d (inl l) = back_old k t l (w.back k t l (subst (λ x. Leads edges x t) (old_at k l) d))
          back k t d (inr e) = back_new k t e (w.found t (looked_at t (subst (λ x. Leads edges x t) (new_at k e) d)))

      pub Walking-lists : Walking edges begun rest (listed ++ v.item ∷ [])
      Walking-lists = subst (λ (l : List ℕ). Walking edges begun rest l) after-is lists

  -- nothing is begun
  pub Walking-starts : (begun : List Bool) → length begun ≡ length edges → ((t : ℕ) → IsBegun begun t → ⊥) → Walking edges begun [] []
  Walking-starts begun len none = record {
    len = len;
    found = λ t b. absurd (none t b);
    open_begun = λ i h. absurd (omega (arith, h));
    open_once = λ i j h l. absurd (omega (arith, l));
    apart = λ i k h l. absurd (omega (arith, l));
    chain = λ i j h l. absurd (omega (arith, l));
    looked = λ i n h. absurd (omega (arith, h));
    listed_begun = λ k h. absurd (omega (arith, h));
    once = λ i j h l. absurd (omega (arith, l));
    back = λ k t h. absurd (omega (arith, h));
  }

  -- all is begun, and nothing is open
  pub IsPostOrder-from_walking : (begun : List Bool) (listed : List ℕ) → Walking edges begun [] listed → ((t : ℕ) → t < length edges → IsBegun begun t) → IsPostOrder edges listed
  IsPostOrder-from_walking begun listed w all = record {
    within = λ k h. omega (arith, begun_within begun (get_or listed k 0) (w.listed_begun k h), w.len);
    all = λ t h. elim (w.found t (all t h)) [ inl c ↦ c | inr o ↦ absurd (omega (arith, o.1)) ];
    once = w.once;
    back = λ k t h d. by (w.back k t h d);
  }
    where
      by : {k t : ℕ} → IsMet edges [] listed k t → IsListed edges listed k t
      by (is_listed m) = m
      by (is_open i h e r) = absurd (omega (arith, h))

-- ---- how much work the walk still has
length_of_longest : List (List ℕ) → ℕ
length_of_longest [] = 0
length_of_longest (x ∷ xs) = max (length x) (length_of_longest xs)

length-le-longest : (lists : List (List ℕ)) (i : ℕ) → length (get_or lists i []) ≤ length_of_longest lists
unfolding length_of_longest
length-le-longest [] i = omega arith
length-le-longest (x ∷ xs) zero = omega arith
length-le-longest (x ∷ xs) (suc i) = omega (arith, length-le-longest xs i)

module _ (edges : List (List ℕ)) where
  abbrev pub visit_left : Visit → ℕ
  visit_left v = length (get_or edges v.item []) - v.next + 1

  pub most_of_one : ℕ
  most_of_one = length_of_longest edges + 2

  most_of_one-is : most_of_one ≡ length_of_longest edges + 2
  unfolding most_of_one
  most_of_one-is = refl

  -- each item that is not begun may come with its edges, and each that is open has some left
  abbrev pub walk_left : List Bool → List Visit → ℕ
  walk_left begun visits = most_of_one * sum_by one_unless begun + sum_by visit_left visits

  module _ (begun : List Bool) (rest : List Visit) (v : Visit) where
    pub left-lists : walk_left begun rest < walk_left begun (rest ++ v ∷ [])
    left-lists = omega (arith, sum_by_push visit_left rest v)

    module _ (in_list : v.next < length (get_or edges v.item [])) (later' : Visit) (same : later' ≡ record { item = v.item; next = v.next + 1 }) where
      less : visit_left later' + 1 ≡ visit_left v
      less = subst (λ (u : Visit). visit_left u + 1 ≡ visit_left v) (sym same) (omega (arith, in_list))

      pub left-passes : walk_left begun (rest ++ later' ∷ []) < walk_left begun (rest ++ v ∷ [])
      left-passes = omega (arith, sum_by_push visit_left rest v, sum_by_push visit_left rest later', less)

      pub left-begins : (end : ℕ) → end < length begun → get_or begun end false ≡ false → (first : Visit) → first ≡ record { item = end; next = 0 } → walk_left (set begun end true) ((rest ++ later' ∷ []) ++ first ∷ []) < walk_left begun (rest ++ v ∷ [])
      left-begins end h new first is = omega (arith, sum_by_push visit_left rest v, sum_by_push visit_left (rest ++ later' ∷ []) first, sum_by_push visit_left rest later', less, fresh, mul-le-mul_left most_of_one fewer, most_of_one-is)
        where
          fewer : sum_by one_unless (set begun end true) + 1 ≤ sum_by one_unless begun
          fewer = omega (arith, sum_by-set one_unless begun end true false h, ap one_unless new)

          fresh : visit_left first ≤ length_of_longest edges + 1
          fresh = subst (λ (u : Visit). visit_left u ≤ length_of_longest edges + 1) (sym is) (omega (arith, length-le-longest edges end))
