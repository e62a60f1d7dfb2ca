-- What the ranking of classes keeps true, step by step.
use Rattle.std.proofs.Common.{◌≡◌, nat_eq, eqb-true, Bool, true, false, not, is_some, ℕ, ◌+◌, ◌<◌, ◌≤◌, ◌⊎◌, Option, Some, None, ◌↔◌, List, [], ◌∷◌, ◌++◌, length, get_or, set, sum_by, map, unwrap_or, Contains, refl, sym, ap, ◌∙◌, subst, inl, inr, arith}
use Rattle.std.proofs.lemmas.Bool.{cases_eq, cases_lt, false≢true}
use Rattle.std.proofs.lemmas.Option.{none-some, same_Some}
use Rattle.std.proofs.lemmas.List.{length_push, length-map, get_or_default, get_or_past, get_or-map, get_or-set_same, get_or-set_other, length-set}
use Rattle.std.proofs.lemmas.List.Elements.{Contains-append_left, Contains-push, Contains-push_cases}
use Rattle.std.proofs.lemmas.List.Sums.{sum_by-set}
use Rattle.std.specs.List.{list_any}
use Rattle.std.proofs.lemmas.Map.Keys.{IsDistinct-from_apart}
use Rattle.std.proofs.lemmas.Map.Steps.{length-le_from_distinct_below}
use Rattle.bundle_order_graph.proofs.NodeLemmas.{Contains-place, place-in}
use Rattle.bundle_order_graph.proofs.WalkLemmas.{Reaches-trans}
use Rattle.bundle_order_graph.specs.Walks.{Reaches, itself, along, Path}
use Rattle.bundle_order_graph.specs.Classes.{Leads, AreRanks, ReachesAll, IsListed, earlier, later, IsPostOrder, rank_of, IsRanked, IsMember, Ranking, unranked, RanksUsers}

-- ---- what `is_none` tells
pub none_from_test : (o : Option ℕ) (b : Bool) → is_some o ≡ not b → b ≡ true → o ≡ None
none_from_test None b e t = refl
none_from_test (Some q) b e t = absurd (false≢true (sym (e ∙ ap not t)))

pub some_from_test : (o : Option ℕ) (b : Bool) → is_some o ≡ not b → b ≡ false → (q : ℕ) × (o ≡ Some q)
some_from_test None b e f = absurd (false≢true (e ∙ ap not f))
some_from_test (Some q) b e f = (q, refl)

-- ---- one rank is written
pub ranked_within : (ranks : List (Option ℕ)) (x q : ℕ) → rank_of ranks x ≡ Some q → x < length ranks
ranked_within ranks x q r = elim (cases_lt x (length ranks)) [ inl l ↦ l | inr g ↦ absurd (none-some q (sym (get_or_past ranks x None g) ∙ r)) ]

unranked-none : (r : Option ℕ) → r ≡ None → unranked r ≡ 1
unranked-none r e = ap unranked e

module _ (ranks : List (Option ℕ)) (x rank : ℕ) (h : x < length ranks) (none : rank_of ranks x ≡ None) where
  pub rank_now : rank_of (set ranks x (Some rank)) x ≡ Some rank
  rank_now = get_or-set_same ranks x (Some rank) None h

  pub rank_still : (y q : ℕ) → rank_of ranks y ≡ Some q → rank_of (set ranks x (Some rank)) y ≡ Some q
  rank_still y q r = elim (cases_eq y x) [
    | inl e ↦ absurd (none-some q (sym none ∙ (ap (λ z. rank_of ranks z) (sym e) ∙ r)))
    | inr ne ↦ get_or-set_other ranks x y (Some rank) None ne ∙ r
  ]

  pub rank_before : (y q : ℕ) → rank_of (set ranks x (Some rank)) y ≡ Some q → (rank_of ranks y ≡ Some q) ⊎ ((y ≡ x) × (q ≡ rank))
  rank_before y q r = elim (cases_eq y x) [
    | inl e ↦ inr (e, sym (same_Some rank q (sym rank_now ∙ (ap (λ z. rank_of (set ranks x (Some rank)) z) (sym e) ∙ r))))
    | inr ne ↦ inl (sym (get_or-set_other ranks x y (Some rank) None ne) ∙ r)
  ]

  pub unranked-set : sum_by unranked (set ranks x (Some rank)) + 1 ≡ sum_by unranked ranks
  unranked-set = omega (arith, sum_by-set unranked ranks x (Some rank) None h, unranked-none (rank_of ranks x) none)

-- ---- the users of an item
module _ (users : List ℕ) (rank : ℕ) (old : List (Option ℕ)) (old_waiting : List ℕ) where
  pub RanksUsers-none : RanksUsers users rank old old_waiting old old_waiting
  RanksUsers-none = record {
    len = refl;
    kept = λ x q r. r;
    same = λ x c. c;
    news = λ x q r. inl r;
    waits = λ x c. inl c;
    left = refl;
  }

  pub RanksUsers-one : (ranks : List (Option ℕ)) (waiting : List ℕ) → RanksUsers users rank old old_waiting ranks waiting → (user : ℕ) → Contains users user → user < length ranks → rank_of ranks user ≡ None → RanksUsers users rank old old_waiting (set ranks user (Some rank)) (waiting ++ user ∷ [])
  RanksUsers-one ranks waiting w user c h none = record {
    len = length-set ranks user (Some rank) ∙ w.len;
    kept = λ x q r. rank_still ranks user rank h none x q (w.kept x q r);
    same = λ x d. Contains-append_left waiting (user ∷ []) x (w.same x d);
    news = λ x q r. news x q (rank_before ranks user rank h none x q r);
    waits = λ x d. elim (Contains-push_cases waiting user x d) [
      | inl o ↦ elim (w.waits x o) [ inl p ↦ inl p | inr r ↦ inr (rank_still ranks user rank h none x rank r) ]
      | inr e ↦ inr (subst (λ y. rank_of (set ranks user (Some rank)) y ≡ Some rank) e (rank_now ranks user rank h none))
    ];
    left = omega (arith, unranked-set ranks user rank h none, length_push waiting user, w.left);
  }
    where
      unranked_before : (o : Option ℕ) → rank_of old user ≡ o → rank_of old user ≡ None
      unranked_before None e = e
      unranked_before (Some q) e = absurd (none-some q (sym none ∙ w.kept user q e))

      news : (x q : ℕ) → (rank_of ranks x ≡ Some q) ⊎ ((x ≡ user) × (q ≡ rank)) → (rank_of old x ≡ Some q) ⊎ ((q ≡ rank) × (rank_of old x ≡ None) × Contains users x × Contains (waiting ++ user ∷ []) x)
      news x q (inl r) = elim (w.news x q r) [ inl o ↦ inl o | inr n ↦ inr (n.0, n.1, n.2, Contains-append_left waiting (user ∷ []) x n.3) ]
      news x q (inr n) = inr (
        n.1,
        ap (λ y. rank_of old y) n.0 ∙ unranked_before (rank_of old user) refl,
        subst (λ y. Contains users y) (sym n.0) c,
        subst (λ y. Contains (waiting ++ user ∷ []) y) (sym n.0) (Contains-push waiting user),
      )

-- ---- the classes
module _ (edges : List (List ℕ)) (listed : List ℕ) (order : IsPostOrder edges listed) where
  one_place : (i j : ℕ) → i < length listed → j < length listed → get_or listed i 0 ≡ get_or listed j 0 → i ≡ j
  one_place i j h l e = elim (cases_lt i j) [
    | inl a ↦ absurd (order.once i j a l e)
    | inr b ↦ elim (cases_lt j i) [ inl a ↦ absurd (order.once j i a h (sym e)) | inr d ↦ omega (arith, b, d) ]
  ]

  -- the last item of a class is of it
  last_member : (place : ℕ) → place < length listed → IsMember edges listed (get_or listed place 0) place
  last_member place h = record {
    within = h;
    to = itself;
    from = λ k l e. from k l (one_place k place l h e);
  }
    where
      from : (k : ℕ) → k < length listed → k ≡ place → (k ≤ place) × ReachesAll edges listed (get_or listed place 0) k place
      from k l e = (omega (arith, e), λ m a b. subst (λ x. Reaches (Leads edges) (get_or listed place 0) x) (ap (λ i. get_or listed i 0) (let same : place ≡ m = omega (arith, a, b, e) in same)) itself)

  -- so is an item of which an edge leads into the class, if it is not listed after the last
  next_member : (x y q : ℕ) → IsMember edges listed y q → Leads edges x y → ((k : ℕ) → k < length listed → get_or listed k 0 ≡ x → k ≤ q) → IsMember edges listed x q
  next_member x y q m d low = record {
    within = m.within;
    to = along d m.to;
    from = λ k l e. (low k l e, from k (low k l e) (order.back k y l (subst (λ z. Leads edges z y) (sym e) d)));
  }
    where
      from : (k : ℕ) → k ≤ q → IsListed edges listed k y → ReachesAll edges listed (get_or listed q 0) k q
      from k low' (earlier j b e) = λ i a c. (m.from j (omega (arith, b, low', m.within)) e).1 i (omega (arith, a, b)) c
      from k low' (later j a b e r) = λ i g c. by i g c (cases_lt i j)
        where
          y_from : (j ≤ q) × ReachesAll edges listed (get_or listed q 0) j q
          y_from = m.from j b e

          to_y : Reaches (Leads edges) (get_or listed q 0) y
          to_y = subst (λ z. Reaches (Leads edges) (get_or listed q 0) z) e (y_from.1 j (omega arith) y_from.0)

          by : (i : ℕ) → k ≤ i → i ≤ q → (i < j) ⊎ (j ≤ i) → Reaches (Leads edges) (get_or listed q 0) (get_or listed i 0)
          by i g c (inl o) = Reaches-trans to_y (r i g (omega (arith, o)))
          by i g c (inr o) = y_from.1 i o c

  -- the ranking begins with the last item of a class
  pub Ranking-begins : (place : ℕ) (ranks : List (Option ℕ)) → place < length listed → Ranking edges listed (place + 1) ranks [] → rank_of ranks (get_or listed place 0) ≡ None → Ranking edges listed (place + 1) (set ranks (get_or listed place 0) (Some place)) ([] ++ get_or listed place 0 ∷ [])
  Ranking-begins place ranks h w none = record {
    len = length-set ranks last (Some place) ∙ w.len;
    low = λ x q r. elim (before x q r) [ inl o ↦ w.low x q o | inr n ↦ omega (arith, n.1) ];
    member = λ x q r. elim (before x q r) [
      | inl o ↦ w.member x q o
      | inr n ↦ subst (λ p. IsMember edges listed x p) (sym n.1) (subst (λ y. IsMember edges listed y place) (sym n.0) (last_member place h))
    ];
    after = λ k a b. let o = w.after k a b in (o.0, still (get_or listed k 0) o.0 o.1);
    closed = λ s t q d r. closed s t q d (before t q r);
    waits = λ x c. waits x (Contains-push_cases [] last x c);
  }
    where
      last : ℕ
      last = get_or listed place 0

      inside : get_or listed place 0 < length ranks
      inside = omega (arith, order.within place h, w.len)

      before : (x q : ℕ) → rank_of (set ranks (get_or listed place 0) (Some place)) x ≡ Some q → (rank_of ranks x ≡ Some q) ⊎ ((x ≡ get_or listed place 0) × (q ≡ place))
      before x q r = rank_before ranks (get_or listed place 0) place inside none x q r

      still : (x q : ℕ) → rank_of ranks x ≡ Some q → rank_of (set ranks (get_or listed place 0) (Some place)) x ≡ Some q
      still x q r = rank_still ranks (get_or listed place 0) place inside none x q r

      closed : (s t q : ℕ) → Leads edges s t → (rank_of ranks t ≡ Some q) ⊎ ((t ≡ get_or listed place 0) × (q ≡ place)) → Contains ([] ++ get_or listed place 0 ∷ []) t ⊎ ((p : ℕ) × (rank_of (set ranks (get_or listed place 0) (Some place)) s ≡ Some p) × (q ≤ p))
      closed s t q d (inl o) = elim (w.closed s t q d o) [ inl c ↦ absurd (omega (arith, c.1)) | inr p ↦ inr (p.0, still s p.0 p.1, p.2) ]
      closed s t q d (inr n) = inl (subst (λ y. Contains ([] ++ get_or listed place 0 ∷ []) y) (sym n.0) (Contains-push [] (get_or listed place 0)))

      waits : (x : ℕ) → Contains [] x ⊎ (get_or listed place 0 ≡ x) → (q : ℕ) × (rank_of (set ranks (get_or listed place 0) (Some place)) x ≡ Some q) × (q + 1 ≡ place + 1)
      waits x (inl c) = absurd (omega (arith, c.1))
      waits x (inr e) = (place, subst (λ y. rank_of (set ranks (get_or listed place 0) (Some place)) y ≡ Some place) e (rank_now ranks (get_or listed place 0) place inside none), refl)

  -- it goes on with the users of an item that waits
  pub Ranking-goes_on : (place : ℕ) (ranks ranks' : List (Option ℕ)) (rest waiting' : List ℕ) (y : ℕ) (users : List ℕ) → Ranking edges listed (place + 1) ranks (rest ++ y ∷ []) → ((x : ℕ) → Contains users x ↔ Leads edges x y) → RanksUsers users place ranks rest ranks' waiting' → ((x : ℕ) → Contains users x → IsRanked ranks' x) → Ranking edges listed (place + 1) ranks' waiting'
  Ranking-goes_on place ranks ranks' rest waiting' y users w are u all = record {
    len = u.len ∙ w.len;
    low = λ x q r. low x q r;
    member = λ x q r. elim (u.news x q r) [
      | inl o ↦ w.member x q o
      | inr n ↦ subst (λ p. IsMember edges listed x p) (sym n.0) (next_member x y place member_y ((are x).0 n.2) (λ k l e. before k l x e n.1 (cases_lt place k)))
    ];
    after = λ k a b. let o = w.after k a b in (o.0, u.kept (get_or listed k 0) o.0 o.1);
    closed = λ s t q d r. closed s t q d (u.news t q r);
    waits = λ x c. elim (u.waits x c) [
      | inl o ↦ let p = w.waits x (Contains-append_left rest (y ∷ []) x o) in (p.0, u.kept x p.0 p.1, p.2)
      | inr r ↦ (place, r, refl)
    ];
  }
    where
      y_waits : (q : ℕ) × (rank_of ranks y ≡ Some q) × (q + 1 ≡ place + 1)
      y_waits = w.waits y (Contains-push rest y)

      y_rank : rank_of ranks y ≡ Some place
      y_rank = y_waits.1 ∙ ap Some (let same : y_waits.0 ≡ place = omega (arith, y_waits.2) in same)

      member_y : IsMember edges listed y place
      member_y = w.member y place y_rank

      low : (x q : ℕ) → rank_of ranks' x ≡ Some q → place + 1 ≤ q + 1
      low x q r = elim (u.news x q r) [ inl o ↦ w.low x q o | inr n ↦ omega (arith, n.0) ]

      before : (k : ℕ) → k < length listed → (x : ℕ) → get_or listed k 0 ≡ x → rank_of ranks x ≡ None → (place < k) ⊎ (k ≤ place) → k ≤ place
      before k l x e none (inr g) = g
      before k l x e none (inl g) = absurd (let o = w.after k (omega (arith, g)) l in none-some o.0 (sym none ∙ (ap (λ z. rank_of ranks z) (sym e) ∙ o.1)))

      closed : (s t q : ℕ) → Leads edges s t → (rank_of ranks t ≡ Some q) ⊎ ((q ≡ place) × (rank_of ranks t ≡ None) × Contains users t × Contains waiting' t) → Contains waiting' t ⊎ ((p : ℕ) × (rank_of ranks' s ≡ Some p) × (q ≤ p))
      closed s t q d (inr n) = inl n.3
      closed s t q d (inl o) = by (w.closed s t q d o)
        where
          of_y : y ≡ t → Contains waiting' t ⊎ ((p : ℕ) × (rank_of ranks' s ≡ Some p) × (q ≤ p))
          of_y e =
              let mine = all s ((are s).1 (subst (λ z. Leads edges s z) (sym e) d)) in
              let same : place ≡ q = same_Some place q (sym y_rank ∙ (ap (λ z. rank_of ranks z) e ∙ o)) in
              let high : place + 1 ≤ mine.0 + 1 = low s mine.0 mine.1 in
              inr (mine.0, mine.1, omega (arith, same, high))

          by : Contains (rest ++ y ∷ []) t ⊎ ((p : ℕ) × (rank_of ranks s ≡ Some p) × (q ≤ p)) → Contains waiting' t ⊎ ((p : ℕ) × (rank_of ranks' s ≡ Some p) × (q ≤ p))
          by (inl c) = elim (Contains-push_cases rest y t c) [ inl i ↦ inl (u.same t i) | inr e ↦ of_y e ]
          by (inr p) = inr (p.0, u.kept s p.0 p.1, p.2)

  -- nothing waits any more: one more place is ranked
  pub Ranking-ends : (place : ℕ) (ranks : List (Option ℕ)) → Ranking edges listed (place + 1) ranks [] → IsRanked ranks (get_or listed place 0) → Ranking edges listed place ranks []
  Ranking-ends place ranks w there = record {
    len = w.len;
    low = λ x q r. omega (arith, w.low x q r);
    member = w.member;
    after = λ k a b. elim (cases_lt place k) [
      | inl g ↦ w.after k (omega (arith, g)) b
      | inr g ↦ subst (λ i. IsRanked ranks (get_or listed i 0)) (let same : place ≡ k = omega (arith, a, g) in same) there
    ];
    closed = w.closed;
    waits = λ x c. absurd (omega (arith, c.1));
  }

  -- at first nothing is ranked
  pub Ranking-starts : (ranks : List (Option ℕ)) → length ranks ≡ length edges → ((x : ℕ) → rank_of ranks x ≡ None) → (above : ℕ) → length listed ≤ above → Ranking edges listed above ranks []
  Ranking-starts ranks len none above high = record {
    len = len;
    low = λ x q r. absurd (none-some q (sym (none x) ∙ r));
    member = λ x q r. absurd (none-some q (sym (none x) ∙ r));
    after = λ k a b. absurd (omega (arith, a, b, high));
    closed = λ s t q d r. absurd (none-some q (sym (none t) ∙ r));
    waits = λ x c. absurd (omega (arith, c.1));
  }

  -- all are ranked
  module _ (ranks : List (Option ℕ)) (w : Ranking edges listed 0 ranks []) where
    ranked : (t : ℕ) → t < length edges → IsRanked ranks t
    ranked t h =
        let c = order.all t h in
        subst (λ x. IsRanked ranks x) (get_or_default listed c.0 0 t c.1 ∙ c.2) (w.after c.0 (omega arith) c.1)

    abbrev pub numbers : List ℕ
    numbers = map (λ r. unwrap_or r 0) ranks

    number_at : (t q : ℕ) → rank_of ranks t ≡ Some q → get_or numbers t 0 ≡ q
    number_at t q r = get_or-map (λ o. unwrap_or o 0) ranks t None 0 (ranked_within ranks t q r) ∙ ap (λ o. unwrap_or o 0) r

    -- a member is reached from the last of its class
    reached : (t q : ℕ) → t < length edges → IsMember edges listed t q → Reaches (Leads edges) (get_or listed q 0) t
    reached t q h m =
        let c = order.all t h in
        let is : get_or listed c.0 0 ≡ t = get_or_default listed c.0 0 t c.1 ∙ c.2 in
        let f = m.from c.0 c.1 is in
        subst (λ x. Reaches (Leads edges) (get_or listed q 0) x) is (f.1 c.0 (omega arith) f.0)

    back : (s t : ℕ) → Leads edges s t → Reaches (Leads edges) t s → Path (Leads edges) t s
    back s t d itself = (s, d, itself)
    back s t d (along {a} {b} e p) = (b, e, p)

    -- the ranks of the ends of an edge
    record Both (s t : ℕ) : Type 0 where
      pub p : ℕ
      pub q : ℕ
      pub ranked_s : rank_of ranks s ≡ Some p
      pub ranked_t : rank_of ranks t ≡ Some q
      pub one : get_or numbers s 0 ≡ p
      pub other : get_or numbers t 0 ≡ q
      pub falls : q ≤ p

    module _ (within : (s t : ℕ) → Leads edges s t → t < length edges) where
      both : (s t : ℕ) → Leads edges s t → Both s t
      both s t d =
          let r = ranked t (within s t d) in
          elim (w.closed s t r.0 d r.1) [
            | inl c ↦ absurd (omega (arith, c.1))
            | inr p ↦ record { p = p.0; q = r.0; ranked_s = p.1; ranked_t = r.1; one = number_at s p.0 p.1; other = number_at t r.0 r.1; falls = p.2 }
          ]

      leads_back : (s t q p : ℕ) → rank_of ranks t ≡ Some q → rank_of ranks s ≡ Some p → p ≡ q → Reaches (Leads edges) t s
      leads_back s t q p rt rs e = Reaches-trans (w.member t q rt).to (subst (λ k. Reaches (Leads edges) (get_or listed k 0) s) e (reached s p (omega (arith, ranked_within ranks s p rs, w.len)) (w.member s p rs)))

      returns_to : (s t : ℕ) → Leads edges s t → Both s t → get_or numbers s 0 ≤ get_or numbers t 0 → Path (Leads edges) t s
      returns_to s t d two h = back s t d (leads_back s t two.q two.p two.ranked_t two.ranked_s (omega (arith, h, two.falls, two.one, two.other)))

      falls_to : (s t : ℕ) → Both s t → get_or numbers t 0 ≤ get_or numbers s 0
      falls_to s t two = omega (arith, two.falls, two.one, two.other)

      -- no more items are listed than there are
      short : length listed ≤ length edges
      short = length-le_from_distinct_below listed (length edges) (IsDistinct-from_apart nat_eq listed (λ i j d h l. differ i j d h l)) (λ q t. below q (found_at q t))
        where
          differ : (i j d : ℕ) → i < j → j < length listed → nat_eq (get_or listed i d) (get_or listed j d) ≡ false
          differ i j d h l = by (nat_eq (get_or listed i d) (get_or listed j d)) refl
            where
              by : (b : Bool) → nat_eq (get_or listed i d) (get_or listed j d) ≡ b → nat_eq (get_or listed i d) (get_or listed j d) ≡ false
              by false e = e
              by true e = absurd (order.once i j h l (get_or_default listed i 0 d (omega (arith, h, l)) ∙ (eqb-true _ _ e ∙ sym (get_or_default listed j 0 d l))))

          found_at : (q : ℕ) → list_any (nat_eq q) listed ≡ true → Contains listed q
          found_at q t = Contains-place listed q (place-in listed q t)

          below : (q : ℕ) → Contains listed q → q < length edges
          below q c = subst (λ x. x < length edges) (get_or_default listed c.0 0 q c.1 ∙ c.2) (order.within c.0 c.1)

      small_at : (s : ℕ) → s < length edges → get_or numbers s 0 < length edges
      small_at s h =
          let r = ranked s h in
          let m = w.member s r.0 r.1 in
          omega (arith, m.within, short, number_at s r.0 r.1)

      alike_at : (s t : ℕ) → s < length edges → t < length edges → get_or numbers s 0 ≡ get_or numbers t 0 → Reaches (Leads edges) s t
      alike_at s t h k e =
          let r = ranked s h in
          let q = ranked t k in
          let same : r.0 ≡ q.0 = sym (number_at s r.0 r.1) ∙ (e ∙ number_at t q.0 q.1) in
          Reaches-trans (w.member s r.0 r.1).to (subst (λ i. Reaches (Leads edges) (get_or listed i 0) t) (sym same) (reached t q.0 k (w.member t q.0 q.1)))

      pub AreRanks-from_ranking : AreRanks edges numbers
      AreRanks-from_ranking = record {
        len = length-map ranks (λ o. unwrap_or o 0) ∙ w.len;
        small = small_at;
        alike = alike_at;
        falls = λ s t d. falls_to s t (both s t d);
        back = λ s t d h. returns_to s t d (both s t d) h;
      }
