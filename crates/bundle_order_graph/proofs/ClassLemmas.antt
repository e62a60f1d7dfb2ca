-- Blocks by the ranks of the places of a list.
use Rattle.std.proofs.Common.{◌≡◌, ◌≢◌, Bool, true, false, MatchBool, nat_eq, ℕ, ◌+◌, ◌<◌, ◌≤◌, ◌⊎◌, ◌↔◌, List, [], ◌∷◌, ◌++◌, length, get_or, set, map, drop, Contains, refl, sym, ap, ◌∙◌, subst, inl, inr, arith}
use Rattle.std.specs.List.{IsDistinct}
use Rattle.std.proofs.lemmas.Bool.{cases_eq, cases_lt}
use Rattle.std.proofs.lemmas.List.{get_or_default, get_or_past, get_or-set_same, get_or-set_other, get_or_append_left, get_or_push, length_push, map_push}
use Rattle.std.proofs.lemmas.List.Elements.{Contains-append_left, Contains-push, Contains-push_cases, Contains-get_or}
use Rattle.bundle_order_graph.specs.Walks.{Reaches, itself, along, Path}
use Rattle.bundle_order_graph.specs.Bits.{IsEdge, IsEdgeAt}
use Rattle.bundle_order_graph.specs.Nodes.{place}
use Rattle.bundle_order_graph.specs.Modules.{Modules, Requests}
use Rattle.bundle_order_graph.specs.Order.{IsOrder}
use Rattle.bundle_order_graph.specs.Classes.{Leads, AreRanks, AreWithin}
use Rattle.bundle_order_graph.specs.Blocks.{SharesBlock, Members, BlocksOf, AreBlocks}
use Rattle.bundle_order_graph.specs.Ranked.{HasRank, GoesRound, AreAlike, IsLastLike, AreLasts, EndsBlock, EndsNone}
use Rattle.bundle_order_graph.proofs.NodeLemmas.{place-contains, place-read}
use Rattle.bundle_order_graph.proofs.ListLemmas.{place-index}
use Rattle.bundle_order_graph.proofs.WalkLemmas.{Reaches-trans, Path-mono}
use Rattle.bundle_order_graph.proofs.LeadLemmas.{Reaches-more, before_or_at}
use Rattle.bundle_order_graph.proofs.CycleLemmas.{member_kept, member_left, later_place, place_later, Members-agree, BlocksOf-agree, walk_modules, walk_places}

-- ---- the ends of edges by their starts
-- one of the first n pairs leads from i to j
abbrev pub PairsTo : List (ℕ × ℕ) → ℕ → ℕ → ℕ → Type 0
PairsTo pairs n i j = (k : ℕ) × (k < n) × (get_or pairs k (0, 0) ≡ (i, j))

pub PairsTo-all : (pairs : List (ℕ × ℕ)) (n i j : ℕ) → n ≡ length pairs → PairsTo pairs n i j ↔ IsEdge pairs i j
PairsTo-all pairs n i j e = (
  λ p. subst (λ x. Contains pairs x) p.2 (Contains-get_or pairs p.0 (0, 0) (omega (arith, p.1, e))),
  λ c. (c.0, omega (arith, c.1, e), get_or_default pairs c.0 (0, 0) (i, j) c.1 ∙ c.2),
)

module _ (rows : List (List ℕ)) (s t : ℕ) (inside : s < length rows) where
  pub Leads-longer : (i j : ℕ) → Leads (set rows s (get_or rows s [] ++ t ∷ [])) i j ↔ (Leads rows i j ⊎ ((i ≡ s) × (j ≡ t)))
  Leads-longer i j = by (cases_eq i s)
    where
      by : (i ≡ s) ⊎ (i ≡ s → ⊥) → Leads (set rows s (get_or rows s [] ++ t ∷ [])) i j ↔ (Leads rows i j ⊎ ((i ≡ s) × (j ≡ t)))
      by (inr ne) =
          let same : get_or (set rows s (get_or rows s [] ++ t ∷ [])) i [] ≡ get_or rows i [] = get_or-set_other rows s i (get_or rows s [] ++ t ∷ []) [] ne in
          (λ c. inl (subst (λ (l : List ℕ). Contains l j) same c), λ o. elim o [ inl c ↦ subst (λ (l : List ℕ). Contains l j) (sym same) c | inr p ↦ absurd (ne p.0) ])
      by (inl e) =
          let now : get_or (set rows s (get_or rows s [] ++ t ∷ [])) i [] ≡ get_or rows i [] ++ t ∷ [] = ap (λ k. get_or (set rows s (get_or rows s [] ++ t ∷ [])) k []) e ∙ (get_or-set_same rows s (get_or rows s [] ++ t ∷ []) [] inside ∙ ap (λ k. get_or rows k [] ++ t ∷ []) (sym e)) in (
            λ c. elim (Contains-push_cases (get_or rows i []) t j (subst (λ (l : List ℕ). Contains l j) now c)) [ inl o ↦ inl o | inr q ↦ inr (e, sym q) ],
            λ o. subst (λ (l : List ℕ). Contains l j) (sym now) (elim o [ inl c ↦ Contains-append_left (get_or rows i []) (t ∷ []) j c | inr p ↦ subst (λ x. Contains (get_or rows i [] ++ t ∷ []) x) (sym p.1) (Contains-push (get_or rows i []) t) ]),
          )

pub PairsTo-next : (pairs : List (ℕ × ℕ)) (n : ℕ) (rows rows' : List (List ℕ)) → (get_or pairs n (0, 0)).0 < length rows → rows' ≡ set rows ((get_or pairs n (0, 0)).0) (get_or rows ((get_or pairs n (0, 0)).0) [] ++ (get_or pairs n (0, 0)).1 ∷ []) → ((i j : ℕ) → Leads rows i j ↔ PairsTo pairs n i j) → (i j : ℕ) → Leads rows' i j ↔ PairsTo pairs (n + 1) i j
PairsTo-next pairs n rows rows' inside is so_far i j = (
  λ c. forth ((step i j).0 (subst (λ (l : List (List ℕ)). Leads l i j) is c)),
  λ p. subst (λ (l : List (List ℕ)). Leads l i j) (sym is) ((step i j).1 (back p (before_or_at p.0 n p.1))),
)
  where
    step : (i j : ℕ) → Leads (set rows ((get_or pairs n (0, 0)).0) (get_or rows ((get_or pairs n (0, 0)).0) [] ++ (get_or pairs n (0, 0)).1 ∷ [])) i j ↔ (Leads rows i j ⊎ ((i ≡ (get_or pairs n (0, 0)).0) × (j ≡ (get_or pairs n (0, 0)).1)))
    step i j = Leads-longer rows ((get_or pairs n (0, 0)).0) ((get_or pairs n (0, 0)).1) inside i j

    forth : Leads rows i j ⊎ ((i ≡ (get_or pairs n (0, 0)).0) × (j ≡ (get_or pairs n (0, 0)).1)) → PairsTo pairs (n + 1) i j
    forth (inl c) = let p = (so_far i j).0 c in (p.0, omega (arith, p.1), p.2)
    forth (inr q) = (n, omega arith, λ s. (sym q.0 s, sym q.1 s))

    back : (p : PairsTo pairs (n + 1) i j) → (p.0 < n) ⊎ (p.0 ≡ n) → Leads rows i j ⊎ ((i ≡ (get_or pairs n (0, 0)).0) × (j ≡ (get_or pairs n (0, 0)).1))
    back p (inl l) = inl ((so_far i j).1 (p.0, l, p.2))
    back p (inr e) = let at : get_or pairs n (0, 0) ≡ (i, j) = ap (λ k. get_or pairs k (0, 0)) (sym e) ∙ p.2 in inr (sym (ap (λ x. x.0) at), sym (ap (λ x. x.1) at))

-- ---- lists that are all empty
pub empty-push : {V : Type 0} (items : V → List ℕ) (rows rows' : List V) (v : V) → rows' ≡ rows ++ v ∷ [] → items v ≡ [] → ((r : ℕ) → get_or (map items rows) r [] ≡ []) → (r : ℕ) → get_or (map items rows') r [] ≡ []
empty-push items rows rows' v is empty none r = ap (λ (l : List (List ℕ)). get_or l r []) (ap (λ l. map items l) is ∙ map_push items rows v) ∙ by (cases_lt r (length (map items rows)))
  where
    past : (length (map items rows) ≡ r) ⊎ (length (map items rows) < r) → get_or (map items rows ++ items v ∷ []) r [] ≡ []
    past (inl e) = get_or_push (map items rows) (items v) [] r e ∙ empty
    past (inr l) = get_or_past (map items rows ++ items v ∷ []) r [] (omega (arith, l, length_push (map items rows) (items v)))

    by : (r < length (map items rows)) ⊎ (length (map items rows) ≤ r) → get_or (map items rows ++ items v ∷ []) r [] ≡ []
    by (inl l) = get_or_append_left (map items rows) (items v ∷ []) [] r l ∙ none r
    by (inr g) = past (elim (cases_lt (length (map items rows)) r) [ inl l ↦ inr l | inr h ↦ inl (omega (arith, g, h)) ])

-- ---- the modules of each rank
-- those before place i are in the lists of their ranks
abbrev pub ClassesTo : List ℕ → List ℕ → List (List ℕ) → ℕ → Type 0
ClassesTo ranks list classes i = (r : ℕ) → r < length list → (ys : List ℕ) → Members (HasRank ranks list r) (drop i list) ys → Members (HasRank ranks list r) list (get_or classes r [] ++ ys)

pub ClassesTo-start : (ranks list : List ℕ) (classes : List (List ℕ)) → ((r : ℕ) → get_or classes r [] ≡ []) → ClassesTo ranks list classes 0
ClassesTo-start ranks list classes none r h ys m = subst (λ (l : List ℕ). Members (HasRank ranks list r) list (l ++ ys)) (sym (none r)) m

pub ClassesTo-next : (ranks list : List ℕ) (classes classes' : List (List ℕ)) (i x : ℕ) → IsDistinct nat_eq list → i < length list → x ≡ get_or list i 0 → get_or ranks i 0 < length classes → classes' ≡ set classes (get_or ranks i 0) (get_or classes (get_or ranks i 0) [] ++ x ∷ []) → ClassesTo ranks list classes i → ClassesTo ranks list classes' (i + 1)
ClassesTo-next ranks list classes classes' i x once within read inside is so_far r h = by (cases_eq r (get_or ranks i 0))
  where
    at_i : get_or ranks (place list (get_or list i 0)) 0 ≡ get_or ranks i 0
    at_i = ap (λ k. get_or ranks k 0) (place-index list once i within)

    by : (r ≡ get_or ranks i 0) ⊎ (r ≡ get_or ranks i 0 → ⊥) → (ys : List ℕ) → Members (HasRank ranks list r) (drop (i + 1) list) ys → Members (HasRank ranks list r) list (get_or classes' r [] ++ ys)
    by (inl e) ys m = member_kept (HasRank ranks list r) list i (get_or classes r []) within (so_far r h) (at_i ∙ sym e) (get_or classes' r []) now ys m
      where
        now : get_or classes' r [] ≡ get_or classes r [] ++ get_or list i 0 ∷ []
        now = ap (λ (l : List (List ℕ)). get_or l r []) is ∙ (ap (λ k. get_or (set classes (get_or ranks i 0) (get_or classes (get_or ranks i 0) [] ++ x ∷ [])) k []) e ∙ (get_or-set_same classes (get_or ranks i 0) (get_or classes (get_or ranks i 0) [] ++ x ∷ []) [] inside ∙ (ap (λ k. get_or classes k [] ++ x ∷ []) (sym e) ∙ ap (λ y. get_or classes r [] ++ y ∷ []) read)))
    by (inr ne) ys m = subst (λ (l : List ℕ). Members (HasRank ranks list r) list (l ++ ys)) (sym same) (member_left (HasRank ranks list r) list i (get_or classes r []) within (so_far r h) (λ q. ne (sym q ∙ at_i)) ys m)
      where
        same : get_or classes' r [] ≡ get_or classes r []
        same = ap (λ (l : List (List ℕ)). get_or l r []) is ∙ get_or-set_other classes (get_or ranks i 0) r (get_or classes (get_or ranks i 0) [] ++ x ∷ []) [] ne

-- ---- the last place of each rank
-- place l is the last before n of the rank of place i
pub record IsLastTo (ranks : List ℕ) (n i l : ℕ) : Type 0 where
  pub within : l < n
  pub past : i ≤ l
  pub like : get_or ranks l 0 ≡ get_or ranks i 0

abbrev pub LastsTo : List ℕ → List ℕ → ℕ → Type 0
LastsTo ranks lasts n = (i : ℕ) → i < n → IsLastTo ranks n i (get_or lasts (get_or ranks i 0) 0)

pub LastsTo-next : (ranks lasts lasts' : List ℕ) (n : ℕ) → get_or ranks n 0 < length lasts → lasts' ≡ set lasts (get_or ranks n 0) n → LastsTo ranks lasts n → LastsTo ranks lasts' (n + 1)
LastsTo-next ranks lasts lasts' n inside is so_far i h = by (cases_eq (get_or ranks i 0) (get_or ranks n 0))
  where
    by : (get_or ranks i 0 ≡ get_or ranks n 0) ⊎ (get_or ranks i 0 ≡ get_or ranks n 0 → ⊥) → IsLastTo ranks (n + 1) i (get_or lasts' (get_or ranks i 0) 0)
    by (inl e) = subst (λ l. IsLastTo ranks (n + 1) i l) (sym now) (record { within = omega arith; past = omega (arith, h); like = sym e })
      where
        now : get_or lasts' (get_or ranks i 0) 0 ≡ n
        now = ap (λ (l : List ℕ). get_or l (get_or ranks i 0) 0) is ∙ (ap (λ r. get_or (set lasts (get_or ranks n 0) n) r 0) e ∙ get_or-set_same lasts (get_or ranks n 0) n 0 inside)
    by (inr ne) = subst (λ l. IsLastTo ranks (n + 1) i l) (sym same) (record { within = omega (arith, old.within); past = old.past; like = old.like })
      where
        differs : i ≡ n → ⊥
        differs e = ne (ap (λ k. get_or ranks k 0) e)

        below : (i < n) ⊎ (i ≡ n) → i < n
        below (inl l) = l
        below (inr e) = absurd (differs e)

        old : IsLastTo ranks n i (get_or lasts (get_or ranks i 0) 0)
        old = so_far i (below (before_or_at i n h))

        same : get_or lasts' (get_or ranks i 0) 0 ≡ get_or lasts (get_or ranks i 0) 0
        same = ap (λ (l : List ℕ). get_or l (get_or ranks i 0) 0) is ∙ get_or-set_other lasts (get_or ranks n 0) (get_or ranks i 0) n 0 ne

pub AreLasts-all : (ranks lasts : List ℕ) (n : ℕ) → n ≡ length ranks → LastsTo ranks lasts n → AreLasts ranks lasts
AreLasts-all ranks lasts n e all i h =
    let l = all i (omega (arith, h, e)) in
    record { within = omega (arith, l.within, e); past = l.past; like = l.like }

-- ---- which places end a block
module _ (edges : List (List ℕ)) (ranks lasts : List ℕ) (are : AreLasts ranks lasts) (i : ℕ) (inside : i < length ranks) where
  pub ends_here : get_or lasts (get_or ranks i 0) 0 ≡ i → GoesRound edges ranks i → EndsBlock edges ranks i
  ends_here e round = record {
    round = round;
    none_later = λ k a b like. let p : k ≤ get_or lasts (get_or ranks k 0) 0 = (are k b).past in let same : get_or lasts (get_or ranks k 0) 0 ≡ i = ap (λ r. get_or lasts r 0) like ∙ e in omega (arith, a, p, same);
  }

  pub ends_later : get_or lasts (get_or ranks i 0) 0 ≢ i → EndsNone edges ranks i
  ends_later ne = let l = are i inside in inr (get_or lasts (get_or ranks i 0) 0, past l (cases_lt i (get_or lasts (get_or ranks i 0) 0)), l.within, l.like)
    where
      past : IsLastLike ranks i (get_or lasts (get_or ranks i 0) 0) → (i < get_or lasts (get_or ranks i 0) 0) ⊎ (get_or lasts (get_or ranks i 0) 0 ≤ i) → i < get_or lasts (get_or ranks i 0) 0
      past l (inl a) = a
      past l (inr g) = absurd (ne (omega (arith, g, l.past)))

-- ---- ranks and walks
module _ (edges : List (List ℕ)) (ranks : List ℕ) (ranked : AreRanks edges ranks) where
  falls_along : {s t : ℕ} → Reaches (Leads edges) s t → get_or ranks t 0 ≤ get_or ranks s 0
  falls_along itself = omega arith
  falls_along (along {a} {b} e p) = let d : get_or ranks b 0 ≤ get_or ranks a 0 = ranked.falls a b e in let r = falls_along p in omega (arith, d, r)

  pub falls_on : (s t : ℕ) → Path (Leads edges) s t → get_or ranks t 0 ≤ get_or ranks s 0
  falls_on s t p = falls_along (along p.1 p.2)

  -- a walk to a place that does not rank below begins with an edge among those of its rank
  pub round_from_path : (s t : ℕ) → Path (Leads edges) s t → get_or ranks s 0 ≤ get_or ranks t 0 → GoesRound edges ranks s
  round_from_path s t p h =
      let d : get_or ranks p.0 0 ≤ get_or ranks s 0 = ranked.falls s p.0 p.1 in
      let r : get_or ranks t 0 ≤ get_or ranks p.0 0 = falls_along p.2 in
      (p.0, p.1, omega (arith, d, r, h))

  path_between : (s t : ℕ) → s ≢ t → Reaches (Leads edges) s t → Path (Leads edges) s t
  path_between s t ne itself = absurd (ne refl)
  path_between s t ne (along {a} {b} e p) = (b, e, p)

  pub round_with : (s t : ℕ) → s ≢ t → s < length edges → t < length edges → get_or ranks t 0 ≡ get_or ranks s 0 → GoesRound edges ranks s
  round_with s t ne a b e = round_from_path s t (path_between s t ne (ranked.alike s t a b (sym e))) (omega (arith, e))

  -- a place on a cycle and one of its rank: a walk leads from it to that one
  pub path_alike : (s t : ℕ) → s < length edges → t < length edges → get_or ranks s 0 ≡ get_or ranks t 0 → GoesRound edges ranks s → Path (Leads edges) s t
  path_alike s t a b e round =
      let back : Path (Leads edges) round.0 s = ranked.back s round.0 round.1 (omega (arith, round.2)) in
      (round.0, round.1, Reaches-trans (along back.1 back.2) (ranked.alike s t a b e))

-- ---- the blocks
module _ (edges : List (List ℕ)) (ranks list : List ℕ) (ranked : AreRanks edges ranks) (once : IsDistinct nat_eq list) (len : length ranks ≡ length list) where
  at_place : (i : ℕ) → i < length list → get_or ranks (place list (get_or list i 0)) 0 ≡ get_or ranks i 0
  at_place i l = ap (λ k. get_or ranks k 0) (place-index list once i l)

  -- two modules of the list are alike as their places are
  pub alike_places : (i j : ℕ) → i < length list → j < length list → AreAlike edges ranks list (get_or list i 0) (get_or list j 0) ↔ ((get_or ranks i 0 ≡ get_or ranks j 0) × GoesRound edges ranks i)
  alike_places i j l m = (
    λ a. (sym (at_place i l) ∙ (a.0 ∙ at_place j m), subst (λ k. GoesRound edges ranks k) (place-index list once i l) a.1),
    λ p. (at_place i l ∙ (p.0 ∙ sym (at_place j m)), subst (λ k. GoesRound edges ranks k) (sym (place-index list once i l)) p.1),
  )

  pub block_here : (i : ℕ) → i < length list → EndsBlock edges ranks i → AreAlike edges ranks list (get_or list i 0) (get_or list i 0) × ((y : ℕ) → Contains (drop (i + 1) list) y → AreAlike edges ranks list (get_or list i 0) y → ⊥)
  block_here i l e = (
    (alike_places i i l l).1 (refl, e.round),
    λ y c a.
        let k = later_place list i y c in
        e.none_later k.0 k.1 (omega (arith, k.2, len)) (sym ((alike_places i k.0 l k.2).0 (subst (λ x. AreAlike edges ranks list (get_or list i 0) x) (sym k.3) a)).0),
  )

  pub block_later : (i : ℕ) → i < length list → EndsNone edges ranks i → (AreAlike edges ranks list (get_or list i 0) (get_or list i 0) → ⊥) ⊎ ((y : ℕ) × Contains (drop (i + 1) list) y × AreAlike edges ranks list (get_or list i 0) y)
  block_later i l (inl none) = inl (λ a. none ((alike_places i i l l).0 a).1)
  block_later i l (inr k) =
      let m : k.0 < length list = omega (arith, k.2, len) in
      let differ : i ≢ k.0 = λ e. omega (arith, e, k.1) in
      inr (get_or list k.0 0, place_later list i k.0 k.1 m, (alike_places i k.0 l m).1 (sym k.3, round_with edges ranks ranked i k.0 differ (omega (arith, l, len, ranked.len)) (omega (arith, k.2, ranked.len)) k.3))

  pub block_members : (i : ℕ) → i < length list → GoesRound edges ranks i → (block : List ℕ) → Members (HasRank ranks list (get_or ranks i 0)) list block → Members (AreAlike edges ranks list (get_or list i 0)) list block
  block_members i l round block m = Members-agree (λ y c. (
    λ h. (at_place i l ∙ sym h, subst (λ k. GoesRound edges ranks k) (sym (place-index list once i l)) round),
    λ a. sym a.0 ∙ at_place i l,
  )) m

walk_round : {E : ℕ → ℕ → Type 0} {a b : ℕ} → Reaches E a b → Path E b b → Path E a b
walk_round itself p = p
walk_round (along {a} {b} e r) p = (b, e, r)

-- the ranks of the places give the blocks of the list
pub blocks_by_ranks : (g : Modules) (entry : ℕ) (list : List ℕ) → IsOrder g entry list → (pairs : List (ℕ × ℕ)) → ((i j : ℕ) → IsEdge pairs i j ↔ IsEdgeAt g list i j) → (edges : List (List ℕ)) → length edges ≡ length list → ((i j : ℕ) → Leads edges i j ↔ IsEdge pairs i j) → (ranks : List ℕ) → AreRanks edges ranks → (blocks : List (List ℕ)) → BlocksOf (AreAlike edges ranks list) list list blocks → AreBlocks g entry blocks
blocks_by_ranks g entry list o pairs exact edges len same ranks ranked blocks b other p =
    subst (λ (l : List ℕ). BlocksOf (SharesBlock g) l l blocks) (sym (o.only other p.made)) (BlocksOf-agree agree (λ x c. c) b)
  where
    closed : (x y : ℕ) → Contains list x → Requests g x y → Contains list y
    closed x y c e = (o.reached y).1 (Reaches-more ((o.reached x).0 c) e)

    forth : (x y : ℕ) → Contains list x → Contains list y → Path (Leads edges) (place list x) (place list y) → Path (Requests g) x y
    forth x y c d w =
        let i = place list x in
        let j = place list y in
        let p = place-read list x 0 (place-contains list x c) in
        let q = place-read list y 0 (place-contains list y d) in
        subst (λ z. Path (Requests g) z y) p (subst (λ z. Path (Requests g) (get_or list i 0) z) q (walk_modules g list o.once closed pairs exact i j (Path-mono (λ a b e. (same a b).0 e) w)))

    back : (x y : ℕ) → Contains list x → Contains list y → Path (Requests g) x y → Path (Leads edges) (place list x) (place list y)
    back x y c d w =
        let i = place list x in
        let j = place list y in
        let l = place-contains list x c in
        let m = place-contains list y d in
        let p = place-read list x 0 l in
        let q = place-read list y 0 m in
        Path-mono (λ a b e. (same a b).1 e) (walk_places g list o.once closed pairs exact i j l m (subst (λ z. Path (Requests g) z (get_or list j 0)) (sym p) (subst (λ z. Path (Requests g) x z) (sym q) w)))

    inside : (x : ℕ) → Contains list x → place list x < length edges
    inside x c = omega (arith, place-contains list x c, len)

    shares : (x y : ℕ) → Contains list x → Contains list y → AreAlike edges ranks list x y → SharesBlock g x y
    shares x y c d a =
        let i = place list x in
        let j = place list y in
        let to : Path (Leads edges) i j = path_alike edges ranks ranked i j (inside x c) (inside y d) a.0 a.1 in
        let round : Path (Leads edges) i i = path_alike edges ranks ranked i i (inside x c) (inside x c) refl a.1 in
        (forth x y c d to, forth y x d c (walk_round (ranked.alike j i (inside y d) (inside x c) (sym a.0)) round))

    alike : (x y : ℕ) → Contains list x → Contains list y → SharesBlock g x y → AreAlike edges ranks list x y
    alike x y c d h =
        let i = place list x in
        let j = place list y in
        let to = back x y c d h.0 in
        let from = back y x d c h.1 in
        let low = falls_on edges ranks ranked i j to in
        let high = falls_on edges ranks ranked j i from in
        (omega (arith, low, high), round_from_path edges ranks ranked i j to high)

    agree : (x y : ℕ) → Contains list x → Contains list y → AreAlike edges ranks list x y ↔ SharesBlock g x y
    agree x y c d = (shares x y c d, alike x y c d)

-- ---- what follows either way from a test
pub match_weaker : (b : Bool) (P Q R S : Type 0) → (P → R) → (Q → S) → MatchBool b P Q → MatchBool b R S
match_weaker true P Q R S f g h = f h
match_weaker false P Q R S f g h = g h

-- edges among the places of a list lead to its places
pub edges_inside : (g : Modules) (list : List ℕ) (pairs : List (ℕ × ℕ)) → ((i j : ℕ) → IsEdge pairs i j ↔ IsEdgeAt g list i j) → (edges : List (List ℕ)) → length edges ≡ length list → ((i j : ℕ) → Leads edges i j ↔ IsEdge pairs i j) → AreWithin edges
edges_inside g list pairs exact edges len same s t d = let e = (exact s t).0 ((same s t).0 d) in omega (arith, e.to, len)
