-- Blocks by the rows of the places of a list.
use Rattle.std.proofs.Common.{◌≡◌, nat_eq, ℕ, ◌+◌, ◌-◌, ◌<◌, ◌≤◌, ◌⊎◌, ◌↔◌, List, [], ◌∷◌, ◌++◌, length, get_or, take, drop, All, Contains, Some, None, position, refl, sym, ap, ◌∙◌, subst, inl, inr, arith}
use Rattle.std.specs.List.{IsDistinct}
use Rattle.std.proofs.lemmas.Bool.{cases_eq}
use Rattle.std.proofs.lemmas.List.{append_assoc, drop_more, drop_all, get_or_default, get_or-drop, length-drop, length-take, get_or-take, take_more, append-nil}
use Rattle.std.proofs.lemmas.List.Elements.{Contains-get_or, Contains-append_left, Contains-push, Contains-push_cases}
use Rattle.bundle_order_graph.specs.Walks.{Reaches, itself, along, Path}
use Rattle.bundle_order_graph.specs.Bits.{IsEdge, IsEdgeAt, IsWithin}
use Rattle.bundle_order_graph.specs.Nodes.{added, place}
use Rattle.bundle_order_graph.specs.Modules.{Modules, deps, Requests}
use Rattle.bundle_order_graph.specs.Blocks.{Members, nothing, kept, left, BlocksOf, over, ends, goes_on}
use Rattle.bundle_order_graph.proofs.NodeLemmas.{place-contains, place-read, position-Some_place, position-None_place, added-out}
use Rattle.bundle_order_graph.proofs.OrderLemmas.{Contains-head, Contains-tail, absent}
use Rattle.bundle_order_graph.proofs.ListLemmas.{same_index}

-- ---- members and blocks, from the front of the list
module _ (Has : ℕ → Type 0) (list : List ℕ) (i : ℕ) (done : List ℕ) (within : i < length list) (so_far : (ys : List ℕ) → Members Has (drop i list) ys → Members Has list (done ++ ys)) where
  pub member_kept : Has (get_or list i 0) → (now : List ℕ) → now ≡ done ++ get_or list i 0 ∷ [] → (ys : List ℕ) → Members Has (drop (i + 1) list) ys → Members Has list (now ++ ys)
  member_kept has now e ys m = subst (λ (l : List ℕ). Members Has list (l ++ ys)) (sym e)
      (subst (λ (l : List ℕ). Members Has list l) (sym (append_assoc done (get_or list i 0 ∷ []) ys))
      (so_far (get_or list i 0 ∷ ys) (subst (λ (l : List ℕ). Members Has l (get_or list i 0 ∷ ys)) (sym (drop_more list i 0 within)) (kept has m))))

  pub member_left : (Has (get_or list i 0) → ⊥) → (ys : List ℕ) → Members Has (drop (i + 1) list) ys → Members Has list (done ++ ys)
  member_left has ys m = so_far ys (subst (λ (l : List ℕ). Members Has l ys) (sym (drop_more list i 0 within)) (left has m))

module _ (S : ℕ → ℕ → Type 0) (list : List ℕ) (i : ℕ) (done : List (List ℕ)) (within : i < length list) (so_far : (bs : List (List ℕ)) → BlocksOf S list (drop i list) bs → BlocksOf S list list (done ++ bs)) where
  pub block_ends : S (get_or list i 0) (get_or list i 0) → ((y : ℕ) → Contains (drop (i + 1) list) y → S (get_or list i 0) y → ⊥) → (block : List ℕ) → Members (S (get_or list i 0)) list block → (now : List (List ℕ)) → now ≡ done ++ block ∷ [] → (bs : List (List ℕ)) → BlocksOf S list (drop (i + 1) list) bs → BlocksOf S list list (now ++ bs)
  block_ends own none block m now e bs b = subst (λ (l : List (List ℕ)). BlocksOf S list list (l ++ bs)) (sym e)
      (subst (λ (l : List (List ℕ)). BlocksOf S list list l) (sym (append_assoc done (block ∷ []) bs))
      (so_far (block ∷ bs) (subst (λ (l : List ℕ). BlocksOf S list l (block ∷ bs)) (sym (drop_more list i 0 within)) (ends own none m b))))

  pub block_goes_on : (S (get_or list i 0) (get_or list i 0) → ⊥) ⊎ ((y : ℕ) × Contains (drop (i + 1) list) y × S (get_or list i 0) y) → (bs : List (List ℕ)) → BlocksOf S list (drop (i + 1) list) bs → BlocksOf S list list (done ++ bs)
  block_goes_on why bs b = so_far bs (subst (λ (l : List ℕ). BlocksOf S list l bs) (sym (drop_more list i 0 within)) (goes_on why b))

pub members_done : (Has : ℕ → Type 0) (list : List ℕ) (i : ℕ) (done : List ℕ) → length list ≤ i → ((ys : List ℕ) → Members Has (drop i list) ys → Members Has list (done ++ ys)) → Members Has list done
members_done Has list i done past so_far = subst (λ (l : List ℕ). Members Has list l) (append-nil done) (so_far [] (subst (λ (l : List ℕ). Members Has l []) (sym (drop_all i list past)) nothing))

pub blocks_done : (S : ℕ → ℕ → Type 0) (list : List ℕ) (i : ℕ) (done : List (List ℕ)) → length list ≤ i → ((bs : List (List ℕ)) → BlocksOf S list (drop i list) bs → BlocksOf S list list (done ++ bs)) → BlocksOf S list list done
blocks_done S list i done past so_far = subst (λ (l : List (List ℕ)). BlocksOf S list list l) (append-nil done) (so_far [] (subst (λ (l : List ℕ). BlocksOf S list l []) (sym (drop_all i list past)) over))

-- ---- places
pub later_place : (list : List ℕ) (i y : ℕ) → Contains (drop (i + 1) list) y → (k : ℕ) × (i < k) × (k < length list) × (get_or list k 0 ≡ y)
later_place list i y c = (i + 1 + c.0, omega arith, omega (arith, c.1, length-drop (i + 1) list), get_or_default list (i + 1 + c.0) 0 y (omega (arith, c.1, length-drop (i + 1) list)) ∙ (sym (get_or-drop (i + 1) list c.0 y) ∙ c.2))

pub place_later : (list : List ℕ) (i k : ℕ) → i < k → k < length list → Contains (drop (i + 1) list) (get_or list k 0)
place_later list i k a b = (k - (i + 1), omega (arith, length-drop (i + 1) list, a, b), get_or-drop (i + 1) list (k - (i + 1)) (get_or list k 0) ∙ (ap (λ n. get_or list n (get_or list k 0)) (omega (arith, a)) ∙ get_or_default list k (get_or list k 0) 0 b))

-- ---- blocks by another relation that agrees on the list
pub Members-agree : {P Q : ℕ → Type 0} {xs ys : List ℕ} → ((x : ℕ) → Contains xs x → P x ↔ Q x) → Members P xs ys → Members Q xs ys
Members-agree same nothing = nothing
Members-agree same (kept {x} {xs} h m) = kept ((same x (Contains-head xs x)).0 h) (Members-agree (λ y c. same y (Contains-tail xs x y c)) m)
Members-agree same (left {x} {xs} h m) = left (λ q. h ((same x (Contains-head xs x)).1 q)) (Members-agree (λ y c. same y (Contains-tail xs x y c)) m)

pub BlocksOf-agree : {S T : ℕ → ℕ → Type 0} {list rest : List ℕ} {blocks : List (List ℕ)} → ((x y : ℕ) → Contains list x → Contains list y → S x y ↔ T x y) → ((x : ℕ) → Contains rest x → Contains list x) → BlocksOf S list rest blocks → BlocksOf T list rest blocks
BlocksOf-agree same among over = over
BlocksOf-agree same among (ends {x} {rest} own none m b) =
    let here = among x (Contains-head rest x) in
    let later = λ (y : ℕ) (c : Contains rest y). among y (Contains-tail rest x y c) in
    ends ((same x x here here).0 own) (λ y c t. none y c ((same x y here (later y c)).1 t)) (Members-agree (λ y c. same x y here c) m) (BlocksOf-agree same later b)
BlocksOf-agree same among (goes_on {x} {rest} why b) =
    let here = among x (Contains-head rest x) in
    let later = λ (y : ℕ) (c : Contains rest y). among y (Contains-tail rest x y c) in
    goes_on {x = x} {rest = rest} (elim why [ inl h ↦ inl (λ t. h ((same x x here here).1 t)) | inr w ↦ inr (w.0, w.1, (same x w.0 here (later w.0 w.1)).0 w.2) ]) (BlocksOf-agree same later b)

-- ---- walks by places
module _ (g : Modules) (list : List ℕ) (once : IsDistinct nat_eq list) (closed : (x y : ℕ) → Contains list x → Requests g x y → Contains list y) (edges : List (ℕ × ℕ)) (exact : (i j : ℕ) → IsEdge edges i j ↔ IsEdgeAt g list i j) where
  reaches_modules : {i j : ℕ} → Reaches (IsEdge edges) i j → Reaches (Requests g) (get_or list i 0) (get_or list j 0)
  reaches_modules itself = itself
  reaches_modules (along {a} {b} e r) = along ((exact a b).0 e).edge (reaches_modules r)

  pub walk_modules : (i j : ℕ) → Path (IsEdge edges) i j → Path (Requests g) (get_or list i 0) (get_or list j 0)
  walk_modules i j p = (get_or list p.0 0, ((exact i p.0).0 p.1).edge, reaches_modules p.2)

  edge_places : (i : ℕ) → i < length list → (y : ℕ) → Requests g (get_or list i 0) y → (k : ℕ) × IsEdge edges i k × (k < length list) × (get_or list k 0 ≡ y)
  edge_places i l y e =
      let c = closed (get_or list i 0) y (Contains-get_or list i 0 l) e in
      let at : get_or list c.0 0 ≡ y = get_or_default list c.0 0 y c.1 ∙ c.2 in
      (c.0, (exact i c.0).1 (record { from = l; to = c.1; edge = subst (λ x. Requests g (get_or list i 0) x) (sym at) e }), c.1, at)

  reaches_places : {x y : ℕ} → Reaches (Requests g) x y → (i j : ℕ) → i < length list → j < length list → get_or list i 0 ≡ x → get_or list j 0 ≡ y → Reaches (IsEdge edges) i j
  reaches_places itself i j l m p q = subst (λ k. Reaches (IsEdge edges) i k) (same_index list once i j l m (p ∙ sym q)) itself
  reaches_places (along {a} {b} {c} e r) i j l m p q =
      let k = edge_places i l b (subst (λ x. Requests g x b) (sym p) e) in
      along k.1 (reaches_places r k.0 j k.2 m k.3 q)

  pub walk_places : (i j : ℕ) → i < length list → j < length list → Path (Requests g) (get_or list i 0) (get_or list j 0) → Path (IsEdge edges) i j
  walk_places i j l m p =
      let k = edge_places i l p.0 p.1 in
      (k.0, k.1, reaches_places p.2 k.0 j k.2 m k.3 refl)

-- ---- the edges among the modules of a list
-- all edges from places before `from` are there, and those of `from` to its first k dependencies
abbrev pub EdgesTo : Modules → List ℕ → ℕ → ℕ → List (ℕ × ℕ) → Type 0
EdgesTo g list from k edges = (i j : ℕ) → IsEdge edges i j ↔ ((IsEdgeAt g list i j × (i < from)) ⊎ ((i ≡ from) × (j < length list) × ((m : ℕ) × (m < k) × (get_or (deps g (get_or list from 0)) m 0 ≡ get_or list j 0))))

pub EdgesTo-start : (g : Modules) (list : List ℕ) → EdgesTo g list 0 0 []
EdgesTo-start g list i j = (λ h. absurd (omega (arith, h.1)), λ c. elim c [ inl p ↦ absurd (omega (arith, p.1)) | inr q ↦ absurd (omega (arith, q.2.1)) ])

module _ (g : Modules) (list : List ℕ) (from k : ℕ) (edges : List (ℕ × ℕ)) (e : EdgesTo g list from k edges) where
  pub EdgesTo-next : from < length list → k ≡ length (deps g (get_or list from 0)) → EdgesTo g list (from + 1) 0 edges
  EdgesTo-next within all i j = (to, back)
    where
      to : IsEdge edges i j → (IsEdgeAt g list i j × (i < from + 1)) ⊎ ((i ≡ from + 1) × (j < length list) × ((m : ℕ) × (m < 0) × (get_or (deps g (get_or list (from + 1) 0)) m 0 ≡ get_or list j 0)))
      to h = elim ((e i j).0 h) [
        | inl p ↦ inl (p.0, omega (arith, p.1))
        | inr q ↦ inl (subst (λ x. IsEdgeAt g list x j) (sym q.0) (record { from = within; to = q.1; edge = (q.2.0, omega (arith, q.2.1, all), get_or_default (deps g (get_or list from 0)) q.2.0 (get_or list j 0) 0 (omega (arith, q.2.1, all)) ∙ q.2.2) }), omega (arith, q.0))
      ]

      back : (IsEdgeAt g list i j × (i < from + 1)) ⊎ ((i ≡ from + 1) × (j < length list) × ((m : ℕ) × (m < 0) × (get_or (deps g (get_or list (from + 1) 0)) m 0 ≡ get_or list j 0))) → IsEdge edges i j
      back (inr q) = absurd (omega (arith, q.2.1))
      back (inl p) = elim (cases_eq i from) [
        | inl at ↦
            let c : Contains (deps g (get_or list from 0)) (get_or list j 0) = subst (λ x. Requests g (get_or list x 0) (get_or list j 0)) at p.0.edge in
            (e i j).1 (inr (at, p.0.to, (c.0, omega (arith, c.1, all), get_or_default (deps g (get_or list from 0)) c.0 0 (get_or list j 0) c.1 ∙ c.2)))
        | inr ne ↦ (e i j).1 (inl (p.0, omega (arith, p.1, ne)))
      ]

  module _ (d : ℕ) (read : d ≡ get_or (deps g (get_or list from 0)) k 0) where
    pub EdgesTo-found : (to : ℕ) → position (nat_eq d) list ≡ Some to → IsDistinct nat_eq list → (now : List (ℕ × ℕ)) → now ≡ edges ++ (from, to) ∷ [] → EdgesTo g list from (k + 1) now
    EdgesTo-found to is once now push i j = (forth, back)
      where
        p : (place list d ≡ to) × (place list d < length list)
        p = position-Some_place list d to is

        within : to < length list
        within = omega (arith, p.0, p.1)

        at_to : get_or list to 0 ≡ d
        at_to = ap (λ n. get_or list n 0) (sym p.0) ∙ place-read list d 0 p.1

        forth : IsEdge now i j → (IsEdgeAt g list i j × (i < from)) ⊎ ((i ≡ from) × (j < length list) × ((m : ℕ) × (m < k + 1) × (get_or (deps g (get_or list from 0)) m 0 ≡ get_or list j 0)))
        forth h = elim (Contains-push_cases edges (from, to) (i, j) (subst (λ (l : List (ℕ × ℕ)). Contains l (i, j)) push h)) [
          | inl o ↦ elim ((e i j).0 o) [ inl q ↦ inl q | inr q ↦ inr (q.0, q.1, (q.2.0, omega (arith, q.2.1), q.2.2)) ]
          | inr s ↦ let n : to ≡ j = ap (λ x. x.1) s in inr (sym (ap (λ x. x.0) s), omega (arith, within, n), (k, omega arith, sym read ∙ (sym at_to ∙ ap (λ x. get_or list x 0) n)))
        ]

        old : IsEdge edges i j → IsEdge now i j
        old h = subst (λ (l : List (ℕ × ℕ)). Contains l (i, j)) (sym push) (Contains-append_left edges ((from, to) ∷ []) (i, j) h)

        back : (IsEdgeAt g list i j × (i < from)) ⊎ ((i ≡ from) × (j < length list) × ((m : ℕ) × (m < k + 1) × (get_or (deps g (get_or list from 0)) m 0 ≡ get_or list j 0))) → IsEdge now i j
        back (inl q) = old ((e i j).1 (inl q))
        back (inr q) = elim (cases_eq q.2.0 k) [
          | inl at ↦
              let n : to ≡ j = same_index list once to j within q.1 (at_to ∙ (read ∙ (ap (λ m. get_or (deps g (get_or list from 0)) m 0) (sym at) ∙ q.2.2))) in
              subst (λ (l : List (ℕ × ℕ)). Contains l (i, j)) (sym push) (subst (λ (x : ℕ × ℕ). Contains (edges ++ (from, to) ∷ []) x) (λ s. (sym q.0 s, n s)) (Contains-push edges (from, to)))
          | inr ne ↦ old ((e i j).1 (inr (q.0, q.1, (q.2.0, omega (arith, q.2.1, ne), q.2.2))))
        ]

    pub EdgesTo-missing : position (nat_eq d) list ≡ None → EdgesTo g list from (k + 1) edges
    EdgesTo-missing is i j = (λ h. elim ((e i j).0 h) [ inl q ↦ inl q | inr q ↦ inr (q.0, q.1, (q.2.0, omega (arith, q.2.1), q.2.2)) ], back)
      where
        back : (IsEdgeAt g list i j × (i < from)) ⊎ ((i ≡ from) × (j < length list) × ((m : ℕ) × (m < k + 1) × (get_or (deps g (get_or list from 0)) m 0 ≡ get_or list j 0))) → IsEdge edges i j
        back (inl q) = (e i j).1 (inl q)
        back (inr q) = elim (cases_eq q.2.0 k) [
          | inl at ↦
              let same : get_or list j 0 ≡ d = sym (sym (sym read) ∙ (ap (λ m. get_or (deps g (get_or list from 0)) m 0) (sym at) ∙ q.2.2)) in
              let c : Contains list d = subst (λ x. Contains list x) same (Contains-get_or list j 0 q.1) in
              absurd (omega (arith, place-contains list d c, position-None_place list d is))
          | inr ne ↦ (e i j).1 (inr (q.0, q.1, (q.2.0, omega (arith, q.2.1, ne), q.2.2)))
        ]

pub EdgesTo-all : (g : Modules) (list : List ℕ) (from : ℕ) (edges : List (ℕ × ℕ)) → EdgesTo g list from 0 edges → length list ≤ from → (i j : ℕ) → IsEdge edges i j ↔ IsEdgeAt g list i j
EdgesTo-all g list from edges e all i j = (λ h. elim ((e i j).0 h) [ inl p ↦ p.0 | inr q ↦ absurd (omega (arith, q.2.1)) ], λ a. (e i j).1 (inl (a, omega (arith, a.from, all))))

-- the places that were taken in turn are those of the list
pub take_added : (list : List ℕ) → IsDistinct nat_eq list → (i x : ℕ) → i < length list → x ≡ get_or list i 0 → (was now : List ℕ) → was ≡ take i list → now ≡ added was x → now ≡ take (i + 1) list
take_added list once i x within read was now is e =
    e ∙ (ap (λ l. added l x) is ∙ (added-out (take i list) x (absent (take i list) x new) ∙ (ap (λ y. take i list ++ y ∷ []) read ∙ sym (take_more list i 0 within))))
  where
    new : Contains (take i list) x → ⊥
    new c =
        let l : c.0 < i = omega (arith, c.1, length-take i list) in
        let at : get_or list c.0 0 ≡ get_or list i 0 = get_or_default list c.0 0 x (omega (arith, l, within)) ∙ (sym (get_or-take i list c.0 x l) ∙ (c.2 ∙ read)) in
        omega (arith, l, same_index list once c.0 i (omega (arith, l, within)) within at)

-- edges among the modules of a list have their ends below its length
pub edges_within : (g : Modules) (list : List ℕ) (edges : List (ℕ × ℕ)) → ((i j : ℕ) → IsEdge edges i j ↔ IsEdgeAt g list i j) → (n : ℕ) → length list ≡ n → All (IsWithin n) edges
edges_within g list edges exact n len k d h =
    let x = get_or edges k d in
    let e = (exact x.0 x.1).0 (Contains-get_or edges k d h) in
    (omega (arith, e.from, len), omega (arith, e.to, len))
