-- Blocks one after the other, each with its items in some order, and then what is left, are all items.
use Rattle.std.proofs.Common.{◌≡◌, ℕ, ◌+◌, ◌<◌, ◌⊎◌, ◌↔◌, Bool, true, false, not, nat_eq, List, [], ◌∷◌, ◌++◌, length, get_or, Contains, eqb-true, eq-eqb, refl, sym, ap, ◌∙◌, subst, inl, inr, arith}
use Rattle.std.specs.List.{AllZip, flat_map, list_any}
use Rattle.std.proofs.lemmas.Bool.{false≢true}
use Rattle.std.proofs.lemmas.List.Elements.{Contains-append_left, Contains-append_right, Contains-append_cases}
use Rattle.bundle_order_graph.specs.Modules.{Modules}
use Rattle.bundle_order_graph.specs.Order.{IsOrder}
use Rattle.bundle_order_graph.specs.Walks.{itself}
use Rattle.bundle_order_graph.specs.Blocks.{BlocksOf}
use Rattle.bundle_order_graph.proofs.NodeLemmas.{Contains-place, place-in, found, place-contains}
use Rattle.bundle_order_graph.proofs.OrderLemmas.{Contains-head, Contains-tail, Contains-cons_cases}
use Rattle.bundle_order_sort.specs.Places.{ReachEachOther, left_of, places_of}
use Rattle.bundle_order_sort.proofs.OnceLemmas.{IsOnce, IsOnce-from_distinct, InSome, AreApart, AreOnce, joined, joined-has, joined-in, joined-once, nothing_in, once-append}
use Rattle.bundle_order_sort.proofs.BlockLemmas.{blocks-apart, blocks-has, blocks-in, blocks-once}
use Rattle.bundle_order_sort.proofs.MergeLemmas.{each-flip, each-join}
use Rattle.bundle_order_sort.proofs.PlaceLemmas.{places-has, places-in, places-once}

-- each of so many places stands once
pub record IsWhole (order : List ℕ) (count : ℕ) : Type 0 where
  pub all : (p : ℕ) → Contains order p ↔ (p < count)
  pub once : IsOnce order

module _ (owners : List ℕ) where
  -- the module of the item at a place
  abbrev pub owner : ℕ → ℕ
  owner p = get_or owners p 0

  -- the places of the items of several modules
  abbrev pub places_in : List ℕ → List ℕ
  places_in members = flat_map (places_of owners) members

  one-in : (m p : ℕ) → Contains (places_of owners m) p → (p < length owners) × (owner p ≡ m)
  one-in m p c =
      let s = places-in (λ o. nat_eq o m) 0 owners p c in
      let e : s.offset ≡ p = omega (arith, s.is) in
      (omega (arith, s.within, e), ap owner (sym e) ∙ eqb-true (owner s.offset) m s.passes)

  one-has : (m p : ℕ) → p < length owners → owner p ≡ m → Contains (places_of owners m) p
  one-has m p l e =
      subst (λ k. Contains (places_of owners m) k) (let same : 0 + p ≡ p = omega arith in same)
      (places-has (λ o. nat_eq o m) 0 owners p l (eq-eqb (owner p) m e))

  pub all-in : (members : List ℕ) (p : ℕ) → Contains (places_in members) p → (p < length owners) × Contains members (owner p)
  all-in [] p c = absurd (nothing_in c)
  all-in (m ∷ members) p c = step (Contains-append_cases (places_of owners m) (places_in members) p c) (λ d. all-in members p d)
    where
      step : Contains (places_of owners m) p ⊎ Contains (places_in members) p → (Contains (places_in members) p → (p < length owners) × Contains members (owner p)) → (p < length owners) × Contains (m ∷ members) (owner p)
      step (inl d) more = let r = one-in m p d in (r.0, subst (λ n. Contains (m ∷ members) n) (sym r.1) (Contains-head members m))
      step (inr d) more = let r = more d in (r.0, Contains-tail members m (owner p) r.1)

  pub all-has : (members : List ℕ) (p : ℕ) → p < length owners → Contains members (owner p) → Contains (places_in members) p
  all-has [] p l c = absurd (nothing_in c)
  all-has (m ∷ members) p l c = step (Contains-cons_cases members m (owner p) c) (λ d. all-has members p l d)
    where
      step : (m ≡ owner p) ⊎ Contains members (owner p) → (Contains members (owner p) → Contains (places_in members) p) → Contains (places_in (m ∷ members)) p
      step (inl e) more = Contains-append_left (places_of owners m) (places_in members) p (one-has m p l (sym e))
      step (inr d) more = Contains-append_right (places_of owners m) (places_in members) p (more d)

  pub all-once : (members : List ℕ) → IsOnce members → IsOnce (places_in members)
  all-once [] once = tt
  all-once (m ∷ members) once =
      once-append (places_of owners m) (places_in members) (places-once (λ o. nat_eq o m) 0 owners) (all-once members once.1)
      (λ p c d. once.0 (subst (λ n. Contains members n) (one-in m p c).1 (all-in members p d).1))

  -- the places of a block in some order
  pub record IsRearranged (members order : List ℕ) : Type 0 where
    pub same : (p : ℕ) → Contains order p ↔ Contains (places_in members) p
    pub once : IsOnce order

  orders-in : (blocks orders : List (List ℕ)) → AllZip IsRearranged blocks orders → (p : ℕ) → InSome orders p → (p < length owners) × InSome blocks (owner p)
  orders-in [] [] z p h = absurd h
  orders-in [] (order ∷ orders) z p h = absurd z
  orders-in (block ∷ blocks) [] z p h = absurd z
  orders-in (block ∷ blocks) (order ∷ orders) z p (inl c) = let r = all-in block p ((z.0.same p).0 c) in (r.0, inl r.1)
  orders-in (block ∷ blocks) (order ∷ orders) z p (inr h) = let r = orders-in blocks orders z.1 p h in (r.0, inr r.1)

  orders-has : (blocks orders : List (List ℕ)) → AllZip IsRearranged blocks orders → (p : ℕ) → p < length owners → InSome blocks (owner p) → InSome orders p
  orders-has [] orders z p l h = absurd h
  orders-has (block ∷ blocks) [] z p l h = absurd z
  orders-has (block ∷ blocks) (order ∷ orders) z p l (inl c) = inl ((z.0.same p).1 (all-has block p l c))
  orders-has (block ∷ blocks) (order ∷ orders) z p l (inr h) = inr (orders-has blocks orders z.1 p l h)

  orders-once : (blocks orders : List (List ℕ)) → AllZip IsRearranged blocks orders → AreOnce orders
  orders-once [] [] z = tt
  orders-once [] (order ∷ orders) z = absurd z
  orders-once (block ∷ blocks) [] z = absurd z
  orders-once (block ∷ blocks) (order ∷ orders) z = (z.0.once, orders-once blocks orders z.1)

  orders-apart : (blocks orders : List (List ℕ)) → AllZip IsRearranged blocks orders → AreApart blocks → AreApart orders
  orders-apart [] [] z a = tt
  orders-apart [] (order ∷ orders) z a = absurd z
  orders-apart (block ∷ blocks) [] z a = absurd z
  orders-apart (block ∷ blocks) (order ∷ orders) z a = (
    λ p c h. a.0 (owner p) (all-in block p ((z.0.same p).0 c)).1 (orders-in blocks orders z.1 p h).1,
    orders-apart blocks orders z.1 a.1,
  )

  -- what is left
  left-in : (list : List ℕ) (p : ℕ) → Contains (left_of owners list) p → (p < length owners) × (Contains list (owner p) → ⊥)
  left-in list p c =
      let s = places-in (λ o. not (list_any (nat_eq o) list)) 0 owners p c in
      let e : s.offset ≡ p = omega (arith, s.is) in
      let other : (Contains list (owner s.offset) → ⊥) = λ d. false≢true (ap not (sym (found list (owner s.offset) (place-contains list (owner s.offset) d))) ∙ s.passes) in
      (omega (arith, s.within, e), subst (λ k. Contains list (owner k) → ⊥) e other)

  left-has : (list : List ℕ) (p : ℕ) → p < length owners → list_any (nat_eq (owner p)) list ≡ false → Contains (left_of owners list) p
  left-has list p l e =
      subst (λ k. Contains (left_of owners list) k) (let same : 0 + p ≡ p = omega arith in same)
      (places-has (λ o. not (list_any (nat_eq o) list)) 0 owners p l (ap not e))

  pub whole-order : (g : Modules) (entry : ℕ) (list : List ℕ) → IsOrder g entry list → (blocks : List (List ℕ)) → BlocksOf (ReachEachOther g) list list blocks → (orders : List (List ℕ)) → AllZip IsRearranged blocks orders → IsWhole (joined orders ++ left_of owners list) (length owners)
  whole-order g entry list o blocks b orders z = record { all = λ p. (forth p, back p); once = all_once }
    where
      shares : ℕ → ℕ → Type 0
      shares = ReachEachOther g

      covers : (m : ℕ) → Contains list m → InSome blocks m
      covers m c = blocks-has (ReachEachOther g) (each-flip g) (each-join g) list list blocks b m c (itself, itself) m c (itself, itself)

      listed : (m : ℕ) → InSome blocks m → Contains list m
      listed m h = (blocks-in (ReachEachOther g) (each-flip g) (each-join g) list list blocks b m h).2

      forth : (p : ℕ) → Contains (joined orders ++ left_of owners list) p → p < length owners
      forth p c = elim (Contains-append_cases (joined orders) (left_of owners list) p c) [
        | inl d ↦ (orders-in blocks orders z p (joined-in orders p d)).0
        | inr d ↦ (left-in list p d).0
      ]

      back : (p : ℕ) → p < length owners → Contains (joined orders ++ left_of owners list) p
      back p l = by (list_any (nat_eq (owner p)) list) refl
        where
          by : (t : Bool) → list_any (nat_eq (owner p)) list ≡ t → Contains (joined orders ++ left_of owners list) p
          by true e = Contains-append_left (joined orders) (left_of owners list) p (joined-has orders p (orders-has blocks orders z p l (covers (owner p) (Contains-place list (owner p) (place-in list (owner p) e)))))
          by false e = Contains-append_right (joined orders) (left_of owners list) p (left-has list p l e)

      all_once : IsOnce (joined orders ++ left_of owners list)
      all_once =
          once-append (joined orders) (left_of owners list)
          (joined-once orders (orders-once blocks orders z) (orders-apart blocks orders z (blocks-apart (ReachEachOther g) (each-flip g) (each-join g) list list blocks b)))
          (places-once (λ m. not (list_any (nat_eq m) list)) 0 owners)
          (λ p c d. (left-in list p d).1 (listed (owner p) (orders-in blocks orders z p (joined-in orders p c)).1))

  -- in each block each module stands once
  pub members-once : (g : Modules) (entry : ℕ) (list : List ℕ) → IsOrder g entry list → (blocks : List (List ℕ)) → BlocksOf (ReachEachOther g) list list blocks → AreOnce blocks
  members-once g entry list o blocks b = blocks-once (ReachEachOther g) (each-flip g) (each-join g) list (IsOnce-from_distinct list o.once) list blocks b
