-- The edges from items to the lists on which they depend, and from there to items, rank items as their dependencies do.
use Rattle.std.proofs.Common.{◌≡◌, ◌≢◌, ℕ, ◌+◌, ◌<◌, ◌≤◌, ◌↔◌, Some, List, [], length, get_or, map, take, slice_get, Contains, refl, sym, ap, ◌∙◌, subst, inl, inr, arith}
use Rattle.std.specs.List.{filter}
use Rattle.std.proofs.lemmas.Bool.{cases_eq, lt-ltb, ltb-true}
use Rattle.std.proofs.lemmas.Option.{same_Some, slice_get_within}
use Rattle.std.proofs.lemmas.List.{get_or-take}
use Rattle.bundle_order_graph.specs.Walks.{Reaches, itself, along, Path}
use Rattle.bundle_order_graph.proofs.WalkLemmas.{Path-trans}
use Rattle.bundle_order_sort.specs.declared.Reference.{Reference}
use Rattle.bundle_order_sort.specs.declared.SharedItem.{SharedItem}
use Rattle.bundle_order_graph.specs.Classes.{Leads, AreRanks}
use Rattle.bundle_order_sort.specs.Items.{RefersToList, DependsShared, IsListEdge, to_list, to_item, is_within, number_behind, refers_within}
use Rattle.bundle_order_sort.proofs.ElementLemmas.{Contains-map_filter, Contains-filter}
use Rattle.bundle_order_graph.proofs.LeadLemmas.{Leads-within}

pub Refers-within : (items : List SharedItem) (s : ℕ) (r : Reference) → RefersToList items s r → s < length items
Refers-within items s r refers = slice_get_within items s refers.item refers.at

-- ---- the edges of one item and of one list
module _ (items : List SharedItem) (lists : List (List ℕ)) where
  pub ends-of_item : (s : ℕ) (item : SharedItem) → slice_get items s ≡ Some item → (t : ℕ) → Contains (map (number_behind (length items)) (filter (refers_within (length lists)) item.references.items)) t ↔ IsListEdge items lists s t
  ends-of_item s item at t = (
    λ c. let g = (Contains-map_filter (number_behind (length items)) (refers_within (length lists)) item.references.items t).0 c in to_list g.0 (record { item = item; at = at; listed = g.1 }) (ltb-true g.0.list (length lists) g.2) (sym g.3),
    back,
  )
    where
      back : IsListEdge items lists s t → Contains (map (number_behind (length items)) (filter (refers_within (length lists)) item.references.items)) t
      back (to_list r refers inside is) =
          let listed : Contains item.references.items r = subst (λ (i : SharedItem). Contains i.references.items r) (same_Some refers.item item (sym refers.at ∙ at)) refers.listed in
          (Contains-map_filter (number_behind (length items)) (refers_within (length lists)) item.references.items t).1 (r, listed, lt-ltb r.list (length lists) inside, sym is)
      back (to_item l is listed within) = absurd (omega (arith, is, slice_get_within items s item at))

  pub ends-of_list : (l t : ℕ) → Contains (filter (is_within (length items)) (get_or lists l [])) t ↔ IsListEdge items lists (length items + l) t
  ends-of_list l t = (
    λ c. let g = (Contains-filter (is_within (length items)) (get_or lists l []) t).0 c in to_item l refl g.0 (ltb-true t (length items) g.1),
    back,
  )
    where
      back : IsListEdge items lists (length items + l) t → Contains (filter (is_within (length items)) (get_or lists l [])) t
      back (to_list r refers inside is) = absurd (omega (arith, Refers-within items (length items + l) r refers))
      back (to_item k is listed within) = (Contains-filter (is_within (length items)) (get_or lists l []) t).1 (subst (λ i. Leads lists i t) (let same : k ≡ l = omega (arith, is) in same) listed, lt-ltb t (length items) within)

  pub IsEdge-from : (s t : ℕ) → IsListEdge items lists s t → s < length items + length lists
  IsEdge-from s t (to_list r refers inside is) = omega (arith, Refers-within items s r refers)
  IsEdge-from s t (to_item l is listed within) = omega (arith, is, Leads-within lists l t listed)

  pub IsEdge-to : (s t : ℕ) → IsListEdge items lists s t → t < length items + length lists
  IsEdge-to s t (to_list r refers inside is) = omega (arith, is, inside)
  IsEdge-to s t (to_item l is listed within) = omega (arith, within)

  -- ---- the ranks by these edges
  module _ (edges : List (List ℕ)) (each : (s t : ℕ) → Leads edges s t ↔ IsListEdge items lists s t) (ranks : List ℕ) (ranked : AreRanks edges ranks) where
    -- what is reached from x, an item or a list, reaches s: from the item itself, or from one of the list
    record Carries (x s : ℕ) : Type 0 where
      item : x < length items → Reaches (DependsShared items lists) x s
      list : (l : ℕ) → x ≡ length items + l → (t : ℕ) × Leads lists l t × (t < length items) × Reaches (DependsShared items lists) t s

    -- an item that depends on a list reaches what one of the list reaches
    joins : (x t s : ℕ) (r : Reference) → RefersToList items x r → Leads lists r.list t → t < length items → Reaches (DependsShared items lists) t s → Reaches (DependsShared items lists) x s
    joins x t s r refers listed within p = elim (cases_eq t x) [
      | inl e ↦ subst (λ y. Reaches (DependsShared items lists) y s) e p
      | inr other ↦ along (r.is_weak, record { list = r.list; refers = refers; listed = listed; within = within; other = other }) p
    ]

    carry-edge : (x b s : ℕ) → IsListEdge items lists x b → Carries b s → Carries x s
    carry-edge x b s (to_list r refers inside is) c = let t = c.list r.list is in record {
      item = λ _. joins x t.0 s r refers t.1 t.2 t.3;
      list = λ l f. absurd (omega (arith, f, Refers-within items x r refers));
    }
    carry-edge x b s (to_item l is listed within) c = record {
      item = λ k. absurd (omega (arith, is, k));
      list = λ k f. (b, subst (λ i. Leads lists i b) (let same : l ≡ k = omega (arith, is, f) in same) listed, within, c.item within);
    }

    carries : {x s : ℕ} → s < length items → Reaches (Leads edges) x s → Carries x s
    carries h itself = record { item = λ _. itself; list = λ l e. absurd (omega (arith, e, h)) }
    carries h (along {a} {b} {c} e p) = carry-edge a b c ((each a b).0 e) (carries h p)

    proper : {t s : ℕ} → t ≢ s → Reaches (DependsShared items lists) t s → Path (DependsShared items lists) t s
    proper ne itself = absurd (ne refl)
    proper ne (along {a} {b} e p) = (b, e, p)

    module _ (s t : ℕ) (d : DependsShared items lists s t) where
      down : Leads edges s (length items + d.1.list)
      down = (each s (length items + d.1.list)).1 (to_list (record { list = d.1.list; is_weak = d.0 }) d.1.refers (Leads-within lists d.1.list t d.1.listed) refl)

      on : Leads edges (length items + d.1.list) t
      on = (each (length items + d.1.list) t).1 (to_item d.1.list refl d.1.listed d.1.within)

      s-in : s < length items
      s-in = Refers-within items s (record { list = d.1.list; is_weak = d.0 }) d.1.refers

      falls-by : get_or ranks t 0 ≤ get_or ranks s 0
      falls-by = omega (arith, ranked.falls s (length items + d.1.list) down, ranked.falls (length items + d.1.list) t on)

      back-by : get_or ranks s 0 ≤ get_or ranks t 0 → Path (DependsShared items lists) t s
      back-by h = proper d.1.other ((carries s-in walk).item d.1.within)
        where
          first : Path (Leads edges) (length items + d.1.list) s
          first = ranked.back s (length items + d.1.list) down (omega (arith, h, ranked.falls (length items + d.1.list) t on))

          second : Path (Leads edges) t (length items + d.1.list)
          second = ranked.back (length items + d.1.list) t on (omega (arith, h, ranked.falls s (length items + d.1.list) down))

          whole : Path (Leads edges) t s
          whole = Path-trans second first

          walk : Reaches (Leads edges) t s
          walk = along whole.1 whole.2

    -- the ranks of the items alone
    module _ (own : List ℕ) (is : own ≡ take (length items) ranks) where
      own-at : (k : ℕ) → k < length items → get_or own k 0 ≡ get_or ranks k 0
      own-at k h = ap (λ (l : List ℕ). get_or l k 0) is ∙ get_or-take (length items) ranks k 0 h

      pub falls : (s t : ℕ) → DependsShared items lists s t → get_or own t 0 ≤ get_or own s 0
      falls s t d = omega (arith, falls-by s t d, own-at s (s-in s t d), own-at t d.1.within)

      pub back : (s t : ℕ) → DependsShared items lists s t → get_or own s 0 ≤ get_or own t 0 → Path (DependsShared items lists) t s
      back s t d h = back-by s t d (omega (arith, h, own-at s (s-in s t d), own-at t d.1.within))
