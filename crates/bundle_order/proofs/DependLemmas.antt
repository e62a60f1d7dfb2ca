-- What items depend on, by what they refer to and which items declare that or set it up.
use Rattle.std.proofs.Common.{◌≡◌, ℕ, ◌+◌, ◌<◌, ◌⊎◌, ◌↔◌, ◌||◌, Bool, true, false, not, Option, Some, None, List, [], ◌∷◌, ◌++◌, length, get_or, map, slice_get, Contains, All, refl, sym, ap, ◌∙◌, subst, inl, inr, arith}
use Rattle.std.specs.List.{filter}
use Rattle.std.specs.Option.{option_and_then}
use Rattle.std.specs.List.Sorted.{IsStrictlyIncreasing}
use Rattle.std.proofs.lemmas.Bool.{true≢false, false≢true, true_from_ne_false, cases_lt, and_parts, and_from, or_cases, or_left, or_right, not-true, not_from_false}
use Rattle.std.proofs.lemmas.Option.{none-some, slice_get-get_or, slice_get_within, get_or_from_slice_get}
use Rattle.std.proofs.lemmas.List.{get_or_past, get_or_push, get_or_append_left, length-map, map_push}
use Rattle.std.proofs.lemmas.List.Elements.{All-contains}
use Rattle.bundle_order_sort.specs.declared.Dependency.{Dependency}
use Rattle.bundle_order_sort.specs.declared.Reference.{Reference}
use Rattle.bundle_order_graph.specs.Classes.{Leads}
use Rattle.bundle_rules.specs.Order.{Mention, Group, IsFree, Refers, Provides, Depends, DependsAtOnce, IsStrong}
use Rattle.bundle_order.specs.declared.seen.Seen.{Seen}
use Rattle.bundle_order.specs.Seen.{seen_of, seen_from}
use Rattle.bundle_order.specs.Providing.{item_and_binding, refers, refers_strongly, is_free_item}
use Rattle.bundle_order.specs.Found.{AreFound, AreReferences, AreReferred, HasReference, IsEnd, AreItemDependencies, IsFoundAt, IsReferred}
use Rattle.bundle_order.proofs.ProvideLemmas.{Contains-map, Contains-map_filter, Is-from, Is-refers, contained}
use Rattle.bundle_order_sort.proofs.ElementLemmas.{Contains-none}
use Rattle.bundle_order.proofs.EventLemmas.{Stands-contained}
use Rattle.bundle_order_sort.proofs.StackLemmas.{before_or_at}

-- ---- the dependencies of one item
dependency_is : (x : Dependency) (t : ℕ) (w : Bool) → x.item ≡ t → x.is_weak ≡ w → x ≡ record { item = t; is_weak = w }
dependency_is x t w e f = ap (λ k. let d : Dependency = record { item = k; is_weak = x.is_weak } in d) e ∙ ap (λ v. let d : Dependency = record { item = t; is_weak = v } in d) f

module _ (providers : List (List ℕ)) (all strong ends strong_ends : List ℕ) (s : ℕ) (found : List Dependency) (rises : IsStrictlyIncreasing ends) (each : (t : ℕ) → Contains ends t ↔ IsEnd providers all s t) (strongly : (t : ℕ) → Contains strong_ends t ↔ IsEnd providers strong s t) (items : map (λ (one : Dependency). one.item) found ≡ ends) (flags : All (λ (one : Dependency). (one.is_weak ≡ false) ↔ Contains strong_ends one.item) found) where
  abbrev on : ℕ → Bool → Dependency
  on t w = record { item = t; is_weak = w }

  listed : (t : ℕ) (w : Bool) → Contains found (on t w) → IsEnd providers all s t
  listed t w c = (each t).0 (subst (λ (l : List ℕ). Contains l t) items ((Contains-map (λ (x : Dependency). x.item) found t).1 (on t w, c, refl)))

  flag : (x : Dependency) → Contains found x → (x.is_weak ≡ false) ↔ Contains strong_ends x.item
  flag x c = All-contains (λ (one : Dependency). (one.is_weak ≡ false) ↔ Contains strong_ends one.item) found x flags c

  one_of : (t : ℕ) → IsEnd providers all s t → (x : Dependency) × Contains found x × (x.item ≡ t)
  one_of t e = (Contains-map (λ (x : Dependency). x.item) found t).0 (subst (λ (l : List ℕ). Contains l t) (sym items) ((each t).1 e))

  made_strong : (t : ℕ) → IsEnd providers all s t → IsEnd providers strong s t → Contains found (on t false)
  made_strong t e h =
      let x = one_of t e in
      let is_strong : x.0.is_weak ≡ false = (flag x.0 x.1).1 (subst (λ k. Contains strong_ends k) (sym x.2) ((strongly t).1 h)) in
      subst (λ (y : Dependency). Contains found y) (dependency_is x.0 t false x.2 is_strong) x.1

  made_weak : (t : ℕ) → IsEnd providers all s t → (IsEnd providers strong s t → ⊥) → Contains found (on t true)
  made_weak t e n =
      let x = one_of t e in
      let is_weak : x.0.is_weak ≡ true = true_from_ne_false x.0.is_weak (λ f. n ((strongly t).0 (subst (λ k. Contains strong_ends k) x.2 ((flag x.0 x.1).0 f)))) in
      subst (λ (y : Dependency). Contains found y) (dependency_is x.0 t true x.2 is_weak) x.1

  pub IsFound-made : AreItemDependencies providers all strong s found
  IsFound-made = record {
    strong_ones = λ t. ((λ c. (listed t false c, (strongly t).0 ((flag (on t false) c).0 refl))), λ e. made_strong t e.0 e.1);
    weak_ones = λ t. ((λ c. (listed t true c, λ e. true≢false ((flag (on t true) c).1 ((strongly t).1 e)))), λ e. made_weak t e.0 e.1);
    ascending = subst (λ (l : List ℕ). IsStrictlyIncreasing l) (sym items) rises;
  }

-- ---- one item more

pub references-push : (P : ℕ → List Reference → Type 0) {V : Type 0} (items : V → List Reference) (found found' : List V) (v : V) (n : ℕ) → found' ≡ found ++ v ∷ [] → length found ≡ n → ((s : ℕ) → s < n → P s (get_or (map items found) s [])) → P n (items v) → (s : ℕ) → s < n + 1 → P s (get_or (map items found') s [])
references-push P items found found' v n is len each here s h = subst (λ (l : List (List Reference)). P s (get_or l s [])) (sym (ap (λ l. map items l) is ∙ map_push items found v)) (by (before_or_at s n h))
  where
    by : (s < n) ⊎ (s ≡ n) → P s (get_or (map items found ++ items v ∷ []) s [])
    by (inl l) = subst (λ (r : List Reference). P s r) (sym (get_or_append_left (map items found) (items v ∷ []) [] s (omega (arith, l, len, length-map found items)))) (each s l)
    by (inr e) = subst (λ (r : List Reference). P s r) (sym (get_or_push (map items found) (items v) [] s (length-map found items ∙ (len ∙ sym e)))) (subst (λ k. P k (items v)) (sym e) here)

pub found-push : (P : ℕ → List Dependency → Type 0) {V : Type 0} (items : V → List Dependency) (found found' : List V) (v : V) (n : ℕ) → found' ≡ found ++ v ∷ [] → length found ≡ n → ((s : ℕ) → s < n → P s (get_or (map items found) s [])) → P n (items v) → (s : ℕ) → s < n + 1 → P s (get_or (map items found') s [])
found-push P items found found' v n is len each here s h = subst (λ (l : List (List Dependency)). P s (get_or l s [])) (sym (ap (λ l. map items l) is ∙ map_push items found v)) (by (before_or_at s n h))
  where
    by : (s < n) ⊎ (s ≡ n) → P s (get_or (map items found ++ items v ∷ []) s [])
    by (inl l) = subst (λ (r : List Dependency). P s r) (sym (get_or_append_left (map items found) (items v ∷ []) [] s (omega (arith, l, len, length-map found items)))) (each s l)
    by (inr e) = subst (λ (r : List Dependency). P s r) (sym (get_or_push (map items found) (items v) [] s (length-map found items ∙ (len ∙ sym e)))) (subst (λ k. P k (items v)) (sym e) here)

-- ---- all items
free-of : (o : Option ℕ) → is_free_item o ≡ true → o ≡ None
free-of None e = refl
free-of (Some m) e = absurd (false≢true e)

module _ (g : Group) (providers all strong : List (List ℕ)) (same_len : length g.items ≡ length g.owners) (provides : (b t : ℕ) → Leads providers b t ↔ Provides g t b) (referred : (s b : ℕ) → Leads all s b ↔ ((s < length g.owners) × Contains (map item_and_binding (filter refers (seen_from 0 g.items))) (s, b))) (strongly : (s b : ℕ) → Leads strong s b ↔ ((s < length g.owners) × Contains (map item_and_binding (filter (refers_strongly g.owners) (seen_from 0 g.items))) (s, b))) where
  within : (s b : ℕ) (by : Mention) → Refers g s b by → s < length g.owners
  within s b by r = by_item (slice_get g.items s) refl r.there
    where
      by_item : (o : Option (List Mention)) → slice_get g.items s ≡ o → option_and_then (λ (mentions : List Mention). slice_get mentions r.at) o ≡ Some by → s < length g.owners
      by_item None e h = absurd (none-some by h)
      by_item (Some row) e h = let l = slice_get_within g.items s row e in omega (arith, l, same_len)

  Refers-of : (s b : ℕ) → Leads all s b → (by : Mention) × Refers g s b by
  Refers-of s b l =
      let given = (Contains-map_filter item_and_binding refers (seen_from 0 g.items) (s, b)).0 ((referred s b).0 l).1 in
      let one = given.0 in
      let item : one.item ≡ s = ap (λ (x : ℕ × ℕ). x.0) given.3 in
      let stands = Stands-contained 0 g.items one given.1 in
      let is = Is-from g b s one stands.at stands.by (sym item) (ap (λ (x : ℕ × ℕ). x.1) given.3) stands.there stands.gives in
      (is.by, Is-refers g b s one is (not-true one.declares given.2))

  Refers-from : (s b : ℕ) (by : Mention) → Refers g s b by → Leads all s b
  Refers-from s b by r = (referred s b).1 (within s b by r, (Contains-map_filter item_and_binding refers (seen_from 0 g.items) (s, b)).1 (seen_of s by b, contained g b s r.at by r.there r.denotes, not_from_false by.declares r.refers, refl))

  -- item s refers to b at once, or is free
  pub record RefersStrongly (s b : ℕ) : Type 0 where
    pub by : Mention
    pub refers_to : Refers g s b by
    pub how : (by.later ≡ false) ⊎ IsFree g s

  Strongly-of : (s b : ℕ) → Leads strong s b → RefersStrongly s b
  Strongly-of s b l =
      let inside = ((strongly s b).0 l).0 in
      let given = (Contains-map_filter item_and_binding (refers_strongly g.owners) (seen_from 0 g.items) (s, b)).0 ((strongly s b).0 l).1 in
      let one = given.0 in
      let item : one.item ≡ s = ap (λ (x : ℕ × ℕ). x.0) given.3 in
      let stands = Stands-contained 0 g.items one given.1 in
      let is = Is-from g b s one stands.at stands.by (sym item) (ap (λ (x : ℕ × ℕ). x.1) given.3) stands.there stands.gives in
      let two = and_parts (not one.declares) (not one.is_later || is_free_item (get_or g.owners one.item None)) given.2 in
      record {
        by = is.by;
        refers_to = Is-refers g b s one is (not-true one.declares two.0);
        how = elim (or_cases (not one.is_later) (is_free_item (get_or g.owners one.item None)) two.1) [
          | inl n ↦ inl (ap (λ (x : Seen). x.is_later) (sym is.is) ∙ not-true one.is_later n)
          | inr f ↦ inr (slice_get-get_or g.owners s None inside ∙ ap (λ (o : Option ℕ). Some o) (ap (λ k. get_or g.owners k None) (sym item) ∙ free-of (get_or g.owners one.item None) f))
        ];
      }

  Strongly-from : (s b : ℕ) (by : Mention) → Refers g s b by → (by.later ≡ false) ⊎ IsFree g s → Leads strong s b
  Strongly-from s b by r how = (strongly s b).1 (
    within s b by r,
    (Contains-map_filter item_and_binding (refers_strongly g.owners) (seen_from 0 g.items) (s, b)).1 (
      seen_of s by b,
      contained g b s r.at by r.there r.denotes,
      and_from (not by.declares) (not by.later || is_free_item (get_or g.owners s None)) (not_from_false by.declares r.refers) (elim how [
        | inl l ↦ or_left (not by.later) (is_free_item (get_or g.owners s None)) (not_from_false by.later l)
        | inr f ↦ or_right (not by.later) (is_free_item (get_or g.owners s None)) (ap is_free_item (get_or_from_slice_get g.owners s None None f))
      ]),
      refl,
    ),
  )

  ends-of : (s t : ℕ) → IsEnd providers (get_or all s []) s t → Depends g s t
  ends-of s t e =
      let r = Refers-of s e.1.0 e.1.1 in
      record { other = λ q. e.0 (sym q); binding = e.1.0; by = r.0; refers = r.1; provides = (provides e.1.0 t).0 e.1.2 }

  ends-from : (s t : ℕ) → Depends g s t → IsEnd providers (get_or all s []) s t
  ends-from s t d = ((λ q. d.other (sym q)), (d.binding, Refers-from s d.binding d.by d.refers, (provides d.binding t).1 d.provides))

  strong-of : (s t : ℕ) → IsEnd providers (get_or all s []) s t → IsEnd providers (get_or strong s []) s t → IsStrong g s t
  strong-of s t e h =
      let r = Strongly-of s h.1.0 h.1.1 in
      record {
        depends = ends-of s t e;
        at_once = elim r.how [
          | inl l ↦ inr (record { binding = h.1.0; by = r.by; refers = r.refers_to; at_once = l; provides = (provides h.1.0 t).0 h.1.2 })
          | inr f ↦ inl f
        ];
      }

  strong-from : (s t : ℕ) → IsStrong g s t → IsEnd providers (get_or strong s []) s t
  strong-from s t i = ((λ q. i.depends.other (sym q)), by i.at_once)
    where
      by : IsFree g s ⊎ DependsAtOnce g s t → (b : ℕ) × Leads strong s b × Leads providers b t
      by (inl f) = (i.depends.binding, Strongly-from s i.depends.binding i.depends.by i.depends.refers (inr f), (provides i.depends.binding t).1 i.depends.provides)
      by (inr o) = (o.binding, Strongly-from s o.binding o.by o.refers (inl o.at_once), (provides o.binding t).1 o.provides)

  -- what is referred to strongly is referred to
  all-from_strong : (s b : ℕ) → Leads strong s b → Leads all s b
  all-from_strong s b l = let r = Strongly-of s b l in Refers-from s b r.by r.refers_to

  -- ---- the dependencies of all items, each listed
  module _ (found : List (List Dependency)) (len : length found ≡ length g.owners) (each : (s : ℕ) → s < length g.owners → IsFoundAt providers all strong s found) where
    inside : (s : ℕ) (x : Dependency) → Contains (get_or found s []) x → s < length g.owners
    inside s x c = elim (cases_lt s (length g.owners)) [
      | inl l ↦ l
      | inr past ↦ absurd (Contains-none x (subst (λ (l : List Dependency). Contains l x) (get_or_past found s [] (omega (arith, past, len))) c))
    ]

    pub found-exact : AreFound g found
    found-exact = record {
      len = len ∙ sym same_len;
      strong = λ s t. (
        λ c. let e = ((each s (inside s (record { item = t; is_weak = false }) c)).strong_ones t).0 c in strong-of s t e.0 e.1,
        λ i. ((each s (within s i.depends.binding i.depends.by i.depends.refers)).strong_ones t).1 (ends-from s t i.depends, strong-from s t i),
      );
      weak = λ s t. (
        λ c. let e = ((each s (inside s (record { item = t; is_weak = true }) c)).weak_ones t).0 c in record { depends = ends-of s t e.0; not_strong = λ i. e.1 (strong-from s t i) },
        λ w. ((each s (within s w.depends.binding w.depends.by w.depends.refers)).weak_ones t).1 (ends-from s t w.depends, λ e. w.not_strong (strong-of s t (ends-from s t w.depends) e)),
      );
      ascending = λ s. elim (cases_lt s (length g.owners)) [
        | inl l ↦ (each s l).ascending
        | inr past ↦ subst (λ (l : List Dependency). IsStrictlyIncreasing (map (λ one. one.item) l)) (sym (get_or_past found s [] (omega (arith, past, len)))) (λ k h. absurd (omega (arith, h)))
      ];
    }

  -- ---- the references of all items
  module _ (found : List (List Reference)) (len : length found ≡ length g.owners) (each : AreReferred (length g.owners) all strong found) where
    from : (s : ℕ) (x : Reference) → Contains (get_or found s []) x → s < length g.owners
    from s x c = elim (cases_lt s (length g.owners)) [
      | inl l ↦ l
      | inr past ↦ absurd (Contains-none x (subst (λ (l : List Reference). Contains l x) (get_or_past found s [] (omega (arith, past, len))) c))
    ]

    end-of : (s t : ℕ) (w : Bool) → HasReference found providers s t w → IsEnd providers (get_or all s []) s t
    end-of s t w h = (h.0, (h.1.0, ((each s (from s (record { list = h.1.0; is_weak = w }) h.1.1)).sound h.1.0 w h.1.1).0, h.1.2))

    strong-end-of : (s t : ℕ) → HasReference found providers s t false → IsEnd providers (get_or strong s []) s t
    strong-end-of s t h = (h.0, (h.1.0, ((each s (from s (record { list = h.1.0; is_weak = false }) h.1.1)).sound h.1.0 false h.1.1).1.0 refl, h.1.2))

    reference-from : (s t : ℕ) → s < length g.owners → IsEnd providers (get_or all s []) s t → (w : Bool) × HasReference found providers s t w
    reference-from s t l e = let r = (each s l).complete e.1.0 e.1.1 in (r.0, (e.0, (e.1.0, r.1, e.1.2)))

    strong-reference : (s t : ℕ) → s < length g.owners → IsEnd providers (get_or strong s []) s t → HasReference found providers s t false
    strong-reference s t l e =
        let r = (each s l).complete e.1.0 (all-from_strong s e.1.0 e.1.1) in
        let is : r.0 ≡ false = ((each s l).sound e.1.0 r.0 r.1).1.1 e.1.1 in
        (e.0, (e.1.0, subst (λ w. Contains (get_or found s []) (record { list = e.1.0; is_weak = w })) is r.1, e.1.2))

    pub references-exact : AreReferences g found providers
    references-exact = record {
      len = len ∙ sym same_len;
      strong = λ s t. (
        λ h. strong-of s t (end-of s t false h) (strong-end-of s t h),
        λ i. strong-reference s t (within s i.depends.binding i.depends.by i.depends.refers) (strong-from s t i),
      );
      depends = λ s t. (
        λ h. ends-of s t (end-of s t h.0 h.1),
        λ d. reference-from s t (within s d.binding d.by d.refers) (ends-from s t d),
      );
    }

-- ---- one list of references
module _ (all strong wanted strong_ones : List ℕ) (found : List Reference) (same : (b : ℕ) → Contains wanted b ↔ Contains all b) (strongly : (b : ℕ) → Contains strong_ones b ↔ Contains strong b) (lists : map (λ (one : Reference). one.list) found ≡ wanted) (flags : All (λ (one : Reference). (one.is_weak ≡ false) ↔ Contains strong_ones one.list) found) where
  pub IsReferred-made : IsReferred all strong found
  IsReferred-made = record {
    sound = λ b w c.
        let flag = All-contains (λ (one : Reference). (one.is_weak ≡ false) ↔ Contains strong_ones one.list) found (record { list = b; is_weak = w }) flags c in (
          (same b).0 (subst (λ (l : List ℕ). Contains l b) lists ((Contains-map (λ (one : Reference). one.list) found b).1 (record { list = b; is_weak = w }, c, refl))),
          (λ e. (strongly b).0 (flag.0 e), λ s. flag.1 ((strongly b).1 s)),
        );
    complete = λ b c.
        let g = (Contains-map (λ (one : Reference). one.list) found b).0 (subst (λ (l : List ℕ). Contains l b) (sym lists) ((same b).1 c)) in
        (g.0.is_weak, subst (λ i. Contains found (record { list = i; is_weak = g.0.is_weak })) g.2 g.1);
  }
