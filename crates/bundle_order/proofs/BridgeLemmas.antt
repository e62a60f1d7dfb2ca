-- A good order of items of which all references were found is a good order of their group.
use Rattle.std.proofs.Common.{◌≡◌, ◌↔◌, Bool, true, false, cond, ℕ, ◌<◌, ◌≤◌, ◌⊎◌, List, map, slice_get, Contains, Option, Some, None, refl, sym, ap, ◌∙◌, subst, inl, inr, arith}
use Rattle.std.specs.Option.{option_map}
use Rattle.std.proofs.lemmas.Bool.{false≢true}
use Rattle.std.proofs.lemmas.Option.{none-some, same_Some, slice_get-map}
use Rattle.std.proofs.lemmas.List.{length-map}
use Rattle.bundle_order_graph.specs.Walks.{Path}
use Rattle.bundle_order_graph.proofs.WalkLemmas.{Path-mono}
use Rattle.bundle_order_sort.specs.declared.SharedItem.{SharedItem}
use Rattle.bundle_order_sort.specs.Numbers as n
use Rattle.bundle_order_sort.specs.Items as i
use Rattle.bundle_order_sort.specs.Items.{NamesShared, to_need, to_earlier}
use Rattle.bundle_rules.specs.Order as o
use Rattle.bundle_rules.specs.Order.{Group, IsStrong, IsWeak, by_need, by_own_order}
use Rattle.bundle_order.specs.Found.{AreReferences}
use Rattle.bundle_order.specs.Cut.{references_of}
use Rattle.bundle_order.specs.Owned.{AreTogether, item_owner}
use Rattle.bundle_order.proofs.ReferenceLemmas.{Depends-forth, Depends-back, IsStrong-forth, IsStrong-back, strong-or-not}

-- ---- the module of an item
owner-forth : (item : SharedItem) (m : ℕ) → item.is_free ≡ false → item.which ≡ m → item_owner item ≡ Some m
owner-forth item m bound own = ap (λ b. cond b None (Some item.which)) bound ∙ ap (λ k. Some k) own

owner-back : (item : SharedItem) (m : ℕ) (b : Bool) → item.is_free ≡ b → cond b None (Some item.which) ≡ Some m → (item.is_free ≡ false) × (item.which ≡ m)
owner-back item m true free e = absurd (none-some m e)
owner-back item m false bound e = (bound, same_Some item.which m e)

read-owner : (items : List SharedItem) (s m : ℕ) → slice_get (map item_owner items) s ≡ Some (Some m) → (item : SharedItem) × (slice_get items s ≡ Some item) × (item_owner item ≡ Some m)
read-owner items s m e = by (slice_get items s) refl (sym (slice_get-map item_owner items s) ∙ e)
  where
    by : (r : Option SharedItem) → slice_get items s ≡ r → option_map item_owner r ≡ Some (Some m) → (item : SharedItem) × (slice_get items s ≡ Some item) × (item_owner item ≡ Some m)
    by None at h = absurd (none-some (Some m) h)
    by (Some item) at h = (item, at, same_Some (item_owner item) (Some m) h)

module _ (g : Group) (items : List SharedItem) (lists : List (List ℕ)) (found : AreReferences g (map references_of items) lists) (owned : map item_owner items ≡ g.owners) (together : AreTogether g.owners) where
  IsOf-forth : (s m : ℕ) → i.IsItemOf items s m → o.IsOf g s m
  IsOf-forth s m of = ap (λ (l : List (Option ℕ)). slice_get l s) (sym owned) ∙ (slice_get-map item_owner items s ∙ (ap (λ (r : Option SharedItem). option_map item_owner r) of.at ∙ ap (λ x. Some x) (owner-forth of.item m of.bound of.own)))

  IsOf-back : (s m : ℕ) → o.IsOf g s m → i.IsItemOf items s m
  IsOf-back s m of =
      let r = read-owner items s m (ap (λ (l : List (Option ℕ)). slice_get l s) owned ∙ of) in
      let b = owner-back r.0 m r.0.is_free refl r.2 in
      record { item = r.0; at = r.1; bound = b.0; own = b.1 }

  -- ---- what an item needs, and the steps
  Needs-forth : (s t : ℕ) → i.NeedsShared items lists s t → o.Needs g s t
  Needs-forth s t n = record {
    depends = Depends-forth g items lists found s t (n.is_weak, n.named);
    across = record { apart = λ m a b. n.apart (record { module_number = m; one = IsOf-back s m a; other = IsOf-back t m b }) };
    holds = λ weak path. by n.is_weak n.named n.strong weak (Path-mono {E = o.Depends g} {F = i.DependsShared items lists} (Depends-back g items lists found) path);
  }
    where
      by : (w : Bool) → NamesShared items lists s t w → (w ≡ true → Path (i.DependsShared items lists) t s → ⊥) → IsWeak g s t → Path (i.DependsShared items lists) t s → ⊥
      by true named strong weak path = strong refl path
      by false named strong weak path = weak.not_strong (IsStrong-forth g items lists found s t named)

  Needs-back : (s t : ℕ) → o.Needs g s t → i.NeedsShared items lists s t
  Needs-back s t n = by (strong-or-not g items lists found s t)
    where
      apart : i.ShareModule items s t → ⊥
      apart share = n.across.apart share.module_number (IsOf-forth s share.module_number share.one) (IsOf-forth t share.module_number share.other)

      by : IsStrong g s t ⊎ (IsStrong g s t → ⊥) → i.NeedsShared items lists s t
      by (inl strong) = record { is_weak = false; named = IsStrong-back g items lists found s t strong; apart = apart; strong = λ e path. absurd (false≢true e) }
      by (inr missing) = let d = Depends-back g items lists found s t n.depends in record {
        is_weak = d.0;
        named = d.1;
        apart = apart;
        strong = λ e path. n.holds (record { depends = n.depends; not_strong = missing }) (Path-mono {E = i.DependsShared items lists} {F = o.Depends g} (Depends-forth g items lists found) path);
      }

  Step-forth : (s t : ℕ) → i.SharedStep items lists s t → o.Step g s t
  Step-forth s t (to_need n) = by_need (Needs-forth s t n)
  Step-forth s t (to_earlier e) =
      by_own_order e.module_number
      (IsOf-forth s e.module_number (e.together s (omega (arith, e.before)) (omega arith)))
      (IsOf-forth t e.module_number (e.together t (omega arith) (omega (arith, e.before)))) e.before

  IsEarlier-back : (m s t : ℕ) → o.IsOf g s m → o.IsOf g t m → t < s → i.IsEarlierItem items s t
  IsEarlier-back m s t a b less = record { before = less; module_number = m; together = λ k l u. IsOf-back k m (together s t m a b k l u) }

  StandsBefore-back : (order : List ℕ) (s t : ℕ) → o.StandsBefore order s t → n.IsListedBefore order s t
  StandsBefore-back order s t b = record { i = b.i; j = b.j; before = b.before; first = b.first; second = b.second }

  pub IsGoodOrder-of_group : (order : List ℕ) → i.IsGoodItemOrder items lists order → o.IsGoodOrder g order
  IsGoodOrder-of_group order good = record {
    order_of = record {
      all = λ s. subst (λ count. s < count ↔ Contains order s) (sym (length-map items references_of) ∙ found.len) (good.all s);
      once = good.once;
    };
    own = λ m s t a b less before. Path-mono {E = i.SharedStep items lists} {F = o.Step g} Step-forth (good.own s t (IsEarlier-back m s t a b less) (StandsBefore-back order s t before));
    needs = λ s t needed before.
        let p = good.needed s t (Needs-back s t needed) (StandsBefore-back order s t before) in
        (Path-mono {E = i.DependsShared items lists} {F = o.Depends g} (Depends-forth g items lists found) p.0, Path-mono {E = i.SharedStep items lists} {F = o.Step g} Step-forth p.1);
    as_numbered = λ bound s t most settled a b before.
        good.as_numbered bound s t (subst (λ count. bound ≤ count) (sym (sym (length-map items references_of) ∙ found.len)) most)
        (λ x y c d path. settled x y c d (Path-mono {E = i.SharedStep items lists} {F = o.Step g} Step-forth path)) a b (StandsBefore-back order s t before);
  }
