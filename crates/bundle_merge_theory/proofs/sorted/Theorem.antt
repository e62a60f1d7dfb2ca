-- Theorem of this folder (`block-good`): an order that is good for a block's items by themselves
-- is good for them wherever the bundle has them.
-- Used by folder `laid` and by the crate `bundle_merge_items`.
use Rattle.std.proofs.Common.{◌≡◌, ◌↔◌, ℕ, zero, suc, ◌+◌, ◌<◌, List, [], ◌∷◌, Some, Contains, length, map, refl, sym, ap, ◌∙◌, subst, arith}
use Rattle.std.specs.Prelude.{codes, slice_get}
use Rattle.std.proofs.lemmas.Option.{none-some, same_Some, slice_get_within}
use Rattle.bundle_syntax.specs.Item.{Item}
use Rattle.bundle_rules.specs.Scopes.{Top}
use Rattle.bundle_rules.specs.Declarations.{ByContext, name_of}
use Rattle.bundle_rules.specs.Statements.{TopItem, top_items, placed}
use Rattle.bundle_rules.specs.Order.{IsGoodOrder}
use Rattle.bundle_rules.specs.Sorting.{flat, group_of_items}
use Rattle.bundle_rules.specs.Bundle.{Cause, owner_of}
use Rattle.bundle_merge_theory.specs.joined.Joined.{AllOf, IsWholeItem, joined_items, is_item_top_name}
use Rattle.bundle_merge_theory.proofs.joined.Declarations.{IsNamed}
use Rattle.bundle_merge_theory.specs.joined.Picked.{BindsOwnNames, IsItemPlaced, IsSingle}
use Rattle.bundle_merge_theory.proofs.joined.Theorem.{order-of-block, placed-joined, top_items-joined}
use Rattle.bundle_merge_theory.specs.planned.Sorted.{AreMergedItems, IsBlockGood}
use Rattle.bundle_merge_theory.proofs.planned.OrderLemmas.{get-contains, length-mapped}
use Rattle.bundle_merge_theory.proofs.composed.Among.{all-in}
use Rattle.bundle_link_targets.proofs.StageLemmas.{map_at as map-at}

-- a block is a part of the merged items
pub record IsPart (merged : List (List Item)) (first count : ℕ) (block : List (List Item)) : Type
    0 where
  pub long : length block ≡ count
  pub same : (n : ℕ) (item : List Item) → n < count → slice_get merged (first + n) ≡ Some item →
      slice_get block n ≡ Some item

pub length-placed : (n : ℕ) (items : List (List Item)) → length (placed n items) ≡ length items
length-placed n [] = refl
length-placed n (item ∷ more) = ap suc (length-placed (n + length item) more)

all-to : {A : Type 0} (P : A → Type 0) (xs : List A) → AllOf P xs → (n : ℕ) (x : A) →
    slice_get xs n ≡ Some x → P x
all-to P [] all n x e = absurd (none-some x e)
all-to P (a ∷ xs) all zero x e = subst P (same_Some a x e) all.0
all-to P (a ∷ xs) all (suc n) x e = all-to P xs all.1 n x e

lists-same : {A : Type 0} (xs ys : List A) → length xs ≡ length ys →
    ((n : ℕ) (x : A) → slice_get xs n ≡ Some x → slice_get ys n ≡ Some x) → xs ≡ ys
lists-same [] [] long each = refl
lists-same [] (y ∷ ys) long each = absurd (omega (arith, long))
lists-same (x ∷ xs) [] long each = absurd (omega (arith, long))
lists-same {A = A} (x ∷ xs) (y ∷ ys) long each =
    let one : y ≡ x = same_Some y x (each zero x refl) in
    let more : length xs ≡ length ys = omega (arith, long) in
    ap (λ (a : A). a ∷ xs) (sym one)
    ∙ ap (λ (l : List A). y ∷ l) (lists-same xs ys more (λ n z e. each (suc n) z e))

-- the order that was found for a block's items by themselves is what is asked of it in the bundle
pub block-good : (merged others block : List (List Item)) (first : ℕ) (causes : List Cause)
    (order : List ℕ) → IsPart merged first (length causes) block
    → AllOf IsSingle block → AllOf IsWholeItem block → AllOf IsNamed block → AllOf
    (BindsOwnNames block others) block
    → AllOf IsSingle others → AllOf IsWholeItem others → AllOf IsNamed others
    → is_item_top_name others (name_of ByContext (codes "Object") 1) ≡ is_item_top_name block
    (name_of ByContext (codes "Object") 1)
    → IsGoodOrder (group_of_items (flat block) (map owner_of causes)) order
    → IsBlockGood ByContext (joined_items others) Top (top_items (joined_items others)) merged first causes
    order
block-good merged others block first causes order part single whole named ways other_single other_whole other_named object good = record {
  whole = record {
    all = λ n. subst (λ k. (n < k) ↔ Contains order n) counts (good.order_of.all n);
    once = good.order_of.once;
  };
  good =
      λ items its. order-of-block block others single whole named ways other_whole other_named items
      (placed_its items its) (same items its) object (map owner_of causes) order good;
}
  where
    counts : length (group_of_items (flat block) (map owner_of causes)).items ≡ length causes
    counts =
        length-mapped _ (top_items (joined_items block))
        ∙ (ap length (top_items-joined block single) ∙ (length-placed 1 block ∙ part.long))

    placed_its : (items : List TopItem) →
        AreMergedItems (top_items (joined_items others)) merged first (length causes) items →
        AllOf (IsItemPlaced others) items
    placed_its items its = all-in (IsItemPlaced others) items (λ n top e.
        let c =
        subst (λ (l : List TopItem). Contains l top) (top_items-joined others other_single)
        (its.there n top e) in
        let at = get-contains (placed 1 others) top c in
        all-to (IsItemPlaced others) (placed 1 others) (placed-joined others) at.0 top at.1)

    same : (items : List TopItem) →
        AreMergedItems (top_items (joined_items others)) merged first (length causes) items →
        map (λ (top : TopItem). top.items) items ≡ block
    same items its =
        lists-same (map (λ (top : TopItem). top.items) items) block (length-mapped (λ (top : TopItem). top.items) items ∙ (its.long ∙ sym part.long)) (λ n item e.
        let r = map-at (λ (top : TopItem). top.items) items n item e in
        let l : n < length causes =
        (let w = slice_get_within items n r.0 r.1 in
        let long = its.long in omega (arith, w, long)) in
        part.same n item l (its.same n r.0 r.1 ∙ ap (λ (x : List Item). Some x) r.2))
