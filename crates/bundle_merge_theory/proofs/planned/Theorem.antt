-- Theorem of this folder (`ordered-from`): where the body has the merged items in the order of
-- all, the items of each block stand where the plan has their causes.
-- Used by folder `laid`.
use Rattle.std.proofs.Common.{◌≡◌, ℕ, zero, suc, ◌+◌, ◌<◌, Bool, true, false, List, [], ◌∷◌, ◌++◌, Some, Contains, length, map, refl, sym, ap, ◌∙◌, subst, if◌then◌else◌, length-append, arith}
use Rattle.std.specs.Prelude.{slice_get, unwrap_or}
use Rattle.std.specs.List.{AllZip}
use Rattle.std.proofs.lemmas.List.{append_assoc}
use Rattle.std.proofs.lemmas.Option.{same_Some, slice_get_within}
use Rattle.bundle_syntax.specs.Item.{Item}
use Rattle.bundle_rules.specs.Declarations.{Reading}
use Rattle.bundle_rules.specs.Statements.{TopItem}
use Rattle.bundle_rules.specs.Bundle.{Pairing}
use Rattle.bundle_order_sort.proofs.OnceLemmas.{IsOnce-from_distinct}
use Rattle.bundle_scope_names.proofs.KnowsLemmas.{pigeons}
use Rattle.bundle_merge_theory.specs.planned.Decided.{Decided, DecidedBlock, AreOrdered, arranged, back_plan, block_items, block_order, block_plan, blocks_order, front_plan, index_of, item_at, merged_blocks, no_item, numbers_from, placed_plan, whole_order}
use Rattle.bundle_merge_theory.specs.planned.Sorted.{AreBlocksGood, AreMergedItems, IsBlockGood, IsItem, IsWholeOrder}
use Rattle.bundle_merge_theory.proofs.planned.OrderLemmas.{ReadBy, contains-get, get-contains, length-mapped, once-places}
use Rattle.bundle_merge_theory.proofs.planned.CauseLemmas.{once-from}
use Rattle.bundle_scope_names.proofs.Told.{zip-length as length-zip}
use Rattle.bundle_merge_theory.proofs.planned.BundleLemmas.{arranged-reads, index-there}
use Rattle.bundle_merge_theory.proofs.joined.Paths.{get-behind, get-left as get-front}
use Rattle.bundle_link_targets.proofs.CallPlaceLemmas.{zip-at as zip-get}
use Rattle.bundle_link_targets.proofs.StageLemmas.{map_at as map-at, at_map as at-map}

-- ---- numbers
length-numbers : (i n : ℕ) → length (numbers_from i n) ≡ n
length-numbers i zero = refl
length-numbers i (suc n) = ap suc (length-numbers (suc i) n)

numbers-at : (i n k : ℕ) → k < n → slice_get (numbers_from i n) k ≡ Some (i + k)
numbers-at i zero k l = absurd (omega (arith, l))
numbers-at i (suc n) zero l = let same : i ≡ i + 0 = omega arith in ap (λ m. Some m) same
numbers-at i (suc n) (suc k) l =
    let same : suc i + k ≡ i + suc k = omega arith in numbers-at (suc i) n k (omega (arith, l))
    ∙ ap (λ m. Some m) same

numbers-place : (i n k m : ℕ) → slice_get (numbers_from i n) k ≡ Some m → (k < n) × (m ≡ i + k)
numbers-place i n k m e =
    let len = length-numbers i n in
    let l : k < n = (let w = slice_get_within (numbers_from i n) k m e in omega (arith, w, len)) in
    (l, sym (same_Some (i + k) m (sym (numbers-at i n k l) ∙ e)))

-- an order that is whole has as many numbers
whole-length : (count : ℕ) (order : List ℕ) → IsWholeOrder count order → length order ≡ count
whole-length count order its =
    let len = length-numbers zero count in
    let few = pigeons (λ (a b : ℕ). a ≡ b) (λ a b y e f. e ∙ sym f) order (numbers_from zero count)
    (λ i j x e f. once-places order (once-from order (IsOnce-from_distinct order its.once)) i
    j x e f)
    (λ i x e.
    (let l = (its.all x).1 (contains-get order i x e) in
    let zero_x : 0 + x ≡ x = omega arith in
    (x, x, numbers-at zero count x l ∙ ap (λ m. Some m) zero_x, refl))) in
    let many = pigeons (λ (a b : ℕ). a ≡ b) (λ a b y e f. e ∙ sym f) (numbers_from zero count) order
    (λ i j x e f.
    (let a = (numbers-place zero count i x e).1 in
    let b = (numbers-place zero count j x f).1 in omega (arith, a, b)))
    (λ i x e.
    (let r = numbers-place zero count i x e in
    let l : x < count = (let a = r.0 in let b = r.1 in omega (arith, a, b)) in
    let k = get-contains order x ((its.all x).0 l) in (k.0, x, k.1, refl))) in
    omega (arith, len, few, many)

-- ---- items

module _ (body : List TopItem) (merged : List (List Item)) (whole : List ℕ)
    (are : AllZip (IsItem merged) whole body) where
  -- the items of a block, where these stand in their order between others
  items-of : (before after : List ℕ) (first count : ℕ) (order : List ℕ) →
      whole ≡ before ++ (map (λ n. first + n) order ++ after) → IsWholeOrder count order →
      AreMergedItems body merged first count (block_items body (length before) order count)
  items-of before after first count order is its = record {
    long =
        length-mapped (λ n. item_at body (length before + index_of n order))
        (numbers_from zero count)
        ∙ length-numbers zero count;
    same = λ n top e. (stand n top e).0;
    there = λ n top e. (stand n top e).1;
  }
    where
      stand : (n : ℕ) (top : TopItem) →
          slice_get (block_items body (length before) order count) n ≡ Some top →
          IsItem merged (first + n) top × Contains body top
      stand n top e =
          let r =
          map-at (λ n. item_at body (length before + index_of n order))
          (numbers_from zero count) n top e in
          let place = numbers-place zero count n r.0 r.1 in
          let is_n : r.0 ≡ n = (let q = place.1 in omega (arith, q)) in
          let k = index_of n order in
          let there = index-there n order ((its.all n).0 place.0) in
          let at : slice_get whole (length before + k) ≡ Some (first + n) =
          ap (λ (l : List ℕ). slice_get l (length before + k)) is
          ∙ (get-behind before (map (λ n. first + n) order ++ after) k
          ∙ get-front (map (λ n. first + n) order) after k (first + n) (at-map (λ n. first + n) order k n there)) in
          let found = zip-get (IsItem merged) whole body are (length before + k) (first + n) at in
          let here : item_at body (length before + k) ≡ found.0 =
          ap (λ o. unwrap_or o no_item) found.1 in
          let top_is : found.0 ≡ top =
          sym here
          ∙ (ap (λ m. item_at body (length before + index_of m order)) (sym is_n) ∙ r.2) in (
            subst (IsItem merged (first + n)) top_is found.2,
            subst (Contains body) top_is (contains-get body (length before + k) found.0 found.1),
          )

module _ (reading : Reading) (tree : List Item) (pairing : Pairing) (merged : List (List Item))
    (d : Decided) (whole : List ℕ) (are : AllZip (IsItem merged) whole pairing.body) where
  block-length : (first : ℕ) (block : DecidedBlock) (order : List ℕ) →
      (block.is_sorted ≡ true → IsBlockGood reading tree pairing.top pairing.body merged first
      (block_plan d block.modules) order) →
      (length (placed_plan d block order) ≡ length (block_plan d block.modules))
      × (length (block_order d first block order) ≡ length (block_plan d block.modules))
  block-length first block order good = by block.is_sorted refl
    where
      by : (t : Bool) → block.is_sorted ≡ t →
          (length
          (if t then arranged (block_plan d block.modules) order else block_plan d
          block.modules) ≡ length (block_plan d block.modules))
          × (length
          (if t then map (λ n. first + n) order else numbers_from first
          (length (block_plan d block.modules))) ≡ length (block_plan d block.modules))
      by true e =
          let its = (good e).whole in
          let long = whole-length (length (block_plan d block.modules)) order its in (
            sym
                (length-zip (ReadBy (block_plan d block.modules)) order
                (arranged (block_plan d block.modules) order)
                (arranged-reads (block_plan d block.modules) order
                (λ n c. (its.all n).1 c)))
                ∙ long,
            length-mapped (λ n. first + n) order ∙ long,
          )
      by false e = (refl, length-numbers first (length (block_plan d block.modules)))

  blocks-ordered : (before after : List ℕ) (blocks : List DecidedBlock) (orders : List (List ℕ)) →
      whole ≡ before ++ (blocks_order d (length before) blocks orders ++ after) →
      AreBlocksGood reading tree pairing.top pairing.body merged d (length before) blocks orders →
      AreOrdered reading tree pairing d (length before) blocks orders
  blocks-ordered before after [] [] is good = tt
  blocks-ordered before after [] (order ∷ orders) is good = absurd good
  blocks-ordered before after (block ∷ blocks) [] is good = absurd good
  blocks-ordered before after (block ∷ blocks) (order ∷ orders) is good =
      let first = length before in
      let causes = block_plan d block.modules in
      let mine = block_order d first block order in
      let rest = blocks_order d (first + length causes) blocks orders in
      let apart = is ∙ ap (λ (l : List ℕ). before ++ l) (append_assoc mine rest after) in
      let long = block-length first block order good.0 in
      let further : length (before ++ mine) ≡ first + length causes =
      length-append before mine ∙ ap (λ k. first + k) long.1 in
      let placed : first + length causes ≡ first + length (placed_plan d block order) =
      ap (λ k. first + k) (sym long.0) in
      let next : AreOrdered reading tree pairing d (length (before ++ mine)) blocks orders =
      blocks-ordered (before ++ mine) after blocks orders
      (apart
      ∙ (sym (append_assoc before mine (rest ++ after))
      ∙ ap (λ k. (before ++ mine) ++ (blocks_order d k blocks orders ++ after))
      (sym further)))
      (subst (λ k. AreBlocksGood reading tree pairing.top pairing.body merged d k blocks orders)
      (sym further) good.1) in (
        λ e. (good.0 e).good (block_items pairing.body first order (length causes))
            (items-of pairing.body merged whole are before (rest ++ after) first (length causes)
            order
            (apart
            ∙ ap
            (λ (t : Bool). before ++
            ((if t then map (λ n. first + n) order else numbers_from first
            (length causes)) ++ (rest ++ after))) e) (good.0 e).whole),
        subst (λ k. AreOrdered reading tree pairing d k blocks orders) (further ∙ placed) next,
      )

-- where the body has the merged items in the order of all, and each order is good for its block's
-- items wherever they stand, each is good where they stand
pub ordered-from : (reading : Reading) (tree : List Item) (pairing : Pairing)
    (merged : List (List Item)) (d : Decided) (orders : List (List ℕ)) →
    AllZip (IsItem merged) (whole_order d orders) pairing.body →
    AreBlocksGood reading tree pairing.top pairing.body merged d (length (front_plan d)) d.blocks
    orders → AreOrdered reading tree pairing d (length (front_plan d)) d.blocks orders
ordered-from reading tree pairing merged d orders are good =
    let front = numbers_from zero (length (front_plan d)) in
    let back =
    numbers_from (length (front_plan d) + length (merged_blocks d d.blocks))
    (length (back_plan d)) in
    let len : length front ≡ length (front_plan d) = length-numbers zero (length (front_plan d)) in
    subst (λ k. AreOrdered reading tree pairing d k d.blocks orders) len
    (blocks-ordered reading tree pairing merged d (whole_order d orders) are front back d.blocks orders
    (ap (λ k. front ++ (blocks_order d k d.blocks orders ++ back)) (sym len))
    (subst (λ k. AreBlocksGood reading tree pairing.top pairing.body merged d k d.blocks orders) (sym len) good))
