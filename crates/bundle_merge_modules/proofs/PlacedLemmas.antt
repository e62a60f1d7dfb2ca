-- The places of blocks one after the other, each in the order of its block, sort all items.
use Rattle.std.proofs.Common.{◌≡◌, ℕ, zero, suc, ◌+◌, ◌<◌, ◌⊎◌, Bool, true, false, not, cond, nat_eq, eqb, All, List, [], ◌∷◌, ◌++◌, Some, length, get_or, map, slice_get, Contains, eqb-true, refl, sym, ap, ◌∙◌, subst, inl, inr, arith}
use Rattle.std.specs.Prelude.{filter}
use Rattle.std.specs.List.{AllZip, flat_map, list_any}
use Rattle.std.specs.Option.{option_map}
use Rattle.std.specs.Borrow.{Bor}
use Rattle.std.proofs.lemmas.Bool.{cases_lt}
use Rattle.std.proofs.lemmas.List.{append-nil, append_assoc, get_or_at, get_or_default, get_or-map, length-append, length-map, length_push, map-append}
use Rattle.std.proofs.lemmas.List.Elements.{Contains-get_or}
use Rattle.std.proofs.lemmas.Option.{slice_get-get_or}
use Rattle.std.proofs.lemmas.Map.Keys.{IsDistinct-from_apart}
use Rattle.std.proofs.lemmas.Map.Steps.{le-length_from_below, length-le_from_distinct_below}
use Rattle.bundle_tree_ast.specs.declared.module.ModuleItem.{ModuleItem}
use Rattle.bundle_syntax.specs.Item.{Item}
use Rattle.bundle_tree_listed.specs.Tree.{module_item_items}
use Rattle.bundle_order_sort.specs.Arranged.{IsArrangement}
use Rattle.bundle_order_graph.specs.Modules.{Modules}
use Rattle.bundle_order_graph.proofs.NodeLemmas.{Contains-place, found, place-contains, place-in}
use Rattle.bundle_order_graph.proofs.OrderLemmas.{Contains-cons_cases, Contains-head, Contains-tail}
use Rattle.bundle_order_sort.specs.declared.plan.Block.{Block}
use Rattle.bundle_order_sort.specs.declared.plan.Plan.{Plan}
use Rattle.bundle_order_sort.specs.Places.{left_of, module_numbers_from, places_of, places_where}
use Rattle.bundle_order_sort.specs.Plan.{IsPlanned, IsPlanOf}
use Rattle.bundle_order_sort.proofs.OnceLemmas.{AreOnce, IsOnce, apart_from_once, joined, nothing_in, once_from_apart}
use Rattle.bundle_order_sort.proofs.WholeLemmas.{IsRearranged, IsWhole, all-in, all-once, members-once, whole-order}
use Rattle.bundle_order.specs.Numbering.{owners_of}
use Rattle.bundle_rules.specs.Parts.{Owned, items_in}
use Rattle.bundle_rules.specs.Sorting.{Numbered, IsSorted, SortsBlock, SortsBlocks, numbered_items}
use Rattle.bundle_rules.specs.Sorting.SortsBlock.{lone, cycle}
use Rattle.bundle_rules.specs.Sorting.SortsBlocks.{over, next}
use Rattle.bundle_merge_modules.specs.Placed.{IsAnyBlockPut, IsFitting, IsNewOrder, IsOrdered, IsBlockOrder, tree_at, trees_lent}
use Rattle.bundle_order.proofs.SortedLemmas.{first_of, list_of}

abbrev pub owner_of : Owned → ℕ
owner_of pair = pair.0

abbrev pub tree_of : Owned → List Item
tree_of pair = pair.1

-- ---- items at places
-- the items whose module passes a test stand at the places of those
pub items-where : (test : ℕ → Bool) (trees before : List (List Item)) (pairs : List Owned) (i : ℕ) → trees ≡ before ++ map tree_of pairs → i ≡ length before → map (tree_at trees) (places_where i test (map owner_of pairs)) ≡ map tree_of (filter (λ pair. test pair.0) pairs)
items-where test trees before [] i is at = refl
items-where test trees before ((m, x) ∷ pairs) i is at =
    step (test m)
    (items-where test trees (before ++ x ∷ []) pairs (i + 1)
    (is ∙ sym (append_assoc before (x ∷ []) (map tree_of pairs)))
    (ap (λ k. k + 1) at ∙ sym (length_push before x)))
  where
    here : tree_at trees i ≡ x
    here = ap (λ (l : List (List Item)). get_or l i []) is ∙ get_or_at before x (map tree_of pairs) [] i (sym at)

    step : (b : Bool) → map (tree_at trees) (places_where (i + 1) test (map owner_of pairs)) ≡ map tree_of (filter (λ pair. test pair.0) pairs)
        → map (tree_at trees) (cond b (i ∷ places_where (i + 1) test (map owner_of pairs)) (places_where (i + 1) test (map owner_of pairs))) ≡ map tree_of (cond b ((m, x) ∷ filter (λ pair. test pair.0) pairs) (filter (λ pair. test pair.0) pairs))
    step true e = ap (λ (l : List Item). l ∷ map (tree_at trees) (places_where (i + 1) test (map owner_of pairs))) here ∙ ap (λ (l : List (List Item)). x ∷ l) e
    step false e = e

const-map : {X Y : Type 0} (f : X → Y) (k : ℕ) (xs : List X) → map (λ (x : X). k) xs ≡ map (λ (y : Y). k) (map f xs)
const-map f k [] = refl
const-map f k (x ∷ xs) = ap (λ (l : List ℕ). k ∷ l) (const-map f k xs)

-- as many numbers as items
length-numbers : {X Y : Type 0} (f : X → List Y) (k : ℕ) (xs : List X) → length (module_numbers_from k (map f xs)) ≡ length (flat_map f xs)
length-numbers f k [] = refl
length-numbers {X} {Y} f k (x ∷ xs) =
    length-append (map (λ (y : Y). k) (f x)) (module_numbers_from (k + 1) (map f xs))
    ∙ (ap (λ n. n + length (module_numbers_from (k + 1) (map f xs))) (length-map (f x) (λ (y : Y). k))
    ∙ (ap (λ n. length (f x) + n) (length-numbers f (k + 1) xs)
    ∙ sym (length-append (f x) (flat_map f xs))))

module _ (pairs : List Owned) where
  abbrev trees : List (List Item)
  trees = map tree_of pairs

  abbrev owners : List ℕ
  owners = map owner_of pairs

  items-of : (m : ℕ) → map (tree_at trees) (places_of owners m) ≡ items_in pairs m
  items-of m = items-where (λ o. nat_eq o m) trees [] pairs 0 refl refl

  items-all : (members : List ℕ) → map (tree_at trees) (flat_map (places_of owners) members) ≡ flat_map (λ items. items) (map (items_in pairs) members)
  items-all [] = refl
  items-all (m ∷ members) =
      map-append (tree_at trees) (places_of owners m) (flat_map (places_of owners) members)
      ∙ (ap (λ (l : List (List Item)). l ++ map (tree_at trees) (flat_map (places_of owners) members)) (items-of m)
      ∙ ap (λ (l : List (List Item)). items_in pairs m ++ l) (items-all members))

  numbers-all : (k : ℕ) (members : List ℕ) → module_numbers_from k (map (places_of owners) members) ≡ owners_of k (map (items_in pairs) members)
  numbers-all k [] = refl
  numbers-all k (m ∷ members) =
      ap (λ (l : List ℕ). l ++ module_numbers_from (k + 1) (map (places_of owners) members))
      (const-map (tree_at trees) k (places_of owners m) ∙ ap (map (λ (item : List Item). k)) (items-of m))
      ∙ ap (λ (l : List ℕ). map (λ (item : List Item). k) (items_in pairs m) ++ l) (numbers-all (k + 1) members)

  -- ---- blocks
  pub fits : (g : Modules) (members : List ℕ) (block : Block) → IsPlanned g owners members block → IsFitting (length trees) block
  fits g members block z = record {
    within = λ k d l.
        let p = get_or block.places.items k d in
        let c : Contains (flat_map (places_of owners) members) p = subst (λ (ps : List ℕ). Contains ps p) z.places (Contains-get_or block.places.items k d l) in
        let r = all-in owners members p c in
        omega (arith, r.0, length-map pairs owner_of, length-map pairs tree_of);
    long = ap length z.numbers ∙ (length-numbers (places_of owners) 0 members ∙ sym (ap length z.places));
  }

  pub all-fit : (g : Modules) (blocks : List (List ℕ)) (plans : List Block) → AllZip (IsPlanned g owners) blocks plans → (k : ℕ) (d : Block) → k < length plans → IsFitting (length trees) (get_or plans k d)
  all-fit g [] [] z k d l = absurd (omega (arith, l))
  all-fit g [] (block ∷ plans) z k d l = absurd z
  all-fit g (members ∷ blocks) [] z k d l = absurd z
  all-fit g (members ∷ blocks) (block ∷ plans) z zero d l = fits g members block z.0
  all-fit g (members ∷ blocks) (block ∷ plans) z (suc k) d l = all-fit g blocks plans z.1 k d (omega (arith, l))

  sorts-block : (g : Modules) (members : List ℕ) (block : Block) (order : List ℕ) → IsPlanned g owners members block → IsAnyBlockPut trees block order → SortsBlock g (items_in pairs) members (map (tree_at trees) order)
  sorts-block g members block order z put = by block.is_cycle refl
    where
      joins : map (tree_at trees) block.places.items ≡ flat_map (λ items. items) (map (items_in pairs) members)
      joins = ap (map (tree_at trees)) z.places ∙ items-all members

      is : IsBlockOrder trees block (map (items_in pairs) members) order
      is = put (map (items_in pairs) members) joins (z.numbers ∙ numbers-all 0 members)

      by : (b : Bool) → block.is_cycle ≡ b → SortsBlock g (items_in pairs) members (map (tree_at trees) order)
      by true e = cycle (z.cycle e) (is.cycle e)
      by false e =
          let l = z.lone e in
          let own : map (tree_at trees) block.places.items ≡ items_in pairs l.0 =
          joins ∙ (ap (λ (ms : List ℕ). flat_map (λ (items : List (List Item)). items) (map (items_in pairs) ms)) l.1 ∙ append-nil (items_in pairs l.0)) in
          let listed : map (tree_at trees) order ≡ map first_of (numbered_items (items_in pairs l.0 ∷ [])) =
          is.lone e ∙ ap (λ (items : List (List Item)). map first_of (numbered_items (items ∷ []))) own in
          subst (λ (ms : List ℕ). SortsBlock g (items_in pairs) ms (map (tree_at trees) order)) (sym l.1)
          (subst (λ (s : List (List Item)). SortsBlock g (items_in pairs) (l.0 ∷ []) s) (sym listed) (lone l.2))

  sorts-blocks : (g : Modules) (blocks : List (List ℕ)) (plans : List Block) (orders : List (List ℕ)) → AllZip (IsPlanned g owners) blocks plans → AllZip (IsAnyBlockPut trees) plans orders → SortsBlocks g (items_in pairs) blocks (map (tree_at trees) (joined orders))
  sorts-blocks g [] [] [] z y = over
  sorts-blocks g [] [] (order ∷ orders) z y = absurd y
  sorts-blocks g [] (block ∷ plans) orders z y = absurd z
  sorts-blocks g (members ∷ blocks) [] orders z y = absurd z
  sorts-blocks g (members ∷ blocks) (block ∷ plans) [] z y = absurd y
  sorts-blocks g (members ∷ blocks) (block ∷ plans) (order ∷ orders) z y =
      subst (λ (l : List (List Item)). SortsBlocks g (items_in pairs) (members ∷ blocks) l) (sym (map-append (tree_at trees) order (joined orders)))
      (next (map (tree_at trees) order) (sorts-block g members block order z.0 y.0) (sorts-blocks g blocks plans orders z.1 y.1))

-- ---- places picked by numbers
map-in : (f : ℕ → ℕ) (xs : List ℕ) (p : ℕ) → Contains (map f xs) p → (n : ℕ) × Contains xs n × (f n ≡ p)
map-in f [] p c = absurd (nothing_in c)
map-in f (x ∷ xs) p c = step (Contains-cons_cases (map f xs) (f x) p c) (λ d. map-in f xs p d)
  where
    step : (f x ≡ p) ⊎ Contains (map f xs) p → (Contains (map f xs) p → (n : ℕ) × Contains xs n × (f n ≡ p)) → (n : ℕ) × Contains (x ∷ xs) n × (f n ≡ p)
    step (inl e) more = (x, Contains-head xs x, e)
    step (inr d) more = let r = more d in (r.0, Contains-tail xs x r.0 r.1, r.2)

map-has : (f : ℕ → ℕ) (xs : List ℕ) (n : ℕ) → Contains xs n → Contains (map f xs) (f n)
map-has f [] n c = absurd (nothing_in c)
map-has f (x ∷ xs) n c = step (Contains-cons_cases xs x n c) (λ d. map-has f xs n d)
  where
    step : (x ≡ n) ⊎ Contains xs n → (Contains xs n → Contains (map f xs) (f n)) → Contains (map f (x ∷ xs)) (f n)
    step (inl e) more = subst (λ k. Contains (map f (x ∷ xs)) (f k)) e (Contains-head (map f xs) (f x))
    step (inr d) more = Contains-tail (map f xs) (f x) (f n) (more d)

map-once : (f : ℕ → ℕ) (xs : List ℕ) → IsOnce xs → ((a b : ℕ) → Contains xs a → Contains xs b → f a ≡ f b → a ≡ b) → IsOnce (map f xs)
map-once f [] once apart = tt
map-once f (x ∷ xs) once apart = (
  λ c. let r = map-in f xs (f x) c in once.0 (subst (λ n. Contains xs n) (apart r.0 x (Contains-tail xs x r.0 r.1) (Contains-head xs x) r.2) r.1),
  map-once f xs once.1 (λ a b c d. apart a b (Contains-tail xs x a c) (Contains-tail xs x b d)),
)

module _ (places numbers : List ℕ) (whole : IsArrangement numbers (length places)) where
  abbrev pick : ℕ → ℕ
  pick n = get_or places n 0

  within : (n : ℕ) → Contains numbers n → n < length places
  within n c = subst (λ k. k < length places) (get_or_default numbers c.0 0 n c.1 ∙ c.2) (whole.within c.0 c.1)

  picked-in : (p : ℕ) → Contains (map pick numbers) p → Contains places p
  picked-in p c =
      let r = map-in pick numbers p c in
      subst (λ k. Contains places k) r.2 (Contains-get_or places r.0 0 (within r.0 r.1))

  picked-has : (p : ℕ) → Contains places p → Contains (map pick numbers) p
  picked-has p c = subst (λ k. Contains (map pick numbers) k) (get_or_default places c.0 0 p c.1 ∙ c.2) (map-has pick numbers c.0 (whole.all c.0 c.1))

  picked-once : IsOnce places → IsOnce (map pick numbers)
  picked-once once = map-once pick numbers (once_from_apart numbers whole.once) (λ a b c d e. same a b (within a c) (within b d) e)
    where
      same : (a b : ℕ) → a < length places → b < length places → pick a ≡ pick b → a ≡ b
      same a b l m e = elim (cases_lt a b) [
        | inl lt ↦ absurd (apart_from_once places once a b lt m e)
        | inr ge ↦ elim (cases_lt b a) [
          | inl gt ↦ absurd (apart_from_once places once b a gt l (sym e))
          | inr le ↦ omega (arith, ge, le)
        ]
      ]

-- ---- items that are lent

at-lent : (items : List (Bor ModuleItem)) (n : ℕ) → n < length items → (x : ModuleItem) × (tree_at (trees_lent items) n ≡ list_of x)
at-lent [] n l = absurd (omega (arith, l))
at-lent (item ∷ items) zero l = (item.now, refl)
at-lent (item ∷ items) (suc n) l = at-lent items n (omega (arith, l))

pub drawn : (items : List (Bor ModuleItem)) (places : List ℕ) → All (λ p. p < length items) places → (xs : List ModuleItem) × (map (module_item_items 0) xs ≡ map (tree_at (trees_lent items)) places)
drawn items [] within = ([], refl)
drawn items (p ∷ places) within =
    let r = at-lent items p (within 0 0 (omega arith)) in
    let rest = drawn items places (λ k d l. within (suc k) d (omega (arith, l))) in
    (r.0 ∷ rest.0, ap (λ (l : List Item). l ∷ map list_of rest.0) (sym r.1) ∙ ap (λ (l : List (List Item)). tree_at (trees_lent items) p ∷ l) rest.1)

-- ---- a block in its order
reads : (trees : List (List Item)) (places numbers : List ℕ) → ((n : ℕ) → Contains numbers n → n < length places) → map (tree_at trees) (map (λ n. get_or places n 0) numbers) ≡ map (tree_at (map (tree_at trees) places)) numbers
reads trees places [] within = refl
reads trees places (n ∷ numbers) within =
    ap (λ (l : List Item). l ∷ map (tree_at trees) (map (λ n. get_or places n 0) numbers)) (sym (get_or-map (tree_at trees) places n 0 [] (within n (Contains-head numbers n))))
    ∙ ap (λ (l : List (List Item)). tree_at (map (tree_at trees) places) n ∷ l) (reads trees places numbers (λ k c. within k (Contains-tail numbers n k c)))

zip-read : (numbered : List Numbered) (items : List (List Item)) (numbers order : List ℕ) → AllZip (λ n at. option_map first_of (slice_get numbered n) ≡ slice_get items at) numbers order → ((n : ℕ) → Contains order n → n < length items) → AllZip (λ n item. option_map first_of (slice_get numbered n) ≡ Some item) numbers (map (tree_at items) order)
zip-read numbered items [] [] z within = tt
zip-read numbered items [] (at ∷ order) z within = absurd z
zip-read numbered items (n ∷ numbers) [] z within = absurd z
zip-read numbered items (n ∷ numbers) (at ∷ order) z within =
    (z.0 ∙ slice_get-get_or items at [] (within at (Contains-head order at)), zip-read numbered items numbers order z.1 (λ k c. within k (Contains-tail order at k c)))

pub put-ordered : (trees : List (List Item)) (block : Block) (modules : List (List (List Item))) (xs : List ModuleItem) (numbers order : List ℕ) → map (module_item_items 0) xs ≡ map (tree_at trees) block.places.items → IsOrdered block.is_cycle modules (map (module_item_items 0) xs) numbers → (All (λ n. n < length block.places.items) numbers → order ≡ map (λ n. get_or block.places.items n 0) numbers) → IsBlockOrder trees block modules order
put-ordered trees block modules xs numbers order drawn' ordered pick = record {
  numbers = numbers;
  whole = whole;
  picked = picked;
  lone = λ e. let own = ordered.lone e in read ∙ (own.listed ∙ ap (λ (l : List (List Item)). map first_of (numbered_items (l ∷ []))) drawn');
  cycle = λ e.
      let by = ordered.cycle e in
      subst (λ (l : List (List Item)). IsSorted modules l) (sym read)
      (record {
        order = by.numbers;
        good = by.good;
        items = zip-read (numbered_items modules) (map list_of xs) by.numbers numbers by.each (λ n c. let l = within n c in omega (arith, l, long));
      });
}
  where
    long : length (map list_of xs) ≡ length block.places.items
    long = ap length drawn' ∙ length-map block.places.items (tree_at trees)

    whole : IsArrangement numbers (length block.places.items)
    whole = subst (λ n. IsArrangement numbers n) long ordered.whole

    within : (n : ℕ) → Contains numbers n → n < length block.places.items
    within n c = subst (λ k. k < length block.places.items) (get_or_default numbers c.0 0 n c.1 ∙ c.2) (whole.within c.0 c.1)

    picked : order ≡ map (λ n. get_or block.places.items n 0) numbers
    picked = pick (λ k d l. subst (λ n. n < length block.places.items) (get_or_default numbers k 0 d l) (whole.within k l))

    read : map (tree_at trees) order ≡ map (tree_at (map list_of xs)) numbers
    read =
        ap (map (tree_at trees)) picked
        ∙ (reads trees block.places.items numbers within
        ∙ ap (λ (l : List (List Item)). map (tree_at l) numbers) (sym drawn'))

-- one block more
pub zip-push : {A B : Type 0} (R : A → B → Type 0) (xs : List A) (ys : List B) (x : A) (y : B) → AllZip R xs ys → R x y → AllZip R (xs ++ x ∷ []) (ys ++ y ∷ [])
zip-push R [] [] x y z r = (r, tt)
zip-push R [] (b ∷ ys) x y z r = absurd z
zip-push R (a ∷ xs) [] x y z r = absurd z
zip-push R (a ∷ xs) (b ∷ ys) x y z r = (z.0, zip-push R xs ys x y z.1 r)

-- ---- all together
module _ (g : Modules) (entry : ℕ) (pairs : List Owned) where
  rearranged : (blocks : List (List ℕ)) (plans : List Block) (orders : List (List ℕ)) → AreOnce blocks → AllZip (IsPlanned g (map owner_of pairs)) blocks plans → AllZip (IsAnyBlockPut (map tree_of pairs)) plans orders → AllZip (IsRearranged (map owner_of pairs)) blocks orders
  rearranged [] [] [] once z y = tt
  rearranged [] [] (order ∷ orders) once z y = absurd y
  rearranged [] (block ∷ plans) orders once z y = absurd z
  rearranged (members ∷ blocks) [] orders once z y = absurd z
  rearranged (members ∷ blocks) (block ∷ plans) [] once z y = absurd y
  rearranged (members ∷ blocks) (block ∷ plans) (order ∷ orders) once z y =
      let owners = map owner_of pairs in
      let put = y.0 (map (items_in pairs) members) (ap (map (tree_at (map tree_of pairs))) z.0.places ∙ items-all pairs members) (z.0.numbers ∙ numbers-all pairs 0 members) in
      let places = block.places.items in
      let single : IsOnce places = subst (λ (l : List ℕ). IsOnce l) (sym z.0.places) (all-once owners members once.0) in (
        record {
          same = λ p. (
            λ c. subst (λ (l : List ℕ). Contains l p) z.0.places (picked-in places put.numbers put.whole p (subst (λ (l : List ℕ). Contains l p) put.picked c)),
            λ c. subst (λ (l : List ℕ). Contains l p) (sym put.picked) (picked-has places put.numbers put.whole p (subst (λ (l : List ℕ). Contains l p) (sym z.0.places) c)),
          );
          once = subst (λ (l : List ℕ). IsOnce l) (sym put.picked) (picked-once places put.numbers put.whole single);
        },
        rearranged blocks plans orders once.1 z.1 y.1,
      )

  has-any : (xs : List ℕ) (q : ℕ) → list_any (eqb q) xs ≡ true → Contains xs q
  has-any xs q e = Contains-place xs q (place-in xs q e)

  any-has : (xs : List ℕ) (q : ℕ) → Contains xs q → list_any (eqb q) xs ≡ true
  any-has xs q c = found xs q (place-contains xs q c)

  -- as many places as items
  long : (order : List ℕ) (count : ℕ) → IsWhole order count → length order ≡ count
  long order count w =
      let up = length-le_from_distinct_below order count
      (IsDistinct-from_apart eqb order (λ i j d l m. apart i j d l m))
      (λ q e. (w.all q).0 (has-any order q e)) in
      let down = le-length_from_below order count (λ q l. any-has order q ((w.all q).1 l)) in
      omega (arith, up, down)
    where
      apart : (i j d : ℕ) → i < j → j < length order → eqb (get_or order i d) (get_or order j d) ≡ false
      apart i j d l m = by (eqb (get_or order i d) (get_or order j d)) refl
        where
          by : (b : Bool) → eqb (get_or order i d) (get_or order j d) ≡ b → eqb (get_or order i d) (get_or order j d) ≡ false
          by false e = e
          by true e = absurd (apart_from_once order w.once i j l m
              (get_or_default order i 0 d (omega (arith, l, m)) ∙ (eqb-true (get_or order i d) (get_or order j d) e ∙ get_or_default order j d 0 m)))

  arrangement : (order : List ℕ) (count : ℕ) → IsWhole order count → IsArrangement order count
  arrangement order count w = record {
    within = λ k l. (w.all (get_or order k 0)).0 (Contains-get_or order k 0 l);
    all = λ n l. (w.all n).1 l;
    once = apart_from_once order w.once;
  }

  pub new-order : (plan : Plan) → IsPlanOf g entry (map owner_of pairs) plan → (orders : List (List ℕ)) → AllZip (IsAnyBlockPut (map tree_of pairs)) plan.blocks.items orders → (order : List ℕ) → order ≡ flat_map (λ list. list) orders ++ plan.left.items → IsNewOrder g entry pairs order
  new-order plan p orders y order is =
      let owners = map owner_of pairs in
      let here = map tree_of pairs in
      let once = members-once owners g entry p.list p.is_list p.blocks p.are_blocks in
      let so : order ≡ joined orders ++ left_of owners p.list = is ∙ ap (λ (l : List ℕ). joined orders ++ l) p.left in
      let all : IsWhole order (length pairs) =
      subst (λ n. IsWhole order n) (length-map pairs owner_of)
      (subst (λ (l : List ℕ). IsWhole l (length owners)) (sym so)
      (whole-order owners g entry p.list p.is_list p.blocks p.are_blocks orders (rearranged p.blocks plan.blocks.items orders once p.planned y))) in
      record {
        long = long order (length pairs) all;
        whole = arrangement order (length pairs) all;
        is_reached = λ m. list_any (nat_eq m) p.list;
        reached = λ m. (λ e. (p.is_list.reached m).0 (has-any p.list m e), λ r. any-has p.list m ((p.is_list.reached m).1 r));
        sorted = map (tree_at here) (joined orders);
        reads = ap (map (tree_at here)) so
            ∙ (map-append (tree_at here) (joined orders) (left_of owners p.list)
            ∙ ap (λ (l : List (List Item)). map (tree_at here) (joined orders) ++ l) (items-where (λ o. not (list_any (nat_eq o) p.list)) here [] pairs 0 refl refl));
        sorts = record {
          list = p.list;
          is_list = p.is_list;
          blocks = p.blocks;
          are_blocks = p.are_blocks;
          sorts = sorts-blocks pairs g p.blocks plan.blocks.items orders p.planned y;
        };
      }
