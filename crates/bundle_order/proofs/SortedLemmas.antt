-- The order of the places of items sorts them.
use Rattle.std.proofs.Common.{◌≡◌, ◌↔◌, ℕ, zero, suc, ◌+◌, ◌<◌, Vec, Global, List, [], ◌∷◌, ◌++◌, Option, Some, length, get_or, map, replicate, slice_get, Contains, refl, sym, ap, ◌∙◌, subst, append_assoc, append-nil, inl, inr, arith}
use Rattle.std.specs.List.{AllZip, flat_map}
use Rattle.std.specs.Option.{option_map}
use Rattle.std.proofs.lemmas.Option.{get_or_from_slice_get, slice_get-map, slice_get-get_or}
use Rattle.std.proofs.lemmas.List.{length-map, map-append, get_or_default}
use Rattle.bundle_tree_ast.specs.declared.module.ModuleItem.{ModuleItem}
use Rattle.bundle_syntax.specs.Item.{Item}
use Rattle.bundle_tree_listed.specs.Tree.{module_item_items}
use Rattle.bundle_rules.specs.Declarations.{ByContext}
use Rattle.bundle_rules.specs.Scopes.{Top}
use Rattle.bundle_order_sort.specs.declared.SharedItem.{SharedItem}
use Rattle.bundle_order_sort.specs.Items as i
use Rattle.bundle_rules.specs.Order.{Group, IsGoodOrder, group_of}
use Rattle.bundle_rules.specs.Parts.{tree_of_items}
use Rattle.bundle_rules.specs.Sorting.{IsSorted, Numbered, flat, group_of_items, numbered_items}
use Rattle.bundle_rules.specs.Statements.{placed}
use Rattle.bundle_order.specs.Found.{AreReferences}
use Rattle.bundle_order_sort.proofs.ElementLemmas.{Contains-cons}
use Rattle.bundle_order.specs.Cut.{references_of}
use Rattle.bundle_order.specs.declared.number.ItemPlace.{ItemPlace}
use Rattle.bundle_order_sort.specs.Arranged.{AreArranged, IsArrangement}
use Rattle.bundle_order.specs.Grouped.{group_placed}
use Rattle.bundle_order.specs.Numbering.{IsOwnOrder, IsSortedBy, all_places, at_of, numbered_at, owners_of}
use Rattle.bundle_order.specs.Owned.{AreTogether, item_owner}
use Rattle.bundle_order.proofs.BridgeLemmas.{IsGoodOrder-of_group}
use Rattle.bundle_order.proofs.ReferenceLemmas.{whole}
use Rattle.bundle_order.proofs.NumberingLemmas.{IsArrangement-composed, IsArrangement-places, all-read, length-owners}
use Rattle.bundle_order.proofs.TogetherLemmas.{AreTogether-numbered}

abbrev pub list_of : ModuleItem → List Item
list_of item = module_item_items 0 item

abbrev pub first_of : Numbered → List Item
first_of one = one.0

abbrev second_of : Numbered → Option ℕ
second_of one = one.1

-- ---- the items that are numbered are items of a module
at-item : (items : List ModuleItem) (n : ℕ) → n < length items → (x : ModuleItem) × (get_or (map list_of items) n [] ≡ list_of x)
at-item [] n l = absurd (omega (arith, l))
at-item (x ∷ items) zero l = (x, refl)
at-item (x ∷ items) (suc n) l = at-item items n (omega (arith, l))

drawn : (items : List ModuleItem) (places : List ItemPlace) → ((p : ℕ) → Contains (map at_of places) p → p < length items) → (xs : List ModuleItem) × (map list_of xs ≡ map first_of (map (numbered_at (map list_of items)) places))
drawn items [] within = ([], refl)
drawn items (p ∷ places) within =
    let r = at-item items p.at (within p.at ((Contains-cons p.at (map at_of places) p.at).1 (inl refl))) in
    let rest = drawn items places (λ q c. within q ((Contains-cons p.at (map at_of places) q).1 (inr c))) in
    (r.0 ∷ rest.0, ap (λ (l : List Item). l ∷ map list_of rest.0) (sym r.1) ∙ ap (λ (l : List (List Item)). get_or (map list_of items) p.at [] ∷ l) rest.1)

group-same : (lists : List (List Item)) (owners : List (Option ℕ)) (xs : List ModuleItem) → map list_of xs ≡ lists → group_placed lists owners ≡ group_of_items (flat lists) owners
group-same lists owners xs e = subst (λ (l : List (List Item)). group_placed l owners ≡ group_of_items (flat l) owners) e (ap (λ (l : List (List Item)). group_of ByContext Top (tree_of_items (flat (map list_of xs))) (placed 1 l) owners) (sym (whole xs)))

-- ---- items with their modules, in a good order of what they need
pub IsGoodOrder-items : (items : List ModuleItem) (owners : List (Option ℕ)) (needs : List SharedItem) (lists : List (List ℕ))
    (numbers : List ℕ) →
    AreReferences (group_placed (map (module_item_items 0) items) owners) (map references_of needs) lists →
    map item_owner needs ≡ owners →
    AreTogether owners →
    i.IsGoodItemOrder needs lists numbers →
    IsGoodOrder (group_of_items (flat (map (module_item_items 0) items)) owners) numbers
IsGoodOrder-items items owners needs lists numbers found owned together good =
    subst (λ (g : Group). IsGoodOrder g numbers) (group-same (map list_of items) owners items refl)
    (IsGoodOrder-of_group (group_placed (map list_of items) owners) needs lists found owned together numbers good)

-- ---- what stands at a place
point : (lists : List (List Item)) (places : List ItemPlace) (n : ℕ) → n < length places → ((p : ℕ) → Contains (map at_of places) p → p < length lists) → option_map first_of (slice_get (map (numbered_at lists) places) n) ≡ slice_get lists (get_or (map at_of places) n 0)
point lists [] n l within = absurd (omega (arith, l))
point lists (p ∷ places) zero l within = sym (slice_get-get_or lists p.at [] (within p.at ((Contains-cons p.at (map at_of places) p.at).1 (inl refl))))
point lists (p ∷ places) (suc n) l within = point lists places n (omega (arith, l)) (λ q c. within q ((Contains-cons p.at (map at_of places) q).1 (inr c)))

each-of : (numbered : List Numbered) (lists : List (List Item)) (places : List ℕ) (numbers : List ℕ) → ((n : ℕ) → Contains numbers n → option_map first_of (slice_get numbered n) ≡ slice_get lists (get_or places n 0)) → AllZip (λ n at. option_map first_of (slice_get numbered n) ≡ slice_get lists at) numbers (map (λ n. get_or places n 0) numbers)
each-of numbered lists places [] at = tt
each-of numbered lists places (n ∷ numbers) at = (at n ((Contains-cons n numbers n).1 (inl refl)), each-of numbered lists places numbers (λ k c. at k ((Contains-cons n numbers k).1 (inr c))))

module _ (modules : List (List (List Item))) (items : List ModuleItem) (owners : List ℕ) (places : List ItemPlace) (needs : List SharedItem) (lists : List (List ℕ)) (numbers order : List ℕ) (joined : map list_of items ≡ flat_map (λ items. items) modules) (owned : owners ≡ owners_of 0 modules) (placed_so : places ≡ all_places (map list_of items) owners) (found : AreReferences (group_placed (map first_of (map (numbered_at (map list_of items)) places)) (map second_of (map (numbered_at (map list_of items)) places))) (map references_of needs) lists) (of : map item_owner needs ≡ map second_of (map (numbered_at (map list_of items)) places)) (good : i.IsGoodItemOrder needs lists numbers) (ordered : order ≡ map (λ n. get_or (map at_of places) n 0) numbers) where
  numbered : map (numbered_at (map list_of items)) places ≡ numbered_items modules
  numbered =
      ap (λ (l : List ItemPlace). map (numbered_at (map list_of items)) l) placed_so
      ∙ (ap (λ (l : List (List Item)). map (numbered_at l) (all_places l owners)) joined
      ∙ (ap (λ (l : List ℕ). map (numbered_at (flat_map (λ (items : List (List Item)). items) modules)) (all_places (flat_map (λ (items : List (List Item)). items) modules) l)) owned
      ∙ all-read modules))

  len : length owners ≡ length (map list_of items)
  len = ap length owned ∙ (length-owners 0 modules ∙ ap length (sym joined))

  arranged : IsArrangement (map at_of places) (length (map list_of items))
  arranged = subst (λ (l : List ItemPlace). IsArrangement (map at_of l) (length (map list_of items))) (sym placed_so) (IsArrangement-places (map list_of items) owners len)

  within : (p : ℕ) → Contains (map at_of places) p → p < length (map list_of items)
  within p c = subst (λ x. x < length (map list_of items)) (get_or_default (map at_of places) c.0 0 p c.1 ∙ c.2) (arranged.within c.0 c.1)

  same : group_placed (map first_of (map (numbered_at (map list_of items)) places)) (map second_of (map (numbered_at (map list_of items)) places)) ≡ group_of_items (flat (map first_of (map (numbered_at (map list_of items)) places))) (map second_of (map (numbered_at (map list_of items)) places))
  same =
      let d = drawn items places (λ p c. let w = within p c in omega (arith, w, length-map items list_of)) in
      group-same (map first_of (map (numbered_at (map list_of items)) places)) (map second_of (map (numbered_at (map list_of items)) places)) d.0 d.1

  together : AreTogether (map second_of (map (numbered_at (map list_of items)) places))
  together = subst (λ (l : List Numbered). AreTogether (map second_of l)) (sym numbered) (AreTogether-numbered modules)

  good-group : IsGoodOrder (group_of_items (flat (map first_of (numbered_items modules))) (map second_of (numbered_items modules))) numbers
  good-group =
      subst (λ (l : List Numbered). IsGoodOrder (group_of_items (flat (map first_of l)) (map second_of l)) numbers) numbered
      (subst (λ (g : Group). IsGoodOrder g numbers) same
      (IsGoodOrder-of_group (group_placed (map first_of (map (numbered_at (map list_of items)) places)) (map second_of (map (numbered_at (map list_of items)) places))) needs lists found of together numbers good))

  count : length needs ≡ length (map at_of places)
  count =
      let a = length-map needs item_owner in
      let b = ap length of in
      let c = length-map (map (numbered_at (map list_of items)) places) second_of in
      let d = length-map places (numbered_at (map list_of items)) in
      let e = length-map places at_of in
      omega (arith, a, b, c, d, e)

  all : (n : ℕ) → (n < length (map at_of places)) ↔ Contains numbers n
  all n = subst (λ k. (n < k) ↔ Contains numbers n) count (good.all n)

  pub IsSortedBy-order : IsSortedBy modules (map list_of items) order
  IsSortedBy-order = record {
    numbers = numbers;
    good = good-group;
    each = subst (λ (l : List ℕ). AllZip (λ n at. option_map first_of (slice_get (numbered_items modules) n) ≡ slice_get (map list_of items) at) numbers l) (sym ordered)
        (each-of (numbered_items modules) (map list_of items) (map at_of places) numbers
        (λ n c. ap (λ (l : List Numbered). option_map first_of (slice_get l n)) (sym numbered) ∙ point (map list_of items) places n (let l = (all n).1 c in let e = length-map places at_of in omega (arith, l, e)) within));
    whole = subst (λ (l : List ℕ). IsArrangement l (length (map list_of items))) (sym ordered) (IsArrangement-composed (map at_of places) numbers (length (map list_of items)) arranged all good.once);
  }

-- ---- the items in that order
zipped : (numbered : List Numbered) (items : List ModuleItem) (numbers order : List ℕ) (sorted : List ModuleItem) → AllZip (λ n at. option_map first_of (slice_get numbered n) ≡ slice_get (map list_of items) at) numbers order → AllZip (λ n value. slice_get items n ≡ Some value) order sorted → AllZip (λ n item. option_map first_of (slice_get numbered n) ≡ Some item) numbers (map list_of sorted)
zipped numbered items [] [] [] a b = tt
zipped numbered items [] [] (v ∷ sorted) a b = absurd b
zipped numbered items [] (at ∷ order) sorted a b = absurd a
zipped numbered items (n ∷ numbers) [] sorted a b = absurd a
zipped numbered items (n ∷ numbers) (at ∷ order) [] a b = absurd b
zipped numbered items (n ∷ numbers) (at ∷ order) (v ∷ sorted) a b = (a.0 ∙ (slice_get-map list_of items at ∙ ap (λ (o : Option ModuleItem). option_map list_of o) b.0), zipped numbered items numbers order sorted a.1 b.1)

pub IsSorted-arranged : (modules : List (List (List Item))) (items : List ModuleItem) (order : List ℕ) (sorted : List ModuleItem) → IsSortedBy modules (map (module_item_items 0) items) order → AreArranged order items sorted → IsSorted modules (map (module_item_items 0) sorted)
IsSorted-arranged modules items order sorted by arranged = record {
  order = by.numbers;
  good = by.good;
  items = zipped (numbered_items modules) items by.numbers order sorted by.each arranged;
}

-- ---- items that are joined
abbrev lists_in : Vec ModuleItem Global → List (List Item)
lists_in items = map list_of items.items

pub joined-lists : (modules : List (Vec ModuleItem Global)) → map (module_item_items 0) (flat_map (λ items. items.items) modules) ≡ flat_map (λ items. items) (map (λ items. map (module_item_items 0) items.items) modules)
joined-lists [] = refl
joined-lists (items ∷ rest) = map-append list_of items.items (flat_map (λ (items : Vec ModuleItem Global). items.items) rest) ∙ ap (λ (l : List (List Item)). map list_of items.items ++ l) (joined-lists rest)

pub owners-lists : (k : ℕ) (modules : List (Vec ModuleItem Global)) → owners_of k (map (λ v. v.items) modules) ≡ owners_of k (map (λ items. map (module_item_items 0) items.items) modules)
owners-lists k [] = refl
owners-lists k (items ∷ rest) = ap (λ (l : List ℕ). l ++ owners_of (k + 1) (map (λ (v : Vec ModuleItem Global). v.items) rest)) (one items.items) ∙ ap (λ (l : List ℕ). map (λ (item : List Item). k) (map list_of items.items) ++ l) (owners-lists (k + 1) rest)
  where
    one : (items : List ModuleItem) → map (λ (item : ModuleItem). k) items ≡ map (λ (item : List Item). k) (map list_of items)
    one [] = refl
    one (x ∷ items) = ap (λ (l : List ℕ). k ∷ l) (one items)

-- ---- one module more
pub owners-push : {X : Type 0} (k : ℕ) (modules : List (List X)) (items : List X) → owners_of k (modules ++ items ∷ []) ≡ owners_of k modules ++ map (λ item. k + length modules) items
owners-push {X} k [] items = append-nil (map (λ (item : X). k) items) ∙ ap (λ j. map (λ (item : X). j) items) (let same : k ≡ k + 0 = omega arith in same)
owners-push {X} k (first ∷ modules) items =
    ap (λ (l : List ℕ). map (λ (item : X). k) first ++ l) (owners-push (k + 1) modules items ∙ ap (λ j. owners_of (k + 1) modules ++ map (λ (item : X). j) items) (let same : k + 1 + length modules ≡ k + suc (length modules) = omega arith in same))
    ∙ sym (append_assoc (map (λ (item : X). k) first) (owners_of (k + 1) modules) (map (λ (item : X). k + suc (length modules)) items))

-- ---- all together
abbrev items_of : Vec ModuleItem Global → List ModuleItem
items_of v = v.items

flat-mapped : (modules : List (Vec ModuleItem Global)) → flat_map (λ items. items) (map (λ v. v.items) modules) ≡ flat_map (λ items. items.items) modules
flat-mapped [] = refl
flat-mapped (v ∷ rest) = ap (λ (l : List ModuleItem). v.items ++ l) (flat-mapped rest)

pub as-long : (modules : List (Vec ModuleItem Global)) (joined : List ModuleItem) (owners : List ℕ) → joined ≡ flat_map (λ items. items.items) modules → owners ≡ owners_of 0 (map (λ v. v.items) modules) → length owners ≡ length joined
as-long modules joined owners is owned = ap length owned ∙ (length-owners 0 (map items_of modules) ∙ ap length (flat-mapped modules ∙ sym is))

pub IsSorted-all : (modules : List (Vec ModuleItem Global)) (joined sorted : List ModuleItem) (owners order : List ℕ) → joined ≡ flat_map (λ items. items.items) modules → owners ≡ owners_of 0 (map (λ v. v.items) modules) → ((all : List (List (List Item))) → map (module_item_items 0) joined ≡ flat_map (λ items. items) all → owners ≡ owners_of 0 all → IsSortedBy all (map (module_item_items 0) joined) order) → (IsArrangement order (length joined) → AreArranged order joined sorted) → IsSorted (map (λ items. map (module_item_items 0) items.items) modules) (map (module_item_items 0) sorted)
IsSorted-all modules joined sorted owners order is owned by arranged =
    let all = map lists_in modules in
    let s = by all (ap (λ (l : List ModuleItem). map list_of l) is ∙ joined-lists modules) (owned ∙ owners-lists 0 modules) in
    IsSorted-arranged all joined order sorted s (arranged (subst (λ n. IsArrangement order n) (length-map joined list_of) s.whole))

-- ---- one module alone
read-so : (lists : List (List Item)) (places : List ItemPlace) → map (λ at. get_or lists at []) (map at_of places) ≡ map first_of (map (numbered_at lists) places)
read-so lists [] = refl
read-so lists (p ∷ places) = ap (λ (l : List (List Item)). get_or lists p.at [] ∷ l) (read-so lists places)

pub IsOwnOrder-places : (lists : List (List Item)) (owners : List ℕ) → owners ≡ owners_of 0 (lists ∷ []) → (order : List ℕ) → order ≡ map at_of (all_places lists owners) → IsOwnOrder lists order
IsOwnOrder-places lists owners owned order is =
    let places = all_places lists owners in
    let len : length owners ≡ length lists = ap length owned ∙ (length-owners 0 (lists ∷ []) ∙ ap length (append-nil lists)) in
    record {
      listed = ap (map (λ at. get_or lists at [])) is
          ∙ (read-so lists places
          ∙ ap (λ (l : List Numbered). map first_of l)
          (ap (λ (l : List ℕ). map (numbered_at lists) (all_places lists l)) owned
          ∙ (ap (λ (l : List (List Item)). map (numbered_at l) (all_places l (owners_of 0 (lists ∷ [])))) (sym (append-nil lists))
          ∙ all-read (lists ∷ []))));
      whole = subst (λ (l : List ℕ). IsArrangement l (length lists)) (sym is) (IsArrangement-places lists owners len);
    }

-- the number of one module, for each of its items
pub same-owner : (lists : List (List Item)) → replicate (length lists) 0 ≡ owners_of 0 (lists ∷ [])
same-owner [] = refl
same-owner (x ∷ lists) = ap (λ (l : List ℕ). 0 ∷ l) (same-owner lists)

listed-so : (items sorted : List ModuleItem) (order : List ℕ) → AllZip (λ n value. slice_get items n ≡ Some value) order sorted → map list_of sorted ≡ map (λ at. get_or (map list_of items) at []) order
listed-so items [] [] z = refl
listed-so items (v ∷ sorted) [] z = absurd z
listed-so items [] (n ∷ order) z = absurd z
listed-so items (v ∷ sorted) (n ∷ order) z =
    let here : get_or (map list_of items) n [] ≡ list_of v = get_or_from_slice_get (map list_of items) n (list_of v) [] (slice_get-map list_of items n ∙ ap (λ (o : Option ModuleItem). option_map list_of o) z.0) in
    ap (λ (l : List Item). l ∷ map list_of sorted) (sym here) ∙ ap (λ (l : List (List Item)). get_or (map list_of items) n [] ∷ l) (listed-so items sorted order z.1)

pub own-listed : (items sorted : List ModuleItem) (order : List ℕ) → IsOwnOrder (map (module_item_items 0) items) order → (IsArrangement order (length items) → AreArranged order items sorted) → map (module_item_items 0) sorted ≡ map (λ one. one.0) (numbered_items (map (module_item_items 0) items ∷ []))
own-listed items sorted order own arranged =
    listed-so items sorted order (arranged (subst (λ n. IsArrangement order n) (length-map items list_of) own.whole)) ∙ own.listed
